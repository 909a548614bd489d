-- The sheet is read part by part: where a part is refused the sheet is, and the edges end it.
use Prim.Native.Nat.{ℕ}
use mathlib.Core.Path.{◌≡◌, sym, ◌∙◌, ap}
use mathlib.Core.List.{List, []}
use lib.ListN.{length}
use Rattle.sheet.specs.Limits.{max_width, max_layers, max_nodes, max_edges}
use Rattle.leb128.specs.Grammar.{Grammar, plain, within}
use Rattle.sheet.specs.Grammar.{layers, edges, sheet}
use Rattle.leb128.specs.Grammar.Grammar.{number}
use Rattle.sheet.specs.inside.Cursor.{Step, Measure, Limited, walk_from, onward, walked, LayersRead}
use Rattle.sheet.specs.declared.Cursor.{Cursor}
use Rattle.leb128.specs.declared.Refusal.{Refusal}
use Rattle.sheet.specs.declared.Input.{Input}
use Rattle.std.specs.Prelude.{Ok, Err}

-- what follows the layers, and what follows the width
abbrev behind_layers : List ℕ → Grammar
behind_layers counts = number plain (within 0 max_edges) λ m. edges m counts

-- what follows the width
abbrev behind_width : Grammar
behind_width = number plain (within 1 max_layers) λ n. layers n max_nodes [] behind_layers

module _ (input : Input) where
  -- a step with a value goes on
  went_on : {step : Step} {n : ℕ} {after : Cursor} → step ≡ Ok (n, after) → (next : ℕ → Grammar)
      → onward input step next ≡ walk_from input after (next n)
  unfolding onward
  went_on e next = rw e

  -- a refusal is handed on
  handed : {step : Step} {r : Refusal} → step ≡ Err r → (next : ℕ → Grammar) → onward input step next ≡ walked (Err r)
  unfolding onward
  handed e next = rw e

module _ {input : Input} where
  module _ {start : Cursor} {width : Step} (first : Limited input start 0 max_width width) where
    -- on from the width
    from_width : walk_from input start sheet ≡ onward input width (λ n. behind_width)
    unfolding sheet
    from_width = first.reads.follows (λ n. behind_width)

    -- the width is refused
    pub width_refused : {r : Refusal} → width ≡ Err r → walked (Err r) ≡ walk_from input start sheet
    width_refused e = sym (from_width ∙ handed input e (λ n. behind_width))

    module _ {w : ℕ} {c₁ : Cursor} {count : Step} (is-width : width ≡ Ok (w, c₁)) (second : Limited input c₁ 1 max_layers count) where
      -- on from the count of layers
      from_count : walk_from input start sheet ≡ onward input count (λ n. layers n max_nodes [] behind_layers)
      from_count =
          from_width
          ∙
          (went_on input is-width (λ n. behind_width)
          ∙ second.reads.follows (λ n. layers n max_nodes [] behind_layers))

      -- the count of layers is refused
      pub count_refused : {r : Refusal} → count ≡ Err r → walked (Err r) ≡ walk_from input start sheet
      count_refused e = sym (from_count ∙ handed input e (λ n. layers n max_nodes [] behind_layers))

      module _ {n : ℕ} {c₂ : Cursor} {counts : List ℕ} {last : Step} (is-count : count ≡ Ok (n, c₂))
          (size : length counts ≡ n) (third : LayersRead input c₂ counts last) where
        -- on from the layers
        from_layers : walk_from input start sheet ≡ onward input last (λ m. behind_layers counts)
        from_layers =
            from_count
            ∙ (went_on input is-count (λ n. layers n max_nodes [] behind_layers)
            ∙ (ap (λ (k : ℕ). walk_from input c₂ (layers k max_nodes [] behind_layers)) (sym size) ∙ third.follows behind_layers))

        -- a layer is refused
        pub layers_refused : {r : Refusal} → last ≡ Err r → walked (Err r) ≡ walk_from input start sheet
        layers_refused e = sym (from_layers ∙ handed input e (λ m. behind_layers counts))

        module _ {l : ℕ} {c₃ : Cursor} {total : Step} (is_last : last ≡ Ok (l, c₃)) (fourth : Limited input c₃ 0 max_edges total) where
          -- on from the count of edges
          from_total : walk_from input start sheet ≡ onward input total (λ m. edges m counts)
          from_total = from_layers ∙ (went_on input is_last (λ m. behind_layers counts) ∙ fourth.reads.follows (λ m. edges m counts))

          -- the count of edges is refused
          pub total_refused : {r : Refusal} → total ≡ Err r → walked (Err r) ≡ walk_from input start sheet
          total_refused e = sym (from_total ∙ handed input e (λ m. edges m counts))

          -- the edges end the sheet
          pub sheet_walked : {m : ℕ} {c₄ : Cursor} {answer : Measure} → total ≡ Ok (m, c₄)
              → answer ≡ walk_from input c₄ (edges m counts) → answer ≡ walk_from input start sheet
          sheet_walked e h = h ∙ sym (from_total ∙ went_on input e (λ m. edges m counts))
