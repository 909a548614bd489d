-- An edge is read number by number: where a number is refused the edge is, and the fourth number ends it.
use Prim.Native.Nat.{ℕ, suc, ◌+◌, ◌-◌, ◌≤◌, ◌<◌}
use mathlib.Core.Path.{◌≡◌, sym, ◌∙◌, ap}
use mathlib.Core.List.{List}
use native.Mathlib.Omega.{arith}
use lib.ListN.{length, get_or}
use Rattle.std.specs.Prelude.{Result, Ok, Err}
use Rattle.leb128.specs.Grammar.{Grammar, plain, within}
use Rattle.sheet.specs.Limits.{max_kind}
use Rattle.sheet.specs.Grammar.{edge, edges}
use Rattle.leb128.specs.Grammar.Grammar.{number}
use Rattle.sheet.specs.inside.Cursor.{Step, Counted, Reads, Limited, walk_from, resumed, walked, Edge}
use Rattle.sheet.specs.declared.Cursor.{Cursor}
use Rattle.sheet.specs.declared.Input.{Input}
use Rattle.leb128.specs.declared.Refusal.{Refusal}
use Rattle.sheet.proofs.laws.WalkSteps.{walk_done, then_reads, stops, passed, stopped, any_value}

-- what follows the upper position, and what follows the layer
abbrev behind_upper : List ℕ → ℕ → (ℕ → Grammar) → Grammar
behind_upper counts layer next = number plain (within 1 (get_or counts layer 0)) λ lower. number plain (within 0 max_kind) next

-- what follows the layer
abbrev behind_layer : List ℕ → ℕ → (ℕ → Grammar) → Grammar
behind_layer counts layer next = number plain (within 1 (get_or counts (layer - 1) 0)) λ upper. behind_upper counts layer next

-- nothing is said of a value
abbrev Any : ℕ → Type 0
Any n = Unit

module _ {input : Input} {c : Cursor} {step : Step} (counts : List ℕ) (first : Limited input c 1 (length counts - 1) step) where
  -- the layer is refused
  pub layer_refused : {r : Refusal} → step ≡ Err r → Edge input c counts (Err r)
  unfolding edge
  layer_refused e = record { passes = stopped (stops first.reads {Q = Any} (behind_layer counts) e) e }

  module _ {layer : ℕ} {c₁ : Cursor} {upper : Step} (is-layer : step ≡ Ok (layer, c₁)) (second : Limited input c₁ 1 (get_or counts (layer - 1) 0) upper) where
    -- the upper position is refused
    pub upper_refused : {r : Refusal} → upper ≡ Err r → Edge input c counts (Err r)
    unfolding edge
    upper_refused e =
        record {
          passes =
              stopped
              (then_reads first.reads (behind_layer counts) is-layer
              (stops second.reads {Q = Any} (λ n. behind_upper counts layer) e)) e;
        }

    module _ {n : ℕ} {c₂ : Cursor} {lower : Step} (is-upper : upper ≡ Ok (n, c₂)) (third : Limited input c₂ 1 (get_or counts layer 0) lower) where
      -- the lower position is refused
      pub lower_refused : {r : Refusal} → lower ≡ Err r → Edge input c counts (Err r)
      unfolding edge
      lower_refused e =
          record {
            passes =
                stopped
                (then_reads first.reads (behind_layer counts) is-layer
                (then_reads second.reads (λ n. behind_upper counts layer) is-upper
                (stops third.reads {Q = Any} (λ n. number plain (within 0 max_kind)) e))) e;
          }

      module _ {m : ℕ} {c₃ : Cursor} {kind : Step} (is-lower : lower ≡ Ok (m, c₃)) (last : Limited input c₃ 0 max_kind kind) where
        -- the kind is read behind the others
        all_reads : Reads input c (edge counts) Any kind
        unfolding edge
        all_reads =
            then_reads first.reads (behind_layer counts) is-layer
            (then_reads second.reads (λ n. behind_upper counts layer) is-upper
            (then_reads third.reads (λ n. number plain (within 0 max_kind)) is-lower (any_value last.reads)))

        -- the kind is refused
        pub kind_refused : {r : Refusal} → kind ≡ Err r → Edge input c counts (Err r)
        kind_refused e = record { passes = stopped all_reads e }

        -- the kind ends the edge
        pub edge_read : {k : ℕ} {c₄ : Cursor} → kind ≡ Ok (k, c₄) → Edge input c counts (Ok c₄)
        edge_read e = record { passes = passed all_reads e }

-- the loop over the edges: i of n are read, and from c on the others follow
pub record EdgesLeft (input : Input) (counts : List ℕ) (start : Cursor) (n : ℕ) (c : Cursor) (i : ℕ) : Type 0 where
  pub counted : Counted input c
  pub turns : i ≤ n
  pub same : walk_from input c (edges (n - i) counts) ≡ walk_from input start (edges n counts)

module _ {input : Input} {counts : List ℕ} {start c : Cursor} {n i : ℕ} (left : EdgesLeft input counts start n c i) where
  -- all edges are read
  pub edges_end : n ≤ i → walked (Ok c) ≡ walk_from input start (edges n counts)
  unfolding edges
  edges_end h =
      sym (walk_done input c)
      ∙
      (sym (ap (λ (k : ℕ). walk_from input c (edges k counts)) {x = n - i} {y = 0} (omega arith)) ∙ left.same)

  module _ {answer : Result Cursor Refusal} (more : i < n) (read : Edge input c counts answer) where
    -- an edge is read, and the others follow
    one_more : resumed input answer (edges (n - (i + 1)) counts) ≡ walk_from input start (edges n counts)
    unfolding edges
    one_more =
        let e : n - i ≡ suc (n - (i + 1)) = omega arith in
        sym (read.passes.follows (edges (n - (i + 1)) counts)) ∙ rw e at left.same

    -- an edge is refused
    pub edges_refused : {r : Refusal} → answer ≡ Err r → walked (Err r) ≡ walk_from input start (edges n counts)
    unfolding resumed
    edges_refused e = rw e at one_more

    -- an edge is read
    pub edges_next : {next : Cursor} → answer ≡ Ok next → EdgesLeft input counts start n next (i + 1)
    unfolding resumed
    edges_next e = record { counted = rw e at read.passes.good; turns = omega arith; same = rw e at one_more }
