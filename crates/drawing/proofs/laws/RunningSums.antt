-- The sums from a node on: from node 0 on it is the total, behind all nodes it is 0, it never grows from a node to a later one, and so it
-- stays within the total's limit. So the sum after a layer never falls to the one above it, and after the first layer it is the total:
-- layers start at rising nodes.
use Prim.Native.Nat.{ℕ, zero, suc, ◌+◌, ◌≤◌, ◌<◌}
use Rattle.std.specs.Prelude.{◌≡◌, cond, List, [], ◌∷◌, map, leb, length, drop}
use Rattle.std.proofs.Math.Path.{refl, ap, fun_ext}
use Rattle.std.proofs.Common.{◌∙◌, ⊎_elim, le_refl, arith, le-leb}
use Rattle.std.proofs.Math.ListN.{get_or}
use Rattle.std.proofs.lemmas.Bool.{lt-leb}
use Rattle.leb128.specs.Grammar.{Accepts}
use Rattle.leb128.specs.laws.Cases.{lt_or_le}
use Rattle.sheet.specs.Limits.{max_nodes}
use Rattle.sheet.specs.Layout.{layers_at, first_layer_at, nodes_at, next_layer}
use Rattle.sheet.specs.Grammar.{sheet}
use Rattle.sheet.specs.laws.Sheets.{good_layout}
use Rattle.network.specs.Sums.{sumℕ}
use Rattle.network.specs.laws.Sums.{sum_zero}
use Rattle.drawing.specs.Sheet.{Layer, Edge, Sheet, layers_of, sheet_of}
use Rattle.drawing.specs.Traces.{traces}
use Rattle.drawing.specs.Drawing.{weighted_length, total_length, total_from, running_sums, Drawing}
use Rattle.drawing.specs.Proper.{max_total, proper_edge, Proper}
use Rattle.drawing.specs.laws.Good.{GoodLayers, Good}
use Rattle.drawing.specs.laws.GoodNumbers.{accepts_good}
use Rattle.drawing.proofs.laws.ProperEdges.{edge_parts, proper_traces}
use Rattle.drawing.proofs.laws.Unique.{total_most}

-- everything counts from node 0 on
pub zero_all : (x n : ℕ) → cond (leb 0 x) n 0 ≡ n
zero_all x n = rw (le-leb 0 x (omega arith)) refl

-- what counts from a later node on counts from an earlier one on
pub later_less : {v w : ℕ} → v ≤ w → (x n : ℕ) → cond (leb w x) n 0 ≤ cond (leb v x) n 0
later_less {v} {w} h x n =
    ⊎_elim
    (λ (l : x < w). rw (lt-leb w x l) (omega arith))
    (λ (l : w ≤ x). rw (le-leb w x l, le-leb v x (omega arith)) (le_refl _))
    (lt_or_le x w)

-- terms that are at most others
sum_le : {A : Type 0} (f g : A → ℕ) → ((x : A) → f x ≤ g x) → (xs : List A) → sumℕ f xs ≤ sumℕ g xs
sum_le f g h [] = omega arith
sum_le f g h (x ∷ xs) = omega (arith, h x, sum_le f g h xs)

module _ (S : Sheet) (p : List ℕ) where
  -- from node 0 on: the total
  pub from_all : total_from 0 S p ≡ total_length S p
  unfolding total_from total_length
  from_all = ap (λ (f : Edge → ℕ). sumℕ f (traces S.edges)) (fun_ext (λ (e : Edge). zero_all e.lower (weighted_length p e)))

  -- from a later node on: no more
  pub from_falls : (v w : ℕ) → v ≤ w → total_from w S p ≤ total_from v S p
  unfolding total_from
  from_falls v w h = sum_le _ _ (λ (e : Edge). later_less h e.lower (weighted_length p e)) (traces S.edges)

  -- behind all nodes of a proper sheet: nothing
  pub from_none : Proper S → total_from S.nodes S p ≡ 0
  unfolding total_from
  from_none proper =
      sum_zero (proper_edge S.nodes) _
      (λ (e : Edge) t. rw (lt-leb S.nodes e.lower (edge_parts S.nodes e t).lower) refl)
      (traces S.edges) (proper_traces S proper)

  -- of a drawing, from any node on: at most 2,096,640
  pub from_small : (v : ℕ) → Proper S → Drawing S p → total_from v S p ≤ max_total
  from_small v proper d = omega (arith, from_falls 0 v (omega arith), from_all, total_most S p proper d)

-- the first nodes of n layers from node v on
abbrev firsts : ℕ → ℕ → List ℕ → List ℕ
firsts n v s = map (λ (l : Layer). l.first) (layers_of n v s)

-- each is before the next one, and before all numbers that are no nodes
layers_rise : (n v : ℕ) (s : List ℕ) → GoodLayers max_nodes n v s → (i : ℕ) → i < length (layers_of n v s)
    → get_or (firsts n v s) i max_nodes < get_or (firsts n v s) (suc i) max_nodes
layers_rise zero v s g i h = absurd (omega arith)
layers_rise (suc zero) v s g zero h = omega (arith, g.0.some, g.0.room)
layers_rise (suc (suc n)) v s g zero h = omega (arith, g.0.some)
layers_rise (suc n) v s g (suc i) h = layers_rise n (v + get_or s nodes_at 0) (next_layer s) g.1 i (omega arith)

-- the sum after a layer is that from its first node on
pub layer_sum : (f : ℕ → ℕ) (ls : List Layer) (i : ℕ) → i < length ls
    → get_or (map (λ (l : Layer). f l.first) ls) i 0 ≡ f (get_or (map (λ (l : Layer). l.first) ls) i max_nodes)
layer_sum f [] i h = absurd (omega arith)
layer_sum f (l ∷ ls) zero h = refl
layer_sum f (l ∷ ls) (suc i) h = layer_sum f ls i (omega arith)

module _ (s : List ℕ) (a : Accepts sheet s) where
  -- the sheet
  abbrev S : Sheet
  S = sheet_of s

  -- the first nodes of its layers
  abbrev starts : List ℕ
  starts = map (λ (l : Layer). l.first) S.layers

  -- its layers are good
  good : Good max_nodes s
  good = accepts_good max_nodes (good_layout s a).nodes a

  -- each layer starts before the next one
  pub starts_rise : (i : ℕ) → i < length S.layers → get_or starts i max_nodes < get_or starts (suc i) max_nodes
  unfolding sheet_of
  starts_rise = layers_rise (get_or s layers_at 0) 0 (drop first_layer_at s) good.layers

  -- the first one starts at node 0
  pub starts_zero : get_or starts 0 max_nodes ≡ 0
  unfolding sheet_of
  starts_zero = go (get_or s layers_at 0) (good_layout s a).layer_count.0
    where
      go : (n : ℕ) → 1 ≤ n → get_or (firsts n 0 (drop first_layer_at s)) 0 max_nodes ≡ 0
      go zero h = absurd (omega arith)
      go (suc n) h = refl

  -- so there is one
  pub some_layer : 0 < length S.layers
  some_layer = go S.layers starts_zero
    where
      go : (ls : List Layer) → get_or (map (λ (l : Layer). l.first) ls) 0 max_nodes ≡ 0 → 0 < length ls
      go [] e = absurd (omega arith)
      go (l ∷ ls) e = omega arith

  module _ (p : List ℕ) where
    -- after the first layer it is the total
    pub sums_first : get_or (running_sums (sheet_of s) p) 0 0 ≡ total_length (sheet_of s) p
    sums_first =
        layer_sum (λ (v : ℕ). total_from v S p) S.layers 0 some_layer ∙ ap (λ (v : ℕ). total_from v S p) starts_zero ∙ from_all S p

    -- it never falls from a layer to the one above it
    pub sums_fall : (i : ℕ) → suc i < length (sheet_of s).layers
        → get_or (running_sums (sheet_of s) p) (suc i) 0 ≤ get_or (running_sums (sheet_of s) p) i 0
    sums_fall i h =
        let rise : get_or starts i max_nodes < get_or starts (suc i) max_nodes = starts_rise i (omega arith) in
        omega (
          arith,
          layer_sum (λ (v : ℕ). total_from v S p) S.layers (suc i) h,
          layer_sum (λ (v : ℕ). total_from v S p) S.layers i (omega arith),
          from_falls S p (get_or starts i max_nodes) (get_or starts (suc i) max_nodes) (omega arith),
        )
