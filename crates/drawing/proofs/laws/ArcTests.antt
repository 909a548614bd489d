-- The tests and costs of a sheet's arcs are document 01's, kind by kind: a tension is a difference of two coordinates.
use Rattle.std.specs.Prelude.{◌≡◌, ◌&&◌, leb, eqb, length, negsuc, neg_ℤ, ◌+ℤ◌}
use Rattle.std.proofs.Math.Path.{refl, ap}
use Rattle.std.proofs.Common.{sym, ◌∙◌, ap₂, eq-eqb}
use mathlib.Core.List.{List, [], ◌∷◌, flat_map}
use Rattle.std.proofs.Math.Bool.{true, and-true}
use Prim.Native.Nat.{ℕ, zero, suc, ◌+◌, ◌-◌, ◌*◌}
use Rattle.std.proofs.Math.Nat.{mul-zero}
use native.Mathlib.Omega.{arith}
use Rattle.std.proofs.Math.Dec.{T, leb→le, le→leb, eqb→eq}
use Rattle.std.proofs.Math.IntN.{ℤ, pos}
use Rattle.network.specs.laws.IntegerParts.{up_neg, down_neg, min_parts}
use Rattle.network.specs.Integers.{down, up}
use Rattle.network.specs.Sums.{sum, all}
use Rattle.network.specs.laws.Tests.{test_ext, all_ext, all_append, all_flat}
use Rattle.network.specs.laws.Sums.{sum_append, sum_flat, sum_null}
use Rattle.network.specs.Network.{Arc, integers, past_kink, legal_at, cost_at, legal, cost, upper_bound}
use Rattle.network.specs.laws.ArcSlack.{costless}
use Rattle.network.specs.laws.UpperBounds.{past_kink_parts, upper_bound_at, at_upper_bound}
use Rattle.drawing.specs.Sheet.{Pair, Layer}
use Rattle.drawing.specs.Drawing.{coordinate, within_maximum, separated, aligned}
use Rattle.drawing.specs.Arcs.{edge_arc_between, minimum_arc, maximum_arc, separation_arcs, layer_arcs}

module _ (p : List ℕ) where
  -- the arc of a minimum separation tests the minimum
  minimum_is : (x : Pair)
      → legal (integers p) (minimum_arc x) ≡ leb (coordinate p x.left + x.minimum) (coordinate p (suc x.left))
  unfolding up down
  minimum_is x = test_ext (legal (integers p) (minimum_arc x)) (leb (coordinate p x.left + x.minimum) (coordinate p (suc x.left)))
      (λ t. le→leb (coordinate p x.left + x.minimum) (coordinate p (suc x.left))
      (omega (arith, upper_bound_at p (suc x.left) x.left (neg_ℤ (pos x.minimum)) t, up_neg (pos x.minimum), down_neg (pos x.minimum))))
      (λ t. at_upper_bound p (suc x.left) x.left (neg_ℤ (pos x.minimum))
      (omega (arith, leb→le (coordinate p x.left + x.minimum) (coordinate p (suc x.left)) t, up_neg (pos x.minimum), down_neg (pos x.minimum))))

  -- the arc of a maximum separation tests the maximum, where one is set
  maximum_is : (maximum v : ℕ)
      → legal (integers p) (maximum_arc maximum v) ≡ within_maximum maximum (coordinate p v) (coordinate p (suc v))
  unfolding up down
  maximum_is zero v = free (past_kink (integers p) (maximum_arc 0 v))
    where
      -- where none is set, every side is legal
      free : (d : ℤ) → legal_at (maximum_arc 0 v) d ≡ true
      free (pos zero) = refl
      free (pos (suc n)) = refl
      free (negsuc n) = refl
  maximum_is (suc maximum) v = test_ext (legal (integers p) (maximum_arc (suc maximum) v)) (leb (coordinate p (suc v)) (coordinate p v + suc maximum))
      (λ t. le→leb (coordinate p (suc v)) (coordinate p v + suc maximum) (omega (arith, upper_bound_at p v (suc v) (pos (suc maximum)) t)))
      (λ t. at_upper_bound p v (suc v) (pos (suc maximum)) (omega (arith, leb→le (coordinate p (suc v)) (coordinate p v + suc maximum) t)))

  -- the two arcs of a pair test its separations
  separation_is : (x : Pair) → all (legal (integers p)) (separation_arcs x) ≡ separated p x
  separation_is x =
      ap₂ ◌&&◌ (minimum_is x)
      (and-true (legal (integers p) (maximum_arc x.maximum x.left)) ∙ maximum_is x.maximum x.left)

  -- the arc of an edge tests whether a straight edge is straight
  pub edge_is : (kind weight u v : ℕ) → legal (integers p) (edge_arc_between kind weight u v)
      ≡ aligned kind (coordinate p u) (coordinate p v)
  unfolding up down
  edge_is zero weight u v = free (past_kink (integers p) (edge_arc_between 0 weight u v))
    where
      -- a plain edge's arc is legal on every side
      free : (d : ℤ) → legal_at (edge_arc_between 0 weight u v) d ≡ true
      free (pos zero) = refl
      free (pos (suc n)) = refl
      free (negsuc n) = refl
  edge_is (suc kind) weight u v =
      let d : ℤ = past_kink (integers p) (edge_arc_between (suc kind) weight u v) in
      test_ext (legal (integers p) (edge_arc_between (suc kind) weight u v)) (eqb (coordinate p u) (coordinate p v))
      (λ t. rw (eq-eqb (coordinate p u) (coordinate p v) (omega (arith, past_kink_parts p u v (pos 0), straight_parts d t))) tt)
      (λ t. parts_straight d (omega (arith, past_kink_parts p u v (pos 0), eqb→eq (coordinate p u) (coordinate p v) t)))
    where
      -- a straight edge's arc that is legal is at its kink
      straight_parts : (d : ℤ) → T (legal_at (edge_arc_between (suc kind) weight u v) d) → up d ≡ down d
      straight_parts (pos zero) t = refl
      straight_parts (pos (suc n)) t = absurd t
      straight_parts (negsuc n) t = absurd t

      -- a straight edge's arc that is at its kink is legal
      parts_straight : (d : ℤ) → up d ≡ down d → T (legal_at (edge_arc_between (suc kind) weight u v) d)
      parts_straight (pos zero) e = tt
      parts_straight (pos (suc n)) e = absurd (omega arith)
      parts_straight (negsuc n) e = absurd (omega arith)

  -- the boundaries, where ground's coordinate is 0
  module _ (width ground : ℕ) (zero-there : coordinate p ground ≡ 0) where
    -- a left boundary is always legal, as no coordinate is below 0
    left_boundary : (v : ℕ) → legal (integers p) (upper_bound v ground (pos 0)) ≡ true
    unfolding up down
    left_boundary v =
        test_ext (legal (integers p) (upper_bound v ground (pos 0))) true (λ t. tt)
        (λ t. at_upper_bound p v ground (pos 0) (omega arith))

    -- a right boundary tests whether a coordinate is within the width
    right_boundary : (v : ℕ) → legal (integers p) (upper_bound ground v (pos width)) ≡ leb (coordinate p v) width
    unfolding up down
    right_boundary v = test_ext (legal (integers p) (upper_bound ground v (pos width))) (leb (coordinate p v) width)
        (λ t. le→leb (coordinate p v) width (omega (arith, upper_bound_at p ground v (pos width) t)))
        (λ t. at_upper_bound p ground v (pos width) (omega (arith, leb→le (coordinate p v) width t)))

    -- the arcs of a layer test its separations, and whether its last node is within the width
    pub layer_is : (l : Layer)
        → all (legal (integers p)) (layer_arcs width ground l) ≡ (all (separated p) l.pairs && leb (coordinate p (l.first + length l.pairs)) width)
    layer_is l =
        ap₂ ◌&&◌ (left_boundary l.first)
        (all_append (legal (integers p)) (flat_map separation_arcs l.pairs) (upper_bound ground (l.first + length l.pairs) (pos width) ∷ [])
        ∙ ap₂ ◌&&◌ (all_flat (legal (integers p)) separation_arcs l.pairs ∙ all_ext (λ x. all (legal (integers p)) (separation_arcs x)) (separated p) separation_is l.pairs)
        (and-true (legal (integers p) (upper_bound ground (l.first + length l.pairs) (pos width))) ∙ right_boundary (l.first + length l.pairs)))

  -- the arc of an edge costs the edge's length times its weight, where a straight edge is straight
  pub edge_cost : (kind weight u v : ℕ) → T (aligned kind (coordinate p u) (coordinate p v))
      → cost (integers p) (edge_arc_between kind weight u v)
      ≡ pos (weight * ((coordinate p v - coordinate p u) + (coordinate p u - coordinate p v)))
  unfolding up down
  edge_cost zero weight u v t =
      plain weight (past_kink (integers p) (edge_arc_between 0 weight u v))
      ∙ ap (λ (n : ℕ). pos (weight * n))
      (omega (arith, past_kink_parts p u v (pos 0), min_parts (past_kink (integers p) (edge_arc_between 0 weight u v))))
    where
      -- a plain edge's arc costs its distance from the kink times the weight
      plain : (w : ℕ) (d : ℤ) → cost_at (edge_arc_between 0 w u v) d ≡ pos (w * (up d + down d))
      plain w (pos n) = ap (λ (k : ℕ). pos (w * k)) (omega arith)
      plain zero (negsuc n) = costless (edge_arc_between 0 0 u v) refl refl (negsuc n) ∙ ap pos (omega arith)
      plain (suc w) (negsuc n) = ap (λ (k : ℕ). pos (suc w * k)) (omega arith)
  edge_cost (suc kind) weight u v t =
      costless (edge_arc_between (suc kind) weight u v) refl refl (past_kink (integers p) (edge_arc_between (suc kind) weight u v))
      ∙ ap pos (sym (ap (λ (n : ℕ). weight * n) (none (coordinate p u) (coordinate p v) (eqb→eq (coordinate p u) (coordinate p v) t))
      ∙ mul-zero weight))
    where
      -- equal coordinates have no distance
      none : (a b : ℕ) → a ≡ b → (b - a) + (a - b) ≡ 0
      none a b e = omega arith

  -- the two arcs of a pair cost nothing
  separation_cost : (x : Pair) → sum (cost (integers p)) (separation_arcs x) ≡ pos 0
  separation_cost x =
      ap₂ ◌+ℤ◌ (costless (minimum_arc x) refl refl (past_kink (integers p) (minimum_arc x)))
      (ap (λ (z : ℤ). z +ℤ pos 0) (maximum_cost x.maximum))
    where
      -- that of the maximum separation, set or not
      maximum_cost : (maximum : ℕ) → cost (integers p) (maximum_arc maximum x.left) ≡ pos 0
      maximum_cost zero = costless (maximum_arc 0 x.left) refl refl (past_kink (integers p) (maximum_arc 0 x.left))
      maximum_cost (suc maximum) =
          costless (maximum_arc (suc maximum) x.left) refl refl
          (past_kink (integers p) (maximum_arc (suc maximum) x.left))

  -- the arcs of a layer cost nothing
  pub layer_cost : (width ground : ℕ) (l : Layer) → sum (cost (integers p)) (layer_arcs width ground l) ≡ pos 0
  layer_cost width ground l =
      let left : Arc = upper_bound l.first ground (pos 0) in
      let right : Arc = upper_bound ground (l.first + length l.pairs) (pos width) in
      ap₂ ◌+ℤ◌ (costless left refl refl (past_kink (integers p) left))
      (sum_append (cost (integers p)) (flat_map separation_arcs l.pairs) (right ∷ [])
      ∙ ap₂ ◌+ℤ◌ (sum_flat (cost (integers p)) separation_arcs l.pairs ∙ sum_null (λ x. sum (cost (integers p)) (separation_arcs x)) separation_cost l.pairs)
      (ap (λ (z : ℤ). z +ℤ pos 0) (costless right refl refl (past_kink (integers p) right))))
