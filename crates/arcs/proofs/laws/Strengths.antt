-- The strength that an edge takes gives the arc of what it carries: the greatest strength is that of the greatest kind and weight.
use Prim.Native.Nat.{ℕ, zero, suc, max, ◌≤◌}
use mathlib.Core.Path.{◌≡◌, refl, ◌∙◌, ap}
use mathlib.Core.Bool.{Bool, true, false, cond}
use mathlib.Core.List.{List, [], ◌∷◌}
use native.Mathlib.Omega.{arith}
use lib.Dec.{T, leb, leb→le, le→leb}
use borrow.Author.Tests.{le-leb}
use Rattle.network.specs.Sums.{all}
use Rattle.network.specs.laws.Tests.{and_left, and_right, all_map}
use Rattle.sheet.specs.Limits.{max_weight}
use Rattle.drawing.specs.Sheet.{Edge, edges_of}
use Rattle.drawing.specs.Traces.{parallel, any_parallel, greatest_parallel, whole_trace, bare}
use Rattle.drawing.specs.Arcs.{edge_arc_between, edge_arc}
use Rattle.drawing.specs.Proper.{proper_edge}
use Rattle.drawing.specs.laws.Good.{GoodEdges}
use Rattle.drawing.proofs.laws.Proper.{edges_proper}
use Rattle.drawing.proofs.laws.ProperEdges.{edge_parts}
use Rattle.drawing.specs.laws.Traces.{greatest_le}
use Rattle.arcs.specs.inside.Traces.{strength_of, strength, strength_arc, strongest, left_over}

-- an edge's weight is within the limit
abbrev pub light : Edge → Bool
light e = leb e.weight max_weight

-- those of good edges are
pub good_light : (n : ℕ) (first : List ℕ) (m : ℕ) (s : List ℕ) → GoodEdges n first m s → T (all light (edges_of first m s))
good_light n first m s g =
    all_map (proper_edge n) light (λ e t. le→leb e.weight max_weight (edge_parts n e t).weight) (edges_of first m s)
    (edges_proper n first m s g)

-- of two strengths straight is the greater
strength_max : (a b v w : ℕ) → v ≤ max_weight → w ≤ max_weight
    → max (strength_of a v) (strength_of b w) ≡ strength_of (max a b) (max v w)
strength_max a b v w h k = go a b (max a b) refl
  where
    go : (a b m : ℕ) → max a b ≡ m → max (strength_of a v) (strength_of b w) ≡ strength_of m (max v w)
    go zero zero zero e = refl
    go zero zero (suc m) e = absurd (omega arith)
    go zero (suc b) zero e = absurd (omega arith)
    go zero (suc b) (suc m) e = omega arith
    go (suc a) b zero e = absurd (omega arith)
    go (suc a) zero (suc m) e = omega arith
    go (suc a) (suc b) (suc m) e = omega arith

-- the greatest strength is that of the greatest kind and the greatest weight
strongest_is : (e : Edge) (es : List Edge) → T (all light es)
    → strongest es e ≡ strength_of (greatest_parallel (λ x. x.kind) e es) (greatest_parallel (λ x. x.weight) e es)
strongest_is e [] t = refl
strongest_is e (x ∷ xs) t =
    let kind : ℕ = greatest_parallel (λ x. x.kind) e xs in
    let weight : ℕ = greatest_parallel (λ x. x.weight) e xs in
    let others : T (all light xs) = and_right (light x) (all light xs) t in
    let again : strongest xs e ≡ strength_of kind weight = strongest_is e xs others in
    by_case (parallel e x) kind weight (max x.kind kind) (max x.weight weight) again
    (ap (max (strength x)) again
    ∙ strength_max x.kind kind x.weight weight (leb→le x.weight max_weight (and_left (light x) (all light xs) t))
    (greatest_le (λ x. x.weight) max_weight e xs others))
  where
    by_case : (b : Bool) (k w k' w' : ℕ) {s s' : ℕ} → s ≡ strength_of k w → s' ≡ strength_of k' w'
        → cond b s' s ≡ strength_of (cond b k' k) (cond b w' w)
    by_case true k w k' w' e f = f
    by_case false k w k' w' e f = e

-- the arc of the strength of a kind and a weight is the arc of that kind and weight
arc_is : (kind weight u v : ℕ) → weight ≤ max_weight → strength_arc (strength_of kind weight) u v ≡ edge_arc_between kind weight u v
arc_is zero weight u v h = rw (le-leb weight max_weight h)
arc_is (suc kind) weight u v h = refl

-- the arc of what is left over for an edge is the arc of what it carries
pub left_over_arc : (e : Edge) (es before : List Edge) → T (all light es)
    → strength_arc (left_over es before e) e.upper e.lower ≡ edge_arc (cond (any_parallel e before) (bare e) (whole_trace es e))
left_over_arc e es before t = by_case (any_parallel e before)
  where
    by_case : (b : Bool) → strength_arc (cond b 0 (strongest es e)) e.upper e.lower ≡ edge_arc (cond b (bare e) (whole_trace es e))
    by_case true = refl
    by_case false =
        ap (λ (s : ℕ). strength_arc s e.upper e.lower) (strongest_is e es t)
        ∙ arc_is (greatest_parallel (λ x. x.kind) e es) (greatest_parallel (λ x. x.weight) e es) e.upper e.lower
        (greatest_le (λ x. x.weight) max_weight e es t)
