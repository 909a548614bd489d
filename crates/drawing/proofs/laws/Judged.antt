-- The checker's decision is the network's, whose yes shows least total by duality.
use Rattle.std.specs.Prelude.{◌≡◌, List, ◌&&◌, ℕ, leb, eqb, length, ℤ, pos, ◌≤ℤ◌}
use Rattle.std.proofs.Math.Path.{sym, subst}
use Rattle.std.proofs.Common.{◌∙◌, eq-eqb}
use Rattle.std.proofs.Math.Bool.{Bool}
use Rattle.std.proofs.Math.Dec.{T, eqb→eq}
use Rattle.network.specs.Integers.{eqZ}
use Rattle.network.specs.laws.Integers.{eqZ→eq, eq→eqZ}
use Rattle.network.specs.Sums.{all}
use Rattle.network.specs.laws.Tests.{and_left, and_right, and_both, test_ext}
use Rattle.network.specs.Network.{Network, Feasible, integers, legal, total, is_feasible}
use Rattle.network.specs.Flows.{rules, bound as network-bound, certifies}
use Rattle.network.proofs.laws.Certified.{feasible_is, certified_least}
use Rattle.network.proofs.laws.Duality.{weak_duality}
use Rattle.drawing.specs.Sheet.{Sheet, sheet_of}
use Rattle.drawing.specs.Drawing.{separated, edge_aligned, Drawing, is_drawing, total_length, LeastDrawing}
use Rattle.drawing.specs.Certificate.{meets_rules, bound}
use Rattle.drawing.specs.Judged.{judged}
use Rattle.drawing.specs.Arcs.{network}
use Rattle.drawing.proofs.laws.SameDrawings.{drawing_feasible, same_total, feasible_drawing, least_drawing}
use Rattle.drawing.proofs.laws.SameRules.{same_rules, same_bound}

-- the checker's yes, as facts
pub record Accepted (S : Sheet) (p : List ℕ) (y : List ℤ) : Type 0 where
  pub drawing : Drawing S p
  pub rules : T (meets_rules S y)
  pub equal : bound S y ≡ pos (total_length S p)

module _ (S : Sheet) (p : List ℕ) where
  -- there is a coordinate for each node
  abbrev size_test : Bool
  size_test = eqb (length p) S.nodes

  -- every coordinate is within the width
  abbrev inside_test : Bool
  inside_test = all (λ x. leb x S.width) p

  -- every pair has its separations
  abbrev separations_test : Bool
  separations_test = all (λ l. all (separated p) l.pairs) S.layers

  -- every straight edge is straight
  abbrev straight_test : Bool
  straight_test = all (edge_aligned p) S.edges

  -- coordinates that pass the test are a drawing
  pub test_drawing : T (is_drawing S p) → Drawing S p
  unfolding is_drawing
  test_drawing t =
      let rest : T (inside_test && (separations_test && straight_test)) = and_right size_test (inside_test && (separations_test && straight_test)) t in
      let last : T (separations_test && straight_test) = and_right inside_test (separations_test && straight_test) rest in
      record {
        size = eqb→eq (length p) S.nodes (and_left size_test (inside_test && (separations_test && straight_test)) t);
        inside = and_left inside_test (separations_test && straight_test) rest;
        separations = and_left separations_test straight_test last;
        straight = and_right separations_test straight_test last;
      }

  -- a drawing passes the test
  pub drawing_test : Drawing S p → T (is_drawing S p)
  unfolding is_drawing
  drawing_test d = rw (eq-eqb (length p) S.nodes d.size)
      (and_both inside_test (separations_test && straight_test) d.inside (and_both separations_test straight_test d.separations d.straight))

module _ (s p : List ℕ) (y : List ℤ) where
  -- the bound equals the total
  abbrev equal_test : Bool
  equal_test = eqZ (bound (sheet_of s) y) (pos (total_length (sheet_of s) p))

  -- a yes gives the facts
  pub judged_accepted : T (judged (sheet_of s) p y) → Accepted (sheet_of s) p y
  unfolding judged
  judged_accepted t =
      let rest : T (meets_rules (sheet_of s) y && equal_test) = and_right (is_drawing (sheet_of s) p) (meets_rules (sheet_of s) y && equal_test) t in
      record {
        drawing = test_drawing (sheet_of s) p (and_left (is_drawing (sheet_of s) p) (meets_rules (sheet_of s) y && equal_test) t);
        rules = and_left (meets_rules (sheet_of s) y) equal_test rest;
        equal =
            eqZ→eq (bound (sheet_of s) y) (pos (total_length (sheet_of s) p))
            (and_right (meets_rules (sheet_of s) y) equal_test rest);
      }

  -- the facts give a yes
  pub accepted_judged : Accepted (sheet_of s) p y → T (judged (sheet_of s) p y)
  unfolding judged
  accepted_judged a =
      and_both (is_drawing (sheet_of s) p) (meets_rules (sheet_of s) y && equal_test) (drawing_test (sheet_of s) p a.drawing)
      (and_both (meets_rules (sheet_of s) y) equal_test a.rules (eq→eqZ (bound (sheet_of s) y) (pos (total_length (sheet_of s) p)) a.equal))

  -- the sheet's network
  abbrev N : Network
  N = network (sheet_of s)

  -- where the checker says yes, the network does
  accepted_certified : Accepted (sheet_of s) p y → T (certifies N (integers p) y)
  unfolding certifies is_feasible
  accepted_certified a =
      let d : Feasible N (integers p) = drawing_feasible (sheet_of s) p a.drawing in
      let equal : Bool = eqZ (total N (integers p)) (network-bound N y) in
      and_both (eqb (length (integers p)) N.nodes && all (legal (integers p)) N.arcs) (rules N y && equal)
      (rw (eq-eqb (length (integers p)) N.nodes d.size) d.legals)
      (and_both (rules N y) equal (subst T (sym (same_rules (sheet_of s) y)) a.rules)
      (eq→eqZ (total N (integers p)) (network-bound N y) (same_total (sheet_of s) p a.drawing ∙ sym a.equal ∙ sym (same_bound (sheet_of s) y))))

  -- where the network says yes, the checker does
  certified_accepted : T (certifies N (integers p) y) → Accepted (sheet_of s) p y
  unfolding certifies
  certified_accepted t =
      let equal : Bool = eqZ (total N (integers p)) (network-bound N y) in
      let rest : T (rules N y && equal) = and_right (is_feasible N (integers p)) (rules N y && equal) t in
      let d : Drawing (sheet_of s) p = feasible_drawing s p (feasible_is N (integers p) (and_left (is_feasible N (integers p)) (rules N y && equal) t)) in
      record {
        drawing = d;
        rules = subst T (same_rules (sheet_of s) y) (and_left (rules N y) equal rest);
        equal =
            sym (same_bound (sheet_of s) y)
            ∙ sym (eqZ→eq (total N (integers p)) (network-bound N y) (and_right (rules N y) equal rest)) ∙ same_total (sheet_of s) p d;
      }

  -- the checker and the network decide the same
  pub judged_certifies : judged (sheet_of s) p y ≡ certifies N (integers p) y
  judged_certifies =
      test_ext (judged (sheet_of s) p y) (certifies N (integers p) y)
      (λ t. accepted_certified (judged_accepted t)) (λ t. accepted_judged (certified_accepted t))

  -- a yes shows that the coordinates are a drawing, and that every drawing has at least as large a total
  pub judged_least : T (judged (sheet_of s) p y) → LeastDrawing (sheet_of s) p
  judged_least t = least_drawing s p (certified_least N (integers p) y (subst T judged_certifies t))

-- weak duality: a list that meets the rules has a bound at most the total of every drawing
pub bound_least : (S : Sheet) (y : List ℤ) (p : List ℕ) → T (meets_rules S y) → Drawing S p → bound S y ≤ℤ pos (total_length S p)
bound_least S y p r d =
    rw (← same_bound S y, ← same_total S p d) (weak_duality (network S) y (integers p) (subst T (sym (same_rules S y)) r) (drawing_feasible S p d))
