-- With a yes, coordinates are the leftmost least drawing exactly where they pass the network's test: every node is held, by
-- ground or over a tight residual arc by a held node.
use Rattle.std.proofs.Common.{sym, ◌∙◌, subst}
use Rattle.std.specs.Prelude.{List, ℕ, T, ℤ}
use Rattle.network.specs.Network.{Network, Feasible, integers}
use Rattle.network.specs.Flows.{rules, complementary}
use Rattle.network.proofs.laws.Duality.{equal_tight}
use Rattle.network.proofs.laws.HeldOnly.{leftmost_test, test_leftmost, leftmost_passes}
use Rattle.drawing.specs.Sheet.{sheet_of}
use Rattle.drawing.specs.Drawing.{LeftmostDrawing}
use Rattle.drawing.specs.Arcs.{network}
use Rattle.drawing.proofs.laws.SameRules.{same_rules, same_bound}
use Rattle.drawing.proofs.laws.SameDrawings.{drawing_feasible, same_total, leftmost_drawing}
use Rattle.drawing.proofs.laws.Hanging.{drawing_leftmost}
use Rattle.drawing.proofs.laws.Judged.{Accepted}

module _ (s p : List ℕ) (y : List ℤ) (a : Accepted (sheet_of s) p y) where
  -- the sheet's network
  abbrev N : Network
  N = network (sheet_of s)

  -- the coordinates are feasible in it
  feasible : Feasible N (integers p)
  feasible = drawing_feasible (sheet_of s) p a.drawing

  -- the list meets its rules
  rule : T (rules N y)
  rule = subst T (sym (same_rules (sheet_of s) y)) a.rules

  -- and is in complementary slackness with the coordinates
  tight : T (complementary N y (integers p))
  tight =
      equal_tight N y (integers p) rule feasible
      (same_total (sheet_of s) p a.drawing ∙ sym a.equal ∙ sym (same_bound (sheet_of s) y))

  -- coordinates that pass the test are the leftmost least drawing
  pub test_drawing : T (leftmost_test N y (integers p)) → LeftmostDrawing (sheet_of s) p
  test_drawing t = leftmost_drawing s p (test_leftmost N y (integers p) rule feasible.size tight t)

  -- the leftmost least drawing passes the test
  pub drawing_passes : LeftmostDrawing (sheet_of s) p → T (leftmost_test N y (integers p))
  drawing_passes d = leftmost_passes N y (integers p) rule feasible.size tight (drawing_leftmost s p d)
