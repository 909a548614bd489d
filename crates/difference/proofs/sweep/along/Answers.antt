-- `difference::sweep::along` meets its contract. k arcs are behind it: `Passing` with one arc more each time.
use Rattle.difference.proofs.laws.Steps.{stuck_after}
use Rattle.difference.proofs.laws.Passes.{goes_on}
use native.Mathlib.Omega.{arith}
use borrow.Author.Tests.{eq-eqb, ne_eqb}
use Prim.Native.Nat.{◌-◌}
use lib.Dec.{eqb}
use mathlib.Core.Path.{◌≡◌}
use Rattle.std.specs.Prelude.{cond}
use Rattle.difference.proofs.sweep.along.Goals.{then-this-ne0, else-this-ne0}
use Rattle.difference.proofs.sweep.along.Goals as goal

pub returns-in_err-rose : goal.returns-in_err-rose
returns-in_err-rose g c =
    stuck_after c.loop-k.invariant.stepped.risen c.raise_arc.ensures c.in_err-rose.was c.from_residual.result c.from_residual.ensures.0

pub loop-k-preserved : goal.loop-k-preserved
loop-k-preserved g c =
    let place : c.if-this-ne0.i ≡ cond (eqb g.row.BACK 0) c.loop-k.k (c.args.count - 1 - c.loop-k.k) =
    elim c.if-this-ne0.branch [
      | then-this-ne0 w ↦ rw (ne_eqb g.row.BACK 0 w.if-this-ne0.true) w.i-is
      | else-this-ne0 w ↦ rw (eq-eqb g.row.BACK 0 w.if-this-ne0.false) w.i-is
    ] in
    goes_on (omega arith) (rw c.in_ok-rose.was at c.raise_arc.ensures) (eqb g.row.BACK 0) c.loop-k.invariant place
