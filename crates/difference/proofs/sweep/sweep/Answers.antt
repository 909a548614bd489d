-- `difference::sweep::sweep` meets its contract. `Running` holds before each pass; after as many passes as nodes that
-- raise a value no solution is left.
use Rattle.network.specs.laws.Zeros.{zeros_at}
use Rattle.difference.proofs.laws.Runs.{begins, changed, solved, stops, over}
use lib.ListN.{length}
use mathlib.Core.Path.{refl}
use Rattle.difference.proofs.sweep.sweep.Goals as goal

pub loop-k-init : goal.loop-k-init
loop-k-init c =
    begins c.clear.new.numbers refl (rw c.clear.auto.numbers c.requires) (zeros_at (length c.args.values.now) c.clear.ensures)

pub returns-in_err-pass : goal.returns-in_err-pass
returns-in_err-pass c =
    rw (← c.clear.auto.numbers)
    (stops c.loop-k.invariant c.pass.new.values c.pass.ensures c.in_err-pass.was c.from_residual.result c.from_residual.ensures.0)

pub returns-then-not-branch : goal.returns-then-not-branch
returns-then-not-branch c =
    rw (← c.clear.auto.numbers) (solved c.loop-k.invariant c.pass.new.values (rw (← c.if-not-branch.true, ← c.in_ok-pass.was) c.pass.ensures))

pub loop-k-preserved : goal.loop-k-preserved
loop-k-preserved c = changed c.loop-k.invariant c.pass.new.values (rw (← c.if-not-branch.false, ← c.in_ok-pass.was) c.pass.ensures)

pub returns : goal.returns
returns c = rw (← c.clear.auto.numbers) (over c.loop-k.invariant c.loop-k-test.false)
