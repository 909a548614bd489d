-- `circulation::step::nearest` meets its contract: the loop's invariant is `Seeking`; a step of 0 is the least.
use Rattle.circulation.proofs.laws.LeastStep.{seek_take, seek_keep, seek_none}
use Rattle.std.specs.Prelude.{IfSome, IsSomeAnd}
use Prim.Native.Nat.{◌<◌, ◌≤◌}
use borrow.Author.Rules.{rules}
use Rattle.circulation.proofs.step.nearest.Goals as goal
use Rattle.circulation.proofs.step.nearest.Goals.{in-Some+else-d-eq0+then-is_none_or, in-Some+else-d-eq0+else-is_none_or, in_default}

pub loop-i-preserved : goal.loop-i-preserved
loop-i-preserved c =
    elim c.match-step_at.branch [
      | in-Some+else-d-eq0+then-is_none_or w ↦
          let less : IfSome c.loop-i.best (λ b. w.in-Some.d < b.1) = search rules in
          rw w.best-is (seek_take c.loop-i.invariant c.loop-i-test.true (rw w.in-Some.is at c.step_at.ensures) less)
      | in-Some+else-d-eq0+else-is_none_or w ↦
          let more : IsSomeAnd c.loop-i.best (λ b. b.1 ≤ w.in-Some.d) = search rules in
          rw w.best-is (seek_keep c.loop-i.invariant c.loop-i-test.true (rw w.in-Some.is at c.step_at.ensures) more)
      | in_default w ↦ rw w.best-is (seek_none c.loop-i.invariant c.loop-i-test.true (rw w.in_default.is at c.step_at.ensures))
    ]
