-- `circulation::finish::clear_others` meets its contract: the numbers 1 .. k - 1 of every node are 0.
use Rattle.circulation.proofs.laws.Columns.{fill_zeros}
use Rattle.circulation.proofs.laws.Finishes.{zeroed_next}
use mathlib.Core.Path.{◌∙◌}
use native.Mathlib.Omega.{arith}
use Rattle.circulation.proofs.finish.clear_others.Goals as goal

pub loop-k-preserved : goal.loop-k-preserved
loop-k-preserved c = (
  zeroed_next (omega arith) c.loop-k.invariant.0 (fill_zeros c.fill.ensures.by_index c.fill.ensures.apart)
      c.fill.ensures.apart,
  c.fill.ensures.apart.others 0 (omega arith) (λ e. omega arith) ∙ c.loop-k.invariant.1,
)
