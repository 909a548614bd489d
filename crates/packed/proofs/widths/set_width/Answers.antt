-- `packed::widths::set_width` meets its contract: the loop's invariant is `Widening`.
use Rattle.std.proofs.Common.{arith}
use Rattle.packed.proofs.laws.Widening.{widening_begin, widening_next, widening_end}
use Rattle.packed.proofs.widths.set_width.Goals as goal

pub loop-i-init : goal.loop-i-init
loop-i-init c = widening_begin _ _ _

pub loop-i-preserved : goal.loop-i-preserved
loop-i-preserved c = widening_next _ _ c.loop-i.invariant c.loop-i-test.true c.widened_kink.ensures

pub returns : goal.returns
returns c = widening_end _ _ c.loop-i.invariant (omega arith)
