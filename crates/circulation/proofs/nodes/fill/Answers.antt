-- `circulation::nodes::fill` meets its contract: the loop's invariant is `Filling`.
use Rattle.circulation.proofs.laws.Columns.{fill_next}
use native.Mathlib.Omega.{arith}
use Rattle.circulation.proofs.nodes.fill.Goals as goal

pub loop-v-preserved : goal.loop-v-preserved
loop-v-preserved c = fill_next c.put.new.nodes c.loop-v.invariant (omega arith) c.put.ensures
