-- `leftmost::optimal::all_supported` meets its contract: the nodes before v are supported.
use Rattle.std.proofs.Common.{below_more}
use Rattle.leftmost.proofs.laws.Shown.{shown_yes}
use Rattle.leftmost.proofs.optimal.all_supported.Goals as goal

pub loop-v-preserved : goal.loop-v-preserved
loop-v-preserved c = below_more _ _ c.loop-v.invariant (shown_yes c.supported.result c.supported.ensures c.if-not-supported.false)
