-- `totals::starts::layer_of` meets its contract: the next layer is reached.
use Rattle.std.proofs.Common.{arith}
use Rattle.totals.proofs.laws.Starts.{near_next}
use Rattle.totals.proofs.starts.layer_of.Goals as goal

pub returns-then-layer_start-v : goal.returns-then-layer_start-v
returns-then-layer_start-v c =
    near_next c.args.first.now c.requires.t c.requires.v_lt_max_nodes.1 c.requires.v_lt_max_nodes.0 (omega (arith, c.layer_start.ensures))
