-- `totals::starts::rising` meets its contract: the test passes exactly if each first node is before the next one.
use Rattle.std.proofs.Common.{rules, arith}
use Rattle.std.proofs.iter.runs.Sources.{ranges}
use Rattle.totals.proofs.laws.Starts.{rising_tested}
use Rattle.totals.proofs.starts.rising.Goals as goal

pub returns-then-layer_start-eq0 : goal.returns-then-layer_start-eq0
returns-then-layer_start-eq0 c =
    rising_tested c.args.first.now (omega arith) (search (rules, ranges)) (search (rules, ranges))
