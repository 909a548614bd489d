-- `totals::starts::put_starts` meets its contract: the loop's invariant is `StartsTo`.
use Rattle.totals.proofs.laws.Starts.{StartsTo}
use Rattle.totals.proofs.starts.put_starts.Given as goal

abbrev pub invariant-loop-v : goal.invariant-loop-v
invariant-loop-v l = StartsTo l.first l.starts l.layer l.v
