-- `totals::chains::chain` meets its contract: the loop's invariant is `Chained`.
use Rattle.totals.specs.inside.Chains.{Chained}
use Rattle.totals.proofs.chains.chain.Given as goal

abbrev pub invariant-loop-i : goal.invariant-loop-i
invariant-loop-i l = Chained l.starts l.edges l.i l.chains
