-- `circulation::nodes::fill` meets its contract: the loop's invariant is `Filling`.
use Rattle.circulation.proofs.laws.Columns.{Filling}
use Rattle.circulation.proofs.nodes.fill.Given as goal

abbrev pub invariant-loop-v : goal.invariant-loop-v
invariant-loop-v l = Filling l.k l.a l.initial.nodes l.nodes l.v
