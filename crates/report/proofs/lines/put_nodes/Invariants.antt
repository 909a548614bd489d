-- `report::lines::put_nodes` meets its contract: the loop's invariant is `NodesLeft`.
use Rattle.report.proofs.laws.Nodes.{NodesLeft}
use Rattle.report.proofs.lines.put_nodes.Given as goal

abbrev pub invariant-loop-v : goal.invariant-loop-v
invariant-loop-v l = NodesLeft l.numbers l.places l.initial.text l.start l.text l.at l.v
