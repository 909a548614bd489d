-- `circulation::step::nearest` meets its contract: the loop's invariant is `Seeking`; a step of 0 is the least.
use Rattle.network.specs.Net.{at, net}
use Rattle.network.specs.Nodes.{potentials, orders}
use lib.ListN.{length}
use Rattle.circulation.proofs.laws.LeastStep.{Seeking}
use Rattle.circulation.proofs.step.nearest.Given as goal

abbrev pub invariant-loop-i : goal.invariant-loop-i
invariant-loop-i l = Seeking (net l.arcs (length l.flows)) (at (potentials l.nodes)) (at l.flows) (at (orders l.nodes)) l.best l.i
