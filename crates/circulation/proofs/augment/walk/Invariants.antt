-- `circulation::augment::walk` meets its contract: the loop's invariant is `Walking`; the place in the order falls.
use Rattle.network.specs.Net.{net, at}
use Rattle.network.specs.Nodes.{column, potentials, orders, parents, residuals}
use Rattle.circulation.proofs.laws.Walks.{Walking}
use lib.ListN.{length}
use Rattle.circulation.proofs.augment.walk.Given as goal

abbrev pub invariant-loop-v : goal.invariant-loop-v
invariant-loop-v l =
    Walking (net l.arcs (length l.initial.flows)) l.s l.t l.d (potentials l.nodes) l.initial.flows (column 1 l.nodes) (orders l.nodes) (parents l.nodes)
    (residuals l.nodes) l.flows l.v

abbrev pub decreases-loop-v : goal.decreases-loop-v
decreases-loop-v l =
    at (orders l.nodes) l.v
