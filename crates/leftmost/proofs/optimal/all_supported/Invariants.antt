-- `leftmost::optimal::all_supported` meets its contract: the nodes before v are supported.
use Rattle.std.proofs.Common.{ℕ, ◌<◌, length}
use Rattle.network.specs.Net.{at, net}
use Rattle.network.specs.Nodes.{potentials, orders}
use Rattle.circulation.specs.inside.Optimal.{Support}
use Rattle.leftmost.proofs.optimal.all_supported.Given as goal

abbrev pub invariant-loop-v : goal.invariant-loop-v
invariant-loop-v l =
    (k : ℕ) → k < l.v → Support (net l.arcs (length l.flows)) (at (potentials l.nodes)) (at l.flows) (at (orders l.nodes)) k
