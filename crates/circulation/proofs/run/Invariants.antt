-- `circulation::run` meets its contract: the loop's invariant is `StateAt`; the total deficit falls.
use Rattle.circulation.specs.inside.Search.{State, total_deficit}
use Rattle.network.specs.Nodes.{column, potentials, node_stride}
use Rattle.network.specs.Net.{net, at}
use lib.ListN.{length}
use mathlib.Core.Path.{◌≡◌}
use Prim.Native.Nat.{◌/◌}
use Rattle.circulation.proofs.run.Given as goal

abbrev pub invariant-loop-s : goal.invariant-loop-s
invariant-loop-s l =
    State (net l.arcs (length l.initial.flows)) (potentials l.nodes) l.flows (column 1 l.nodes)
    × (length l.nodes ≡ length l.initial.nodes)

abbrev pub decreases-loop-s : goal.decreases-loop-s
decreases-loop-s l =
    total_deficit (length l.initial.nodes / node_stride) (at (column 1 l.nodes))
