-- `circulation::start::count_deficits` meets its contract: the loop's invariant is `Counting`.
use Rattle.network.specs.Nodes.{column, node_stride}
use Rattle.circulation.specs.inside.Stores.{Apart}
use Rattle.network.specs.Net.{net}
use Rattle.circulation.proofs.laws.Counts.{Counting}
use lib.ListN.{length}
use Prim.Native.Nat.{◌/◌}
use Rattle.circulation.proofs.start.count_deficits.Given as goal

abbrev pub invariant-loop-i : goal.invariant-loop-i
invariant-loop-i l =
    Counting (net l.arcs (length l.flows)) (length l.initial.nodes / node_stride) l.flows (column 1 l.nodes) l.i
    × Apart 1 l.initial.nodes l.nodes
