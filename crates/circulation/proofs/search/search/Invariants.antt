-- `circulation::search::search` meets its contract: the loop's invariant is `Searching`; the count of nodes left falls.
use Rattle.network.specs.Nodes.{column, potentials, orders, parents, residuals, node_stride}
use Rattle.network.specs.Net.{net}
use Rattle.circulation.proofs.laws.Searches.{Searching}
use lib.ListN.{length}
use Prim.Native.Nat.{◌-◌, ◌/◌}
use mathlib.Core.Path.{◌≡◌}
use Rattle.circulation.proofs.search.search.Given as goal

abbrev pub invariant-loop-s : goal.invariant-loop-s
invariant-loop-s l =
    Searching (net l.arcs (length l.flows)) l.s l.count (potentials l.initial.nodes) (potentials l.nodes) l.flows (column 1 l.initial.nodes)
    (orders l.nodes) (parents l.nodes) (residuals l.nodes)
    × (length l.nodes ≡ length l.initial.nodes)
    × (column 1 l.nodes ≡ column 1 l.initial.nodes)

abbrev pub decreases-loop-s : goal.decreases-loop-s
decreases-loop-s l =
    length l.initial.nodes / node_stride - l.count
