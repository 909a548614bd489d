-- `circulation::search::flood` meets its contract: the loop's invariant is `GrownAt`.
use Rattle.circulation.specs.inside.Steps.{GrownAt}
use Rattle.network.specs.Net.{net}
use lib.ListN.{length}
use Rattle.circulation.proofs.search.flood.Given as goal

abbrev pub invariant-loop-count : goal.invariant-loop-count
invariant-loop-count l = GrownAt (net l.arcs (length l.flows)) l.g l.count l.flows l.nodes
