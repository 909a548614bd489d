-- `totals::add_layer` meets its contract: the loop's invariant is `LayerWalk`.
use Rattle.totals.specs.inside.Chains.{link_of}
use Rattle.totals.proofs.laws.LayerSums.{LayerWalk}
use Rattle.totals.proofs.add_layer.Given as goal

abbrev pub invariant-loop-next : goal.invariant-loop-next
invariant-loop-next l = LayerWalk l.first l.places l.edges l.chains l.layer l.sum (link_of l.next) l.result

abbrev pub decreases-loop-next : goal.decreases-loop-next
decreases-loop-next l = link_of l.next
