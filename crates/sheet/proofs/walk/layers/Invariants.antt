-- `sheet::walk::layers` meets its contract: the invariant is `LayersLeft` of the outer loop, `PairsLeft` of the inner one.
use lib.ListN.{length}
use Rattle.sheet.proofs.laws.Layers.{LayersLeft, PairsLeft}
use Rattle.sheet.proofs.walk.layers.Given as goal

abbrev pub invariant-loop : goal.invariant-loop
invariant-loop l =
    PairsLeft l.input l.initial.c l.nodes l.initial.counter l.step l.c l.counter

abbrev pub invariant-layers : goal.invariant-layers
invariant-layers l =
    LayersLeft l.input l.initial.c (length l.initial.counts) l.counts l.step l.c l.room l.count-index
