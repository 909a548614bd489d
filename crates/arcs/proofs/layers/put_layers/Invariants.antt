-- `arcs::layers::put_layers` meets its contract: the loop's invariant is `LayersLeft`.
use Prim.Native.Nat.{◌-◌}
use Rattle.arcs.proofs.laws.Layers.{LayersLeft}
use Rattle.arcs.proofs.layers.put_layers.Given as goal

abbrev pub invariant-loop-layer : goal.invariant-loop-layer
invariant-loop-layer l =
    LayersLeft l.numbers l.layers l.frame.width l.frame.ground l.n l.initial.arcs l.arcs (l.layers - l.layer) l.at l.v l.m
