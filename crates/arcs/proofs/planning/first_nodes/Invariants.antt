-- `arcs::planning::first_nodes` meets its contract: the loop's invariant is `FirstsLeft`.
use Prim.Native.Nat.{◌-◌}
use Rattle.arcs.proofs.laws.FirstNodes.{FirstsLeft}
use Rattle.arcs.proofs.planning.first_nodes.Given as goal

abbrev pub invariant-loop-layer : goal.invariant-loop-layer
invariant-loop-layer l = FirstsLeft l.numbers l.layers l.initial.first l.first (l.layers - l.layer) l.layer l.at l.v
