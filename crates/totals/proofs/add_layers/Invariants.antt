-- `totals::add_layers` meets its contract: the sum is the one after the layer below, and the layers from there on have their sums.
use Rattle.std.proofs.Common.{◌+◌}
use Rattle.totals.specs.RunningSums.{RunningSum}
use Rattle.totals.proofs.laws.LeftSums.{SumsFrom}
use Rattle.totals.proofs.add_layers.Given as goal

abbrev pub invariant-loop-layer : goal.invariant-loop-layer
invariant-loop-layer l =
    RunningSum l.first l.places l.edges (l.layer + 1) l.sum × SumsFrom l.first l.places l.edges l.initial.sums l.sums l.layer
