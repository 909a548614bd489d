-- `totals::add_layers` meets its contract: the sum is the one after the layer below, and the layers from there on have their sums.
use Rattle.std.proofs.Common.{arith}
use Rattle.totals.proofs.laws.LayerSums.{layers_begin}
use Rattle.totals.proofs.laws.LeftSums.{sums_begin, sums_end}
use Rattle.totals.proofs.add_layers.Goals as goal

pub loop-layer-init : goal.loop-layer-init
loop-layer-init c = (layers_begin _ _ _ c.requires.layer_chains, sums_begin _ _ _ _)

pub returns-clause-slice : goal.returns-clause-slice
returns-clause-slice c = sums_end c.loop-layer.invariant.1 (omega arith)
