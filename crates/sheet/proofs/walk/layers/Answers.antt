-- `sheet::walk::layers` meets its contract: the invariant is `LayersLeft` of the outer loop, `PairsLeft` of the inner one.
use lib.ListN.{length-set}
use Rattle.sheet.proofs.laws.Layers.{pair_next, layer_next, layers_end, count_refused, pair_refused}
use Rattle.sheet.proofs.laws.WalkSteps.{relimit}
use Rattle.sheet.proofs.walk.layers.Goals as goal

pub loop-preserved : goal.loop-preserved
loop-preserved c =
    pair_next c.loop.invariant c.loop-test.true c.separation-step.ensures c.in-Ok-step.is

pub layers-preserved : goal.layers-preserved
layers-preserved c =
    layer_next c.layers.invariant c.layers-test.true (relimit c.min.ensures c.limited-step.ensures)
    c.in-Ok.is c.loop.invariant c.loop-test.false

pub returns-after-layers : goal.returns-after-layers
returns-after-layers c =
    layers_end c.layers.invariant c.layers-test.false

pub returns-in_default : goal.returns-in_default
returns-in_default c =
    count_refused c.layers.invariant c.layers-test.true (relimit c.min.ensures c.limited-step.ensures) (length-set _ _ _)
    c.in_default.is

pub returns-in_default-step : goal.returns-in_default-step
returns-in_default-step c =
    pair_refused c.layers.invariant c.layers-test.true (relimit c.min.ensures c.limited-step.ensures) c.in-Ok.is
    c.loop.invariant (length-set _ _ _) c.loop-test.true c.separation-step.ensures c.in_default-step.is
