-- `sheet::nodes::locate` meets its contract: the loop's invariant is `SearchLeft`.
use Rattle.sheet.proofs.laws.Locating.{search_begin, search_end, search_here, search_next}
use Rattle.sheet.proofs.nodes.locate.Goals as goal

pub loop-above-init : goal.loop-above-init
loop-above-init c =
    search_begin _ _ c.number-above-end.ensures

pub returns-then-rest-count : goal.returns-then-rest-count
returns-then-rest-count c =
    search_here c.loop-above.invariant c.loop-above-test.true c.number-count.ensures c.if-rest-count.true

pub loop-above-preserved : goal.loop-above-preserved
loop-above-preserved c =
    search_next c.loop-above.invariant c.loop-above-test.true c.number-count.ensures c.layer_size-at.ensures c.if-rest-count.false

pub returns : goal.returns
returns c =
    search_end c.loop-above.invariant c.loop-above-test.false
