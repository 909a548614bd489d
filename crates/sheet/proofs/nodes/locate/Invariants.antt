-- `sheet::nodes::locate` meets its contract: the loop's invariant is `SearchLeft`.
use Rattle.sheet.proofs.laws.Locating.{SearchLeft}
use Rattle.sheet.proofs.nodes.locate.Given as goal

abbrev pub invariant-loop-above : goal.invariant-loop-above
invariant-loop-above l =
    SearchLeft l.numbers l.v l.above-end l.above l.at l.rest
