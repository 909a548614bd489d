-- `sheet::coordinates::walk` meets its contract: the loop's invariant is `WalkLeft`.
use Rattle.sheet.specs.laws.Awaited.{left}
use Rattle.sheet.proofs.laws.CoordinatePasses.{WalkLeft}
use Rattle.sheet.proofs.coordinates.walk.Given as goal

abbrev pub invariant-loop-s : goal.invariant-loop-s
invariant-loop-s l =
    WalkLeft l.input l.initial.c l.c l.s

abbrev pub decreases-loop-s : goal.decreases-loop-s
decreases-loop-s l =
    left l.s
