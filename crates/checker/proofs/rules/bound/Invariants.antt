-- `checker::rules::bound` meets its contract: the loop's invariant is `Bounding`.
use Rattle.checker.proofs.laws.Bounds.{Bounding}
use Rattle.checker.proofs.rules.bound.Given as goal

abbrev pub invariant-loop-i : goal.invariant-loop-i
invariant-loop-i l = Bounding l.arcs l.list l.n l.i l.result
