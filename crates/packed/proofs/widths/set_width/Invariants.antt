-- `packed::widths::set_width` meets its contract: the loop's invariant is `Widening`.
use Rattle.packed.proofs.laws.Widening.{Widening}
use Rattle.packed.proofs.widths.set_width.Given as goal

abbrev pub invariant-loop-i : goal.invariant-loop-i
invariant-loop-i l = Widening l.ground l.width l.initial.arcs l.arcs l.i
