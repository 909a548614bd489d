-- `leb128::writer::number_size` meets its contract: the loop's invariant is `Sizing`.
use Rattle.leb128.proofs.laws.Writing.{Sizing}
use Rattle.leb128.proofs.writer.number_size.Given as goal

abbrev pub invariant-loop-size : goal.invariant-loop-size
invariant-loop-size l =
    Sizing l.n l.rest l.size
