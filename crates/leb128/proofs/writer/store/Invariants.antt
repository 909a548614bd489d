-- `leb128::writer::store` meets its contract: the loop's invariant is `BytesLeft`.
use Rattle.leb128.proofs.laws.Writing.{BytesLeft}
use Rattle.leb128.proofs.writer.store.Given as goal

abbrev pub invariant-loop-rest : goal.invariant-loop-rest
invariant-loop-rest l =
    BytesLeft l.initial.bytes l.at l.n l.bytes l.rest l.next

abbrev pub decreases-loop-rest : goal.decreases-loop-rest
decreases-loop-rest l =
    l.rest
