-- `leb128::reader::read_number` meets its contract: the loop's invariant is `Reading`.
use Rattle.leb128.proofs.laws.Reading.{Reading}
use Rattle.leb128.proofs.reader.read_number.Given as goal

abbrev pub invariant-loop-i : goal.invariant-loop-i
invariant-loop-i l =
    Reading l.bytes l.at l.value l.weight l.i
