-- `leb128::writer::store` meets its contract: the loop's invariant is `BytesLeft`.
use native.Mathlib.Omega.{arith}
use Rattle.leb128.proofs.laws.Writing.{bytes_room, bytes_next, bytes_end}
use Rattle.leb128.proofs.writer.store.Goals as goal

pub bounds-bytes-next : goal.bounds-bytes-next
bounds-bytes-next c =
    bytes_room c.loop-rest.invariant c.requires.room

pub loop-rest-preserved : goal.loop-rest-preserved
loop-rest-preserved c =
    rw c.low_group.ensures (bytes_next c.loop-rest.invariant (omega arith))

pub bounds-bytes-next-2 : goal.bounds-bytes-next-2
bounds-bytes-next-2 c =
    bytes_room c.loop-rest.invariant c.requires.room

pub returns : goal.returns
returns c =
    bytes_end c.loop-rest.invariant (omega arith)
