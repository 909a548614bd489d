-- `sheet::writer::put_magic` meets its contract: the front of the slice is replaced.
use native.Mathlib.Omega.{arith}
use Rattle.sheet.proofs.laws.WalkStarts.{magic_stored}
use Rattle.sheet.proofs.writer.put_magic.Goals as goal

pub returns : goal.returns
returns c =
    rw c.copy_from_slice.ensures.after (magic_stored c.args.bytes.now c.args.magic (omega arith) c.requires)
