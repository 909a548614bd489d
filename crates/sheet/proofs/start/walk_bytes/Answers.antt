-- `sheet::start::walk_bytes` meets its contract: the magic is looked at first.
use mathlib.Core.Path.{◌∙◌}
use native.Mathlib.Omega.{arith}
use Rattle.sheet.proofs.laws.WalkStarts.{magic_tested, too_short, opens_not, bytes_walked}
use Rattle.sheet.proofs.start.walk_bytes.Goals as goal

pub returns-then-bytes-lt-MAGIC_BYTES : goal.returns-then-bytes-lt-MAGIC_BYTES
returns-then-bytes-lt-MAGIC_BYTES c =
    rw c.new.ensures (too_short c.args.format c.args.bytes.now (omega arith))

pub returns-then-not-starts_with : goal.returns-then-not-starts_with
returns-then-not-starts_with c =
    rw c.new-then-not-starts_with.ensures
    (opens_not c.args.format c.args.bytes.now c.if-bytes-lt-MAGIC_BYTES.false
    (magic_tested c.args.format c.args.bytes.now (rw c.magic.ensures at c.starts_with.ensures.value) ∙ c.if-not-starts_with.true))

pub returns : goal.returns
returns c =
    bytes_walked c.args.format c.args.bytes _ c.if-bytes-lt-MAGIC_BYTES.false
    (magic_tested c.args.format c.args.bytes.now (rw c.magic.ensures at c.starts_with.ensures.value) ∙ c.if-not-starts_with.false)
    c.walk.ensures
