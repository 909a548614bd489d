-- `sheet::read_format` meets its contract: what the walk settles to is the answer, and the second pass fills the slice.
use mathlib.Core.Path.{sym}
use lib.Seq.{length-take-le}
use Rattle.std.proofs.lemmas.Result.{err_from_is_err_and}
use Rattle.sheet.proofs.laws.SecondPass.{refused_kept, read_done, read_front, read_filled}
use Rattle.sheet.proofs.laws.Settling.{read_settled}
use Rattle.sheet.specs.inside.Formats.{read_format}
use Rattle.sheet.proofs.read_format.Goals as goal

pub returns-in_err-count : goal.returns-in_err-count
returns-in_err-count c =
    let p = err_from_is_err_and c.from_residual.result c.from_residual.ensures.1 in
    let a = read_settled c.args.format _ c.args.bytes.now c.walk_bytes.ensures c.in_err-count.ensures in
    rw (p.1, p.2) (record { answer = a; slice = refused_kept c.in_err-count.field-0.0 (read_format c.args.format c.args.bytes.now) c.args.numbers.now a })

pub slice_bounds-fill-end : goal.slice_bounds-fill-end
slice_bounds-fill-end c =
    (read_done c.in_ok-count.count c.args.format c.args.numbers.now c.args.bytes.now
    (read_settled c.args.format _ c.args.bytes.now c.walk_bytes.ensures c.in_ok-count.ensures)).1

pub slice_bounds-fill-end-2 : goal.slice_bounds-fill-end-2
slice_bounds-fill-end-2 c =
    sym (length-take-le c.in_ok-count.count c.args.numbers.now
    (read_done c.in_ok-count.count c.args.format c.args.numbers.now c.args.bytes.now
    (read_settled c.args.format _ c.args.bytes.now c.walk_bytes.ensures c.in_ok-count.ensures)).1)

pub fill-requires : goal.fill-requires
fill-requires c =
    read_front c.in_ok-count.count c.args.format c.args.numbers.now c.args.bytes.now
    (read_settled c.args.format _ c.args.bytes.now c.walk_bytes.ensures c.in_ok-count.ensures)

pub returns : goal.returns
returns c =
    let a = read_settled c.args.format _ c.args.bytes.now c.walk_bytes.ensures c.in_ok-count.ensures in
    record { answer = a; slice = read_filled c.in_ok-count.count c.args.format c.args.numbers.now c.args.bytes.now a c.fill.ensures }
