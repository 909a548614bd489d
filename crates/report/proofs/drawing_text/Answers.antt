-- `report::drawing_text` meets its contract: a refusal is the reader's, and what was read is good.
use native.Mathlib.Omega.{arith}
use mathlib.Core.Path.{refl, sym}
use lib.Seq.{length-take-le}
use Rattle.std.proofs.lemmas.Result.{err_from_is_err_and}
use Rattle.report.proofs.laws.Texts.{refused_answer, refused_slice, read_answer, read_slice, text_refused}
use Rattle.sheet.specs.laws.ReadInto.{read_is, read_room, read_good, read_refused}
use Rattle.sheet.specs.laws.Sheets.{good_layout}
use Rattle.report.proofs.drawing_text.Goals as goal

pub returns-in_err-count : goal.returns-in_err-count
returns-in_err-count c =
    let p = err_from_is_err_and c.from_residual.result c.from_residual.ensures.1 in
    let e =
    text_refused c.args.places.now c.args.total
    (read_refused c.args.bytes.now _ _ c.read.ensures.answer c.read.ensures.slice (omega arith) c.in_err-count.was) in
    rw (p.1, p.2) (record { answer = refused_answer e _ refl; slice = refused_slice e _ })

pub slice_bounds-sheet_text-end : goal.slice_bounds-sheet_text-end
slice_bounds-sheet_text-end c =
    sym (length-take-le c.in_ok-count.count c.read.new.numbers
    (read_room c.args.bytes.now _ _ c.read.ensures.answer c.read.ensures.slice c.in_ok-count.was))

pub slice_bounds-numbers-end : goal.slice_bounds-numbers-end
slice_bounds-numbers-end c =
    read_room c.args.bytes.now _ _ c.read.ensures.answer c.read.ensures.slice c.in_ok-count.was

pub sheet_text-requires : goal.sheet_text-requires
sheet_text-requires c =
    good_layout _ (read_good c.args.bytes.now _ _ c.read.ensures.answer c.read.ensures.slice c.in_ok-count.was)

pub returns : goal.returns
returns c =
    let e = read_is c.args.bytes.now _ _ c.read.ensures.answer c.read.ensures.slice c.in_ok-count.was in
    record {
      answer = read_answer e c.args.places.now c.args.total _ c.sheet_text.ensures.answer;
      slice = read_slice e c.args.places.now c.args.total _ c.sheet_text.ensures.slice;
    }
