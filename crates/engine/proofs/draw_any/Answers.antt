-- `engine::draw_any` meets its contract: a refusal is the reader's, and the loaded sheet is drawn for the bytes.
use mathlib.Core.Path.{◌≡◌}
use borrow.Author.Rules.{rules}
use Rattle.std.specs.Prelude.{Err}
use native.Mathlib.Omega.{arith}
use Rattle.arcs.specs.laws.HeldSheets.{sheet_loaded, sheet_refused}
use Rattle.engine.proofs.laws.Draw.{refused_drawn, loaded_drawn}
use Rattle.engine.proofs.draw_any.Goals as goal

pub returns-in_err-sheet : goal.returns-in_err-sheet
returns-in_err-sheet c =
    let refused : c.from_residual.result ≡ Err c.in_err-sheet.field-0.0 = search rules in
    rw refused
    (refused_drawn c.args.bytes.now c.args.places.now c.args.list.now
    (sheet_refused c.args.bytes.now _ _ (omega arith) (omega arith) c.in_err-sheet.was c.load_sheet.ensures.answer))

pub returns : goal.returns
returns c =
    loaded_drawn c.in_ok-sheet.sheet
    (sheet_loaded c.args.bytes.now _ _ c.in_ok-sheet.was c.load_sheet.ensures.answer c.in_ok-sheet.ensures.first
    c.in_ok-sheet.ensures.arcs)
    c.args.places.now c.args.list.now _ _ _ c.draw_loaded.ensures
