-- `engine::minimum_width` meets its contract: a refusal is the reader's, and what is found of the loaded sheet is found of the bytes.
use mathlib.Core.Path.{◌≡◌}
use borrow.Author.Rules.{rules}
use Rattle.std.specs.Prelude.{Err}
use native.Mathlib.Omega.{arith}
use Rattle.arcs.specs.laws.HeldSheets.{sheet_loaded, sheet_refused}
use Rattle.engine.specs.MinimumWidth.{narrowing}
use Rattle.engine.proofs.laws.Widths.{refused_narrows, loaded_narrows}
use Rattle.engine.proofs.minimum_width.Goals as goal

pub returns-in_err-sheet : goal.returns-in_err-sheet
returns-in_err-sheet c =
    let refused : c.from_residual.result ≡ Err c.in_err-sheet.field-0.0 = search rules in
    rw refused
    (refused_narrows c.args.bytes.now
    (sheet_refused c.args.bytes.now _ _ (omega arith) (omega arith) c.in_err-sheet.was c.load_sheet.ensures.answer))

pub returns : goal.returns
returns c =
    loaded_narrows c.in_ok-sheet.sheet
    (sheet_loaded c.args.bytes.now _ _ c.in_ok-sheet.was c.load_sheet.ensures.answer c.in_ok-sheet.ensures.first
    c.in_ok-sheet.ensures.arcs)
    (narrowing c.narrow.result) c.narrow.ensures
