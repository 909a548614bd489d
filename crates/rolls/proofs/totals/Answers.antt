-- `rolls::totals` meets its contract: a refusal is the reader's, and what is answered and left for the loaded sheet is so for the bytes.
use mathlib.Core.Path.{◌≡◌, ◌∙◌, ap}
use native.Mathlib.Omega.{arith}
use borrow.Author.Rules.{rules}
use Rattle.std.specs.Prelude.{Err}
use Rattle.leb128.specs.Format.{outcome}
use Rattle.arcs.specs.laws.HeldSheets.{sheet_loaded, sheet_refused}
use Rattle.rolls.proofs.laws.Whole.{refused_bytes, loaded_bytes}
use Rattle.rolls.proofs.totals.Goals as goal

pub returns-in_err-sheet : goal.returns-in_err-sheet
returns-in_err-sheet c =
    let refused : c.from_residual.result ≡ Err c.in_err-sheet.field-0.0 = search rules in
    let both = refused_bytes c.args.bytes.now c.args.widths.now _
    (sheet_refused c.args.bytes.now _ _ (omega arith) (omega arith) c.in_err-sheet.was c.load_sheet.ensures.answer) in
    record {
      answer = ap outcome refused ∙ both.0;
      slice = both.1;
    }

pub returns : goal.returns
returns c =
    let both = loaded_bytes c.in_ok-sheet.sheet
    (sheet_loaded c.args.bytes.now _ _ c.in_ok-sheet.was c.load_sheet.ensures.answer c.in_ok-sheet.ensures.first
    c.in_ok-sheet.ensures.arcs)
    c.args.widths.now _ _ (outcome c.totals_loaded.result) (c.totals_loaded.ensures.answer, c.totals_loaded.ensures.slice) in
    record {
      answer = both.0;
      slice = both.1;
    }
