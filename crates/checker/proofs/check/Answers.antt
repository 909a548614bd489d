-- `checker::check` meets its contract: a refusal is the reader's, and the loaded sheet answers for the bytes.
use mathlib.Core.Path.{◌≡◌, sym, ◌∙◌, ap}
use borrow.Author.Rules.{rules}
use Rattle.std.specs.Prelude.{Err}
use Rattle.checker.specs.Verdict.{judgement}
use native.Mathlib.Omega.{arith}
use Rattle.arcs.specs.laws.HeldSheets.{sheet_loaded, sheet_refused}
use Rattle.checker.specs.laws.Accepted.{accepted_least}
use Rattle.checker.proofs.laws.Answers.{loaded_answer, refused_answer}
use Rattle.checker.proofs.check.Goals as goal

pub returns-in_err-sheet : goal.returns-in_err-sheet
returns-in_err-sheet c =
    let refused : c.from_residual.result ≡ Err c.in_err-sheet.field-0.0 = search rules in
    let answer =
    ap judgement refused ∙ refused_answer c.args.bytes.now
    (sheet_refused c.args.bytes.now _ _ (omega arith) (omega arith) c.in_err-sheet.was c.load_sheet.ensures.answer)
    c.args.places.now c.args.list.now in
    record {
      answer = answer;
      least = λ e. accepted_least c.args.bytes.now c.args.places.now c.args.list.now (sym answer ∙ e);
    }

pub returns : goal.returns
returns c =
    let l =
    sheet_loaded c.args.bytes.now _ _ c.in_ok-sheet.was c.load_sheet.ensures.answer c.in_ok-sheet.ensures.first
    c.in_ok-sheet.ensures.arcs in
    let answer = c.check_loaded.ensures ∙ loaded_answer l c.args.places.now c.args.list.now in
    record {
      answer = answer;
      least = λ e. accepted_least c.args.bytes.now c.args.places.now c.args.list.now (sym answer ∙ e);
    }
