-- `place::answer::tell` meets its contract: either text fits the slice, so all of it is written.
use native.Mathlib.Omega.{arith}
use Rattle.place.proofs.laws.Telling.{told_drawing, told_refusal}
use Rattle.place.proofs.answer.tell.Goals as goal

pub returns-in-Ok : goal.returns-in-Ok
returns-in-Ok c =
    told_drawing c.args.bytes.now c.args.places.now c.args.text.now _ c.args.drawn
    c.drawing_text.result c.requires.max_text_in_bounds c.requires.answered c.unwrap_or.ensures c.in-Ok.is
    (λ v. omega (arith, c.type_inv.places v)) (omega arith) c.drawing_text.ensures.answer
    c.drawing_text.ensures.slice

pub returns-in-Err : goal.returns-in-Err
returns-in-Err c =
    told_refusal c.args.bytes.now c.args.places.now c.args.text.now _ c.args.drawn
    c.refusal_text.result c.requires.max_text_in_bounds c.requires.answered c.unwrap_or-in-Err.ensures c.in-Err.is (omega arith)
    (omega arith) c.refusal_text.ensures.answer c.refusal_text.ensures.slice
