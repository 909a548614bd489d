-- The text of an answer fits the slice, so what is written is all of it.
use Prim.Native.Nat.{ℕ, ◌-◌, ◌^◌, ◌≤◌, ◌<◌}
use mathlib.Core.Path.{◌≡◌, refl, sym, ◌∙◌, ap}
use mathlib.Core.List.{List, ◌++◌}
use native.Mathlib.Omega.{arith}
use lib.IntN.{ℤ}
use lib.ListN.{length, take, drop, length-append, length-take}
use lib.Seq.{take_at}
use borrow.Author.Tests.{le-ltb}
use Rattle.leb128.specs.Reply.{Reply}
use Rattle.leb128.specs.Limits.{list_limit}
use Rattle.leb128.specs.Format.{Result, outcome, answered, filled}
use Rattle.leb128.specs.Format.Result.{elements}
use Rattle.leb128.specs.laws.GoodFormat.{filled_elements}
use Rattle.leb128.specs.declared.Refusal.{Refusal}
use Rattle.std.specs.Prelude.{Ok, Err}
use Rattle.std.specs.Prelude.{Result as Answer}
use Rattle.std.specs.Result.{result_unwrap_or}
use Rattle.sheet.specs.Reading.{read_sheet}
use Rattle.sheet.specs.laws.Sheets.{read_accepted, good_layout}
use Rattle.drawing.specs.Sheet.{sheet_of}
use Rattle.drawing.specs.Drawing.{coordinate}
use Rattle.drawing.proofs.laws.Proper.{nodes_are}
use Rattle.engine.specs.Draws.{Draws, drawn_of}
use Rattle.report.specs.Limits.{max_text}
use Rattle.report.specs.Text.{drawing_lines, refusal_line, drawing_text, refusal_text}
use Rattle.report.specs.laws.Lengths.{drawing_lines_le, any_text_limit, refusal_line_le, refusal_limit}
use Rattle.report.proofs.laws.Texts.{text_is}
use Rattle.place.specs.Prints.{answer_text, Shows}
use Rattle.place.specs.inside.Telling.{Answered, count_of}

-- a text that a slice has room for
record Fits (text : Result) (room : ℕ) : Type 0 where
  pub whole : List ℕ
  pub is : text ≡ elements whole
  pub few : length whole ≤ room

-- how many elements an answer says were written
written : (answer : Answer ℕ Refusal) → result_unwrap_or answer 0 ≡ count_of (outcome answer)
unfolding count_of outcome
written (Ok count) = refl
written (Err r) = refl

-- it is all written
shown : {text : Result} (answer : Answer ℕ Refusal) (old new : List ℕ) {count : ℕ} → Fits text (length old)
    → outcome answer ≡ answered (length old) text → new ≡ filled text old → count ≡ result_unwrap_or answer 0 → Shows text new count
unfolding answered count_of
shown {text} answer old new {count} fits e f c =
    let es : List ℕ = fits.whole in
    let all : count ≡ length es =
    c ∙ written answer ∙ ap count_of (e ∙ ap (answered (length old)) fits.is) ∙ rw (le-ltb (length old) (length es) fits.few) in
    let front : new ≡ es ++ drop (length es) old = f ∙ filled_elements old fits.is fits.few in
    record {
      inside = omega (arith, ap length front ∙ length-append es (drop (length es) old));
      is = fits.is ∙ ap elements (sym (ap (take count) front ∙ take_at es (drop (length es) old) count (sym all)));
    }

-- a refusal's text fits
refusal_fits : (r : Refusal) (room : ℕ) → max_text ≤ room → r.number < 2 ^ 8 → r.offset < 2 ^ 64 → Fits (refusal_text r) room
unfolding refusal_text
refusal_fits r room h a b =
    record {
      whole = refusal_line r;
      is = refl;
      few = omega (arith, refusal_line_le r (2 ^ 8 - 1) (2 ^ 64 - 1) (omega arith) (omega arith), refusal_limit);
    }

-- what is drawn was read, and each of its nodes has a place
drawn_numbers : (read : Result) (p₀ : List ℕ) (y₀ : List ℤ) (p : List ℕ) (y : List ℤ) (total : ℕ) → Draws read p₀ y₀ p y (Reply.value total)
    → (numbers : List ℕ) × (read ≡ elements numbers) × ((sheet_of numbers).nodes ≤ length p)
unfolding Draws
drawn_numbers (elements numbers) p₀ y₀ p y total d =
    (numbers, refl, omega (arith, d.leftmost.is_least.candidate.size, length-take (sheet_of numbers).nodes p))
drawn_numbers (Result.refused r) p₀ y₀ p y total d = let z : ◌≡◌ {A = ℕ} 0 1 = cc d.0 in absurd (omega arith)

-- a drawing's text fits
drawing_fits : (bytes p : List ℕ) (total room : ℕ) → max_text ≤ room → Answered (read_sheet bytes) p (Reply.value total)
    → ((v : ℕ) → coordinate p v < list_limit) → total < 2 ^ 32 → Fits (drawing_text (read_sheet bytes) p total) room
drawing_fits bytes p total room h a small t =
    let d = drawn_numbers (read_sheet bytes) a.places₀ a.list₀ p a.answers.list total a.answers.draws in
    let numbers : List ℕ = d.0 in
    let good = good_layout numbers (read_accepted bytes numbers d.1) in
    record {
      whole = drawing_lines (sheet_of numbers) p total;
      is = ap (λ (k : Result). drawing_text k p total) d.1 ∙ text_is numbers p total (omega (arith, nodes_are numbers, d.2));
      few =
          omega (
            arith,
            any_text_limit,
            drawing_lines_le numbers p total (list_limit - 1) (2 ^ 32 - 1) good (λ v i. omega (arith, small v)) (omega arith),
          );
    }

-- an answer of the engine, told
module _ (bytes p old new : List ℕ) {count : ℕ} (drawn answer : Answer ℕ Refusal)
    (room : max_text ≤ length old) (a : Answered (read_sheet bytes) p (drawn_of drawn)) (c : count ≡ result_unwrap_or answer 0) where
  -- a drawing
  pub told_drawing : {total : ℕ} → drawn ≡ Ok total → ((v : ℕ) → coordinate p v < list_limit) → total < 2 ^ 32
      → outcome answer ≡ answered (length old) (drawing_text (read_sheet bytes) p total)
      → new ≡ filled (drawing_text (read_sheet bytes) p total) old
      → Shows (answer_text (read_sheet bytes) p (drawn_of drawn)) new count
  unfolding drawn_of answer_text
  told_drawing {total} is small t e f =
      rw is (shown answer old new (drawing_fits bytes p total (length old) room (rw is at a) small t) e f c)

  -- a refusal
  pub told_refusal : {r : Refusal} → drawn ≡ Err r → r.number < 2 ^ 8 → r.offset < 2 ^ 64
      → outcome answer ≡ answered (length old) (refusal_text r) → new ≡ filled (refusal_text r) old
      → Shows (answer_text (read_sheet bytes) p (drawn_of drawn)) new count
  unfolding drawn_of answer_text
  told_refusal {r} is n o e f = rw is (shown answer old new (refusal_fits r (length old) room n o) e f c)
