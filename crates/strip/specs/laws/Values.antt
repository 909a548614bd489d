-- A word holds every answer: each value and each offset is below 2³², since a walk ends within the longest sheet, and each second
-- value and each refusal's number is below 2¹⁶.
use Rattle.std.specs.Prelude.{ℕ, ◌≤◌, ◌<◌, ◌≡◌, refl, Bool, true, false, List, ℤ, length}
use Rattle.std.proofs.Common.{sym, ap, subst, ⊎_elim, arith, lt-ltb, le-ltb}
use Rattle.leb128.specs.declared.Refusal.{Refusal}
use Rattle.leb128.specs.Source.{refusal}
use Rattle.leb128.specs.Format.{Result, Outcome, answered}
use Rattle.leb128.specs.Format.Result.{elements}
use Rattle.leb128.specs.laws.Cases.{lt_or_le}
use Rattle.leb128.specs.Reply.{Reply}
use Rattle.sheet.specs.Limits.{max_bytes}
use Rattle.sheet.specs.Reading.{read_sheet, write_sheet, read_coordinates, write_coordinates}
use Rattle.sheet.specs.Refusals.{NumberTo, RefusalTo}
use Rattle.sheet.specs.laws.Refusals.{number_given, outside_given, reader_given, writer_given}
use Rattle.sheet.specs.laws.Sheets as sheets
use Rattle.sheet.proofs.laws.Coordinates as files
use Rattle.checker.specs.Verdict.{check_answer}
use Rattle.checker.specs.laws.Refusals.{check_refusals}
use Rattle.engine.specs.Draws.{Drawn, Draws}
use Rattle.engine.specs.laws.Refusals.{draw_refusals}
use Rattle.engine.specs.laws.Totals.{drawn_total}
use Rattle.engine.specs.MinimumWidth.{Narrowed, Narrows}
use Rattle.engine.specs.laws.MinimumWidth.{narrow_refusals, narrow_small}
use Rattle.engine.specs.Refusals.{WidthRefusal}
use Rattle.engine.specs.Refusals.WidthRefusal.{read, none}
use Rattle.rolls.specs.Refusals.{TotalsRefusal}
use Rattle.rolls.specs.Totals.{totals_answer}
use Rattle.rolls.specs.laws.Refusals.{totals_refusals, totals_count}
use Rattle.strip.specs.Words.{number_unit, part_range, alone}
use Rattle.strip.specs.HeldWords.{HeldRefusal, HeldResult, HeldOutcome, HeldDrawn, HeldJudgement, HeldNarrowed}

-- a refusal with a small number, at an offset within the longest sheet
numbered_held : {most : ℕ} {r : Refusal} → NumberTo most r.number → most < part_range → r.offset ≤ max_bytes → HeldRefusal r
numbered_held n m o = record { numbered = n.0; number_in = omega (arith, m, n.1); offset_in = omega (arith, o) }

-- one of a call that reads a sheet's bytes
given_held : {most : ℕ} {r : Refusal} → most < part_range → RefusalTo most r → HeldRefusal r
given_held m g = numbered_held g.number_in m g.offset_in

-- a refusal with a small number at offset 0
zero_held : {number : ℕ} → 0 < number → number < part_range → HeldRefusal (refusal number 0)
zero_held n m = record { numbered = n; number_in = m; offset_in = omega arith }

-- a result that is one number
alone_held : {n : ℕ} → n < number_unit → HeldResult (alone n)
alone_held h = record { second_in = omega arith; value_in = h }

-- what is answered for a result: of few elements their count, or that they have no room; a refusal as it is
answer_held : (room : ℕ) (result : Result) → ((es : List ℕ) → result ≡ elements es → length es < number_unit)
    → ((r : Refusal) → result ≡ Result.refused r → HeldRefusal r) → HeldOutcome (answered room result)
unfolding answered
answer_held room (elements es) few held =
    ⊎_elim
    (λ (k : room < length es). rw (lt-ltb room (length es) k) (zero_held (omega arith) (omega arith)))
    (λ (k : length es ≤ room). rw (le-ltb room (length es) k) (alone_held (few es refl)))
    (lt_or_le room (length es))
answer_held room (Result.refused r) few held = held r refl

-- of reading a sheet
pub reading_held : (bytes : List ℕ) (room : ℕ) → HeldOutcome (answered room (read_sheet bytes))
reading_held bytes room =
    answer_held room (read_sheet bytes)
    (λ numbers e. omega (arith, sheets.most_numbers numbers (sheets.read_accepted bytes numbers e)))
    (λ r e. given_held (omega arith) (sheets.reader_refusals bytes r e))

-- of writing one
pub writing_held : (numbers : List ℕ) (room : ℕ) → HeldOutcome (answered room (write_sheet numbers))
unfolding answered
writing_held numbers room =
    answer_held room (write_sheet numbers)
    (λ bytes e. omega (arith, sheets.most_bytes bytes numbers (sheets.read_written numbers bytes e)))
    (λ r e. numbered_held (writer_given number_given (sheets.writer_refusals numbers room r (ap (answered room) e)))
    (omega arith) (omega (arith, sheets.writer_offsets numbers r e)))

-- of reading a coordinate file
pub file_reading_held : (bytes : List ℕ) (room : ℕ) → HeldOutcome (answered room (read_coordinates bytes))
file_reading_held bytes room =
    answer_held room (read_coordinates bytes)
    (λ numbers e. omega (arith, files.most_numbers numbers (files.read_accepted bytes numbers e)))
    (λ r e. numbered_held (reader_given outside_given (files.reader_refusals bytes r e))
    (omega arith) (omega (arith, files.reader_offsets bytes r e)))

-- of writing one
pub file_writing_held : (numbers : List ℕ) (room : ℕ) → HeldOutcome (answered room (write_coordinates numbers))
unfolding answered
file_writing_held numbers room =
    answer_held room (write_coordinates numbers)
    (λ bytes e. omega (arith, files.most_bytes bytes numbers (files.read_written numbers bytes e)))
    (λ r e. numbered_held (writer_given outside_given (files.writer_refusals numbers room r (ap (answered room) e)))
    (omega arith) (omega (arith, files.writer_offsets numbers r e)))

-- of drawing
pub drawing_held : (bytes p₀ : List ℕ) (y₀ : List ℤ) (p : List ℕ) (y : List ℤ) (d : Drawn)
    → Draws (read_sheet bytes) p₀ y₀ p y d → HeldDrawn d
drawing_held bytes p₀ y₀ p y (Reply.value total) h = alone_held (omega (arith, drawn_total bytes p₀ y₀ p y total h))
drawing_held bytes p₀ y₀ p y (Reply.refused r) h = given_held (omega arith) (draw_refusals bytes p₀ y₀ p y r h)

-- of checking
pub checking_held : (bytes places : List ℕ) (list : List ℤ) → HeldJudgement (check_answer (read_sheet bytes) places list)
checking_held bytes places list = go (check_answer (read_sheet bytes) places list) refl
  where
    go : (j : Reply Bool) → check_answer (read_sheet bytes) places list ≡ j → HeldJudgement j
    go (Reply.value true) e = alone_held (omega arith)
    go (Reply.value false) e = alone_held (omega arith)
    go (Reply.refused r) e = given_held (omega arith) (check_refusals bytes places list r e)

-- a refusal of the minimum width
width_held : {r : Refusal} → WidthRefusal r → HeldRefusal r
width_held (read g) = given_held (omega arith) g
width_held (none e) = subst HeldRefusal (sym e) (zero_held (omega arith) (omega arith))

-- of the minimum width
pub narrowing_held : (bytes : List ℕ) (a : Narrowed) → Narrows (read_sheet bytes) a → HeldNarrowed a
narrowing_held bytes (Reply.value n) h =
    let small = narrow_small bytes n h in
    record { second_in = omega (arith, small.0); value_in = omega (arith, small.1) }
narrowing_held bytes (Reply.refused r) h = width_held (narrow_refusals bytes r h)

-- a refusal of many widths
widths_held : {r : Refusal} → TotalsRefusal r → HeldRefusal r
widths_held (TotalsRefusal.read g) = given_held (omega arith) g
widths_held (TotalsRefusal.many e) = subst HeldRefusal (sym e) (zero_held (omega arith) (omega arith))
widths_held (TotalsRefusal.outside l e) =
    subst HeldRefusal (sym e) (record { numbered = omega arith; number_in = omega arith; offset_in = omega (arith, l) })
widths_held (TotalsRefusal.short e) = subst HeldRefusal (sym e) (zero_held (omega arith) (omega arith))

-- of many widths
pub totals_held : (bytes ws : List ℕ) (room : ℕ) → HeldOutcome (totals_answer (read_sheet bytes) ws room)
totals_held bytes ws room = go (totals_answer (read_sheet bytes) ws room) refl
  where
    go : (o : Outcome) → totals_answer (read_sheet bytes) ws room ≡ o → HeldOutcome o
    go (Outcome.wrote count) e = alone_held (omega (arith, totals_count (read_sheet bytes) ws room count e))
    go (Outcome.refused r) e = widths_held (totals_refusals bytes ws room r e)
