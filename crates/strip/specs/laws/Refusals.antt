-- The word of `strip_draw` has a number from 0 to 8, that of `strip_narrowest` one from 0 to 6 or 10, that of `strip_totals` one from 0
-- to 7 or 11, that of `strip_read_drawing` one from 0 to 4, 6 or 7, and that of `strip_write_drawing` 0, 1, 4, 6 or 7: no other refusal
-- is told, and 9 never.
use Rattle.std.specs.Prelude.{ℕ, ◌≤◌, ◌≡◌, refl, ◌⊎◌, List, ℤ}
use Rattle.std.proofs.Common.{sym, ap, subst, inl, inr, ⊎_elim, arith}
use Rattle.leb128.specs.Refusals.{something_follows, slice_short}
use Rattle.leb128.specs.Format.{Outcome, answered}
use Rattle.leb128.specs.Reply.{Reply}
use Rattle.leb128.specs.declared.Refusal.{Refusal}
use Rattle.leb128.specs.laws.RefusalsGiven.{answer_refused}
use Rattle.sheet.specs.Reading.{read_sheet, read_coordinates, write_coordinates}
use Rattle.sheet.specs.Refusals.{Outside, ReaderRefusal, WriterRefusal}
use Rattle.sheet.proofs.laws.Coordinates.{reader_refusals, writer_refusals}
use Rattle.engine.specs.Refusals.{no_drawing, no_width, WidthRefusal}
use Rattle.engine.specs.Refusals.WidthRefusal.{read, none}
use Rattle.engine.specs.Draws.{Drawn, Draws}
use Rattle.engine.specs.MinimumWidth.{Narrowed, Narrows}
use Rattle.engine.specs.laws.Refusals.{draw_refusals}
use Rattle.engine.specs.laws.Totals.{drawn_total}
use Rattle.engine.specs.laws.MinimumWidth.{narrow_refusals}
use Rattle.rolls.specs.Refusals.{many_widths, TotalsRefusal}
use Rattle.rolls.specs.Totals.{totals_answer}
use Rattle.rolls.specs.laws.Refusals.{totals_refusals}
use Rattle.strip.specs.Words.{number_of, outcome_word, reply_word, drawn_word, DrawsWord, NarrowsWord}
use Rattle.strip.specs.HeldWords.{HeldOutcome}
use Rattle.strip.specs.laws.ReadBack.{parts_back}
use Rattle.strip.specs.laws.Values.{file_reading_held, file_writing_held, totals_held}
use Rattle.strip.specs.laws.Narrowest.{width_back, refusal_back}

-- what strip_refusal() gives of the word of drawing
pub draw_word_number : (bytes p₀ : List ℕ) (y₀ : List ℤ) (p : List ℕ) (y : List ℤ) (word : ℕ)
    → DrawsWord (read_sheet bytes) p₀ y₀ p y word → number_of word ≤ no_drawing
unfolding reply_word
draw_word_number bytes p₀ y₀ p y word w = go w.0 w.1 w.2
  where
    go : (d : Drawn) → word ≡ drawn_word d → Draws (read_sheet bytes) p₀ y₀ p y d → number_of word ≤ no_drawing
    go (Reply.value total) e h = omega (arith, drawn_total bytes p₀ y₀ p y total h)
    go (Reply.refused r) e h = omega (arith, (draw_refusals bytes p₀ y₀ p y r h).number_in, (draw_refusals bytes p₀ y₀ p y r h).offset_in)

-- and of that of the minimum width
pub narrow_word_number : (bytes : List ℕ) (word : ℕ) → NarrowsWord (read_sheet bytes) word
    → (number_of word ≤ something_follows) ⊎ (number_of word ≡ no_width)
narrow_word_number bytes word w = go w.0 w.2
  where
    told : (r : Refusal) → number_of word ≡ r.number → WidthRefusal r
        → (number_of word ≤ something_follows) ⊎ (number_of word ≡ no_width)
    told r e (read g) = inl (omega (arith, e, g.number_in))
    told r e (none is) = inr (rw is at e)

    go : (a : Narrowed) → Narrows (read_sheet bytes) a → (number_of word ≤ something_follows) ⊎ (number_of word ≡ no_width)
    go (Reply.value n) h = inl (omega (arith, (width_back bytes word w n h).number_is))
    go (Reply.refused r) h = told r (refusal_back bytes word w r h).number_is (narrow_refusals bytes r h)

-- of reading or writing, or of many widths: 0, or the number of a refusal that is given
answer_number : (N : ℕ → Type 0) {word : ℕ} (o : Outcome) → word ≡ outcome_word o → HeldOutcome o
    → ((r : Refusal) → o ≡ Outcome.refused r → N r.number) → (number_of word ≡ 0) ⊎ N (number_of word)
unfolding outcome_word
answer_number N (Outcome.wrote count) e held given = inl (parts_back 0 0 count (omega arith) held.value_in e).number_is
answer_number N (Outcome.refused r) e held given =
    inr (subst N (sym (parts_back 0 r.number r.offset held.number_in held.offset_in e).number_is) (given r refl))

-- of reading a coordinate file
pub file_read_number : (bytes : List ℕ) (room word : ℕ) → word ≡ outcome_word (answered room (read_coordinates bytes))
    → (number_of word ≡ 0) ⊎ (ReaderRefusal Outside (number_of word) ⊎ (number_of word ≡ slice_short))
file_read_number bytes room word e =
    let N : ℕ → Type 0 = λ n. ReaderRefusal Outside n ⊎ (n ≡ slice_short) in
    answer_number N (answered room (read_coordinates bytes)) e (file_reading_held bytes room)
    (λ r. answer_refused N (inr refl) room (read_coordinates bytes) r (λ f. inl (reader_refusals bytes r f)))

-- and of writing one
pub file_write_number : (numbers : List ℕ) (room word : ℕ) → word ≡ outcome_word (answered room (write_coordinates numbers))
    → (number_of word ≡ 0) ⊎ WriterRefusal Outside (number_of word)
file_write_number numbers room word e =
    answer_number (WriterRefusal Outside) (answered room (write_coordinates numbers)) e (file_writing_held numbers room)
    (writer_refusals numbers room)

-- a number of many widths
abbrev TotalsNumber : ℕ → Type 0
TotalsNumber n = (n ≤ slice_short) ⊎ (n ≡ many_widths)

-- a refusal of many widths has one
totals_number : (r : Refusal) → TotalsRefusal r → TotalsNumber r.number
totals_number r (TotalsRefusal.read g) = inl (omega (arith, g.number_in))
totals_number r (TotalsRefusal.many e) = inr (ap (λ (r : Refusal). r.number) e)
totals_number r (TotalsRefusal.outside l e) = inl (omega (arith, ap (λ (r : Refusal). r.number) e))
totals_number r (TotalsRefusal.short e) = inl (omega (arith, ap (λ (r : Refusal). r.number) e))

-- and so has the word
pub totals_word_number : (bytes ws : List ℕ) (room word : ℕ) → word ≡ outcome_word (totals_answer (read_sheet bytes) ws room)
    → (number_of word ≤ slice_short) ⊎ (number_of word ≡ many_widths)
totals_word_number bytes ws room word e =
    ⊎_elim (λ (z : number_of word ≡ 0). inl (omega arith)) (λ (g : TotalsNumber (number_of word)). g)
    (answer_number TotalsNumber (totals_answer (read_sheet bytes) ws room) e (totals_held bytes ws room)
    (λ r f. totals_number r (totals_refusals bytes ws room r f)))
