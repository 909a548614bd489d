-- The word of `strip_totals`: it tells the count of widths, and each entry is what the word of `strip_draw` tells of the sheet with that
-- width.
use Rattle.std.specs.Prelude.{ℕ, ◌<◌, ◌≡◌, refl, List, ℤ, length, get_or}
use Rattle.std.proofs.Common.{◌∙◌, arith}
use Rattle.std.proofs.Math.Path.{ap}
use Rattle.leb128.specs.Format.{Outcome}
use Rattle.leb128.specs.Format.Result.{elements}
use Rattle.sheet.specs.Reading.{read_sheet}
use Rattle.drawing.specs.Sheet.{sheet_of}
use Rattle.drawing.specs.Widths.{with_width}
use Rattle.engine.specs.Draws.{Room}
use Rattle.rolls.specs.Totals.{totals_answer, Written}
use Rattle.rolls.specs.Single.{single_answer}
use Rattle.rolls.specs.laws.Refusals.{totals_count}
use Rattle.rolls.specs.laws.Single.{written_single}
use Rattle.strip.specs.Words.{number_of, Parts, outcome_word, drawn_word, DrawsWord}
use Rattle.strip.specs.HeldWords.{HeldOutcome}
use Rattle.strip.specs.laws.ReadBack.{parts_back}
use Rattle.strip.specs.laws.Values.{totals_held}

module _ (bytes ws old : List ℕ) (word : ℕ) (e : word ≡ outcome_word (totals_answer (read_sheet bytes) ws (length old)))
    (zero : number_of word ≡ 0) where
  -- a word without a refusal is that of totals that are written
  wrote_word : (o : Outcome) → totals_answer (read_sheet bytes) ws (length old) ≡ o → HeldOutcome o → word ≡ outcome_word o
      → totals_answer (read_sheet bytes) ws (length old) ≡ Outcome.wrote (length ws)
  unfolding outcome_word
  wrote_word (Outcome.wrote count) is held e =
      is ∙ ap Outcome.wrote (totals_count (read_sheet bytes) ws (length old) count is).0
  wrote_word (Outcome.refused r) is held e =
      let back = parts_back 0 r.number r.offset held.number_in held.offset_in e in
      absurd (omega (arith, zero, back.number_is, held.numbered))

  -- so it is here
  wrote_all : totals_answer (read_sheet bytes) ws (length old) ≡ Outcome.wrote (length ws)
  wrote_all = wrote_word (totals_answer (read_sheet bytes) ws (length old)) refl (totals_held bytes ws (length old)) e

  -- the value is the count of widths
  pub count_back : Parts word 0 0 (length ws)
  unfolding outcome_word
  count_back =
      parts_back 0 0 (length ws) (omega arith)
      (omega (arith, (totals_count (read_sheet bytes) ws (length old) (length ws) wrote_all).1))
      (e ∙ ap outcome_word wrote_all)

  -- and each entry is what drawing any bytes that are read as the sheet with its width tells
  pub entry_word : (new : List ℕ) → Written (read_sheet bytes) ws old new → (s : List ℕ) → read_sheet bytes ≡ elements s
      → (i : ℕ) → i < length ws → (p₀ : List ℕ) (y₀ : List ℤ) (p : List ℕ) (y : List ℤ) → Room (sheet_of s) (length p₀) (length y₀)
      → (other : List ℕ) → read_sheet other ≡ elements (with_width (get_or ws i 0) s)
      → (v : ℕ) → DrawsWord (read_sheet other) p₀ y₀ p y v → v ≡ drawn_word (single_answer (get_or new i 0))
  entry_word new written s is i l p₀ y₀ p y room other reads v g =
      g.1 ∙ ap drawn_word
      (written_single bytes ws old new (length ws) wrote_all written s is i l p₀ y₀ p y room other reads g.0 g.2)
