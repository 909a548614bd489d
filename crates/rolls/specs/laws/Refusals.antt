-- The call for many widths refuses with 1 to 7 and 11 only: as reading does, for too many widths, for one outside its limits, and for a
-- slice that is too short.
use Rattle.std.specs.Prelude.{ℕ, ◌≤◌, ◌≡◌, refl, List, length}
use Rattle.std.proofs.Common.{sym, subst, arith}
use Rattle.leb128.specs.Refusals.{something_follows}
use Rattle.leb128.specs.Format.{Result, Outcome}
use Rattle.leb128.specs.Format.Result.{elements}
use Rattle.leb128.specs.Format.Outcome.{wrote}
use Rattle.leb128.specs.declared.Refusal.{Refusal}
use Rattle.sheet.specs.Refusals.{RefusalTo}
use Rattle.sheet.specs.Reading.{read_sheet}
use Rattle.sheet.specs.laws.Sheets.{reader_refusals}
use Rattle.rolls.specs.Limits.{max_widths}
use Rattle.rolls.specs.Refusals.{TotalsRefusal}
use Rattle.rolls.specs.Refusals.TotalsRefusal.{read, many, outside, short}
use Rattle.rolls.specs.Totals.{first_outside, widths_answer, totals_answer}
use Rattle.rolls.specs.laws.Answers.{answer_cases, refused_not}

-- a refusal of a good sheet
widths_refusal : (ws : List ℕ) (room : ℕ) (r : Refusal) → widths_answer ws room ≡ Outcome.refused r → TotalsRefusal r
widths_refusal ws room r =
    answer_cases ws room (λ (o : Outcome). o ≡ Outcome.refused r → TotalsRefusal r)
    (λ e. many cc) (λ few l e. outside {i = first_outside ws} (omega arith) cc) (λ e. short cc)
    (λ few inside e. refused_not (sym e))

-- a refusal of any input
pub totals_refusals : (bytes ws : List ℕ) (room : ℕ) (r : Refusal) → totals_answer (read_sheet bytes) ws room ≡ Outcome.refused r
    → TotalsRefusal r
unfolding totals_answer
totals_refusals bytes ws room r e = go (read_sheet bytes) refl e
  where
    go : (read : Result) → read_sheet bytes ≡ read → totals_answer read ws room ≡ Outcome.refused r → TotalsRefusal r
    go (elements numbers) is e = widths_refusal ws room r e
    go (Result.refused s) is e = let same : s ≡ r = cc in read (subst (RefusalTo something_follows) same (reader_refusals bytes s is))

-- if nothing is refused, there are at most 64 widths, and their count is answered
pub totals_count : (read : Result) (ws : List ℕ) (room count : ℕ) → totals_answer read ws room ≡ wrote count
    → (count ≡ length ws) × (length ws ≤ max_widths)
unfolding totals_answer
totals_count (elements numbers) ws room count e =
    answer_cases ws room (λ (o : Outcome). o ≡ wrote count → (count ≡ length ws) × (length ws ≤ max_widths))
    (λ e. refused_not e) (λ few l e. refused_not e) (λ e. refused_not e) (λ few inside e. (cc, few)) e
totals_count (Result.refused r) ws room count e = refused_not e
