-- What the call for many widths answers and leaves in the lent slice (document 02, "Many widths for one sheet"), by what reading gives.
-- The sheet's own width is read and tested, and then plays no part: only the sheet at other widths is spoken of.
use Rattle.std.specs.Prelude.{ℕ, suc, ◌<◌, ◌≡◌, cond, List, [], ◌∷◌, leb, ltb, length, get_or, drop}
use Rattle.leb128.specs.Refusals.{outside_limits, slice_short}
use Rattle.leb128.specs.Source.{refusal}
use Rattle.leb128.specs.Format.{Result, Outcome}
use Rattle.leb128.specs.Format.Result.{elements}
use Rattle.leb128.specs.Format.Outcome.{wrote}
use Rattle.sheet.specs.Limits.{max_width}
use Rattle.drawing.specs.Sheet.{Sheet, sheet_of, at_width}
use Rattle.drawing.specs.Drawing.{NoDrawing}
use Rattle.drawing.specs.Widths.{TotalAt}
use Rattle.rolls.specs.Limits.{max_widths, no_total}
use Rattle.rolls.specs.Refusals.{many_widths}

-- the entry of a width: the least total at it, or `no_total` if the sheet has no drawing there
pub data Entry (S : Sheet) (width : ℕ) : ℕ → Type 0 where
  drawn : {total : ℕ} → TotalAt S width total → Entry S width total
  none : NoDrawing (at_width width S) → Entry S width no_total

-- the index of the first width outside its limits; the count of widths if there is none
unfoldable pub first_outside : List ℕ → ℕ
first_outside [] = 0
first_outside (w ∷ ws) = cond (leb w max_width) (suc (first_outside ws)) 0

-- the answer on a good sheet, for a slice of room totals: 11 before any width is looked at, 4 at the first width outside its limits, 7,
-- and then the count of widths
unfoldable pub widths_answer : List ℕ → ℕ → Outcome
widths_answer ws room =
    cond (ltb max_widths (length ws)) (Outcome.refused (refusal many_widths 0))
    (cond (ltb (first_outside ws) (length ws)) (Outcome.refused (refusal outside_limits (first_outside ws)))
    (cond (ltb room (length ws)) (Outcome.refused (refusal slice_short 0))
    (wrote (length ws))))

-- the whole answer, by what reading gives: its refusals come first
unfoldable pub totals_answer : Result → List ℕ → ℕ → Outcome
totals_answer (elements numbers) ws room = widths_answer ws room
totals_answer (Result.refused r) ws room = Outcome.refused r

-- the entry of each width at its index, and the old elements behind
pub record Entries (S : Sheet) (ws old new : List ℕ) : Type 0 where
  pub size : length new ≡ length old
  pub entries : (i : ℕ) → i < length ws → Entry S (get_or ws i 0) (get_or new i 0)
  pub behind : drop (length ws) new ≡ drop (length ws) old

-- what an outcome leaves of a good sheet: the entries, or all as it was
abbrev pub Leaves : Outcome → Sheet → List ℕ → List ℕ → List ℕ → Type 0
Leaves (wrote count) S ws old new = Entries S ws old new
Leaves (Outcome.refused r) S ws old new = new ≡ old

-- the lent slice before and after the whole call, by what reading gives
unfoldable pub Written : Result → List ℕ → List ℕ → List ℕ → Type 0
Written (elements numbers) ws old new = Leaves (widths_answer ws (length old)) (sheet_of numbers) ws old new
Written (Result.refused r) ws old new = new ≡ old
