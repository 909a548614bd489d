-- What the theorems say of answers: that two are the same, and what both calls answer on the table of marked sheets.
use Rattle.std.specs.Prelude.{ℕ, ◌≡◌, List, [], ◌∷◌, ℤ, length, take}
use Rattle.leb128.specs.Reply.{Reply}
use Rattle.leb128.specs.Source.{refusal}
use Rattle.leb128.specs.Format.Result.{elements}
use Rattle.sheet.specs.Reading.{read_sheet}
use Rattle.drawing.specs.Sheet.{sheet_of}
use Rattle.drawing.specs.Rows.{Outcome, Row}
use Rattle.drawing.specs.Rows.Outcome.{drawn, undrawable, rejected}
use Rattle.checker.specs.Verdict.{accepted, check_answer}
use Rattle.checker.specs.Verdict as verdict
use Rattle.engine.specs.Refusals.{no_drawing}
use Rattle.engine.specs.Draws.{Drawn, Room, Draws}

-- the same answer and the same places
pub record Same (p q : List ℕ) (a b : Drawn) : Type 0 where
  pub answer : a ≡ b
  pub places : p ≡ q

-- the bytes are those of a good sheet, and whatever meets the contract of drawing it, with slices that are long enough, has
-- this property of its places and its answer
pub record EveryDrawing (bytes : List ℕ) (P : List ℕ → Drawn → Type 0) : Type 0 where
  pub numbers : List ℕ
  pub reads : read_sheet bytes ≡ elements numbers
  pub answers : (p₀ : List ℕ) (y₀ : List ℤ) (p : List ℕ) (y : List ℤ) (d : Drawn) → Room (sheet_of numbers) (length p₀) (length y₀)
      → Draws (read_sheet bytes) p₀ y₀ p y d → P (take (sheet_of numbers).nodes p) d

-- a drawn row: every drawing has the row's total and places, and the checker says yes to them and the row's list
pub record DrawnRow (bytes : List ℕ) (total : ℕ) (coordinates : List ℕ) (list : List ℤ) : Type 0 where
  pub drawing : EveryDrawing bytes (λ places d. (d ≡ Reply.value total) × (places ≡ coordinates))
  pub checked : check_answer (read_sheet bytes) coordinates list ≡ accepted

-- what both calls answer on a row's bytes: a sheet without a drawing is refused with 8 at 0, a rejected list gets a no
abbrev pub Answered : List ℕ → Outcome → Type 0
Answered bytes (drawn total coordinates list) = DrawnRow bytes total coordinates list
Answered bytes (undrawable list) = EveryDrawing bytes (λ places d. d ≡ Reply.refused (refusal no_drawing 0))
Answered bytes (rejected coordinates list) = check_answer (read_sheet bytes) coordinates list ≡ verdict.rejected

-- on every row
abbrev pub EveryAnswered : List Row → Type 0
EveryAnswered [] = Unit {0}
EveryAnswered (r ∷ rows) = Answered r.bytes r.outcome × EveryAnswered rows
