-- What drawing answers, in the words of source 004 (Jünger, Mutzel and Spisla, 2018): where it refuses with 8 the sheet has no
-- coordinate assignment, where the sheet has one it draws, and what it draws is an assignment of least total length.
use Rattle.std.specs.Prelude.{ℕ, ◌≡◌, refl, List, ℤ, length, take}
use Rattle.std.proofs.Math.Path.{subst}
use Rattle.std.proofs.Common.{arith}
use Rattle.leb128.specs.Reply.{Reply}
use Rattle.leb128.specs.Format.{Result}
use Rattle.leb128.specs.Format.Result.{elements}
use Rattle.leb128.specs.declared.Refusal.{Refusal}
use Rattle.sheet.specs.Reading.{read_sheet}
use Rattle.sheet.specs.laws.Sheets.{read_accepted}
use Rattle.network.specs.Network.{integers}
use Rattle.drawing.specs.Sheet.{sheet_of}
use Rattle.drawing.specs.Assignment.{Assignment, LeastAssignment, shifted}
use Rattle.drawing.specs.Proper.{Proper}
use Rattle.drawing.proofs.laws.Proper.{accepts_proper}
use Rattle.drawing.proofs.laws.Shift.{shifted_drawing}
use Rattle.drawing.proofs.laws.LeastAssignment.{drawing_least_assignment}
use Rattle.engine.specs.Refusals.{no_drawing}
use Rattle.engine.specs.Draws.{Drawn, Room, Refuses, DrawsSheet, Draws}
use Rattle.engine.specs.laws.Refusals.{refused_none}
use Rattle.engine.specs.Draws.Refuses.{few_places, few_numbers, none}

module _ (bytes numbers : List ℕ) (read : read_sheet bytes ≡ elements numbers) (p₀ : List ℕ) (y₀ : List ℤ) (p : List ℕ) (y : List ℤ) where
  -- the sheet is within the limits
  proper : Proper (sheet_of numbers)
  proper = accepts_proper numbers (read_accepted bytes numbers read)

  -- where 8 is answered, no assignment exists
  pub none_assigned : (r : Refusal) → r.number ≡ no_drawing → Draws (read_sheet bytes) p₀ y₀ p y (Reply.refused r)
      → (x : List ℤ) → Assignment (sheet_of numbers) x → ⊥
  unfolding Draws
  none_assigned r e d x a = go meets.0 e
    where
      meets : DrawsSheet (sheet_of numbers) p₀ y₀ p y (Reply.refused r)
      meets = subst (λ (z : Result). Draws z p₀ y₀ p y (Reply.refused r)) read d

      go : {n : ℕ} → Refuses (sheet_of numbers) (length p₀) (length y₀) n → n ≡ no_drawing → ⊥
      go (few_places h) e = omega arith
      go (few_numbers h) e = omega arith
      go (none k h) e = h (shifted x) (shifted_drawing (sheet_of numbers) proper x a)

  -- what is drawn is a least assignment
  pub drawn_assigned : (total : ℕ) → Draws (read_sheet bytes) p₀ y₀ p y (Reply.value total)
      → LeastAssignment (sheet_of numbers) (integers (take (sheet_of numbers).nodes p))
  unfolding Draws
  drawn_assigned total d =
      let meets : DrawsSheet (sheet_of numbers) p₀ y₀ p y (Reply.value total) =
      subst (λ (z : Result). Draws z p₀ y₀ p y (Reply.value total)) read d in
      drawing_least_assignment (sheet_of numbers) proper (take (sheet_of numbers).nodes p) meets.leftmost.is_least

  -- where an assignment exists and the slices are long enough, a drawing is returned
  pub assigned_drawn : (x : List ℤ) → Assignment (sheet_of numbers) x → Room (sheet_of numbers) (length p₀) (length y₀)
      → (d : Drawn) → Draws (read_sheet bytes) p₀ y₀ p y d → (total : ℕ) × (d ≡ Reply.value total)
  unfolding Draws
  assigned_drawn x a room (Reply.value total) g = (total, refl)
  assigned_drawn x a room (Reply.refused r) g =
      let meets : DrawsSheet (sheet_of numbers) p₀ y₀ p y (Reply.refused r) =
      subst (λ (z : Result). Draws z p₀ y₀ p y (Reply.refused r)) read g in
      absurd ((refused_none (sheet_of numbers) (length p₀) (length y₀) room meets.0).1 (shifted x)
      (shifted_drawing (sheet_of numbers) proper x a))
