-- A returned total is at most 2,096,640: the sheet is a proper one, since it was read.
use Rattle.std.specs.Prelude.{ℕ, ◌≤◌, ◌≡◌, refl, List, ℤ, take}
use Rattle.std.proofs.Common.{arith}
use Rattle.leb128.specs.Format.{Result}
use Rattle.leb128.specs.Format.Result.{elements}
use Rattle.leb128.specs.Reply.{Reply}
use Rattle.leb128.specs.laws.ReplyCases.{value_not}
use Rattle.sheet.specs.Reading.{read_sheet}
use Rattle.sheet.specs.laws.Sheets.{read_accepted}
use Rattle.drawing.specs.Sheet.{Sheet}
use Rattle.drawing.specs.Proper.{max_total, Proper}
use Rattle.drawing.proofs.laws.Proper.{accepts_proper}
use Rattle.drawing.proofs.laws.Unique.{total_most}
use Rattle.engine.specs.Draws.{Returns, Draws}

-- of a proper sheet
sheet_total : {S : Sheet} {p₀ : List ℕ} {y₀ : List ℤ} {p : List ℕ} {y : List ℤ} {total : ℕ} → Proper S → Returns S p₀ y₀ p y total
    → total ≤ max_total
sheet_total {S} {p = p} proper g = omega (arith, g.total_is, total_most S (take S.nodes p) proper g.leftmost.is_least.candidate)

-- of a sheet that was read
pub drawn_total : (bytes p₀ : List ℕ) (y₀ : List ℤ) (p : List ℕ) (y : List ℤ) (total : ℕ)
    → Draws (read_sheet bytes) p₀ y₀ p y (Reply.value total) → total ≤ max_total
unfolding Draws
drawn_total bytes p₀ y₀ p y total d = go (read_sheet bytes) refl d
  where
    go : (read : Result) → read_sheet bytes ≡ read → Draws read p₀ y₀ p y (Reply.value total) → total ≤ max_total
    go (elements numbers) e g = sheet_total (accepts_proper numbers (read_accepted bytes numbers e)) g
    go (Result.refused r) e g = absurd (value_not g.0)
