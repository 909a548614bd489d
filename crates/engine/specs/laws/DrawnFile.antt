-- What `draw` draws has a coordinate file: its places, with the counts of the sheet, are written and read back, since they are a drawing.
use Rattle.std.specs.Prelude.{ℕ, ◌≡◌, List, ℤ, take}
use Rattle.std.proofs.Common.{subst}
use Rattle.leb128.specs.Format.{Result}
use Rattle.leb128.specs.Format.Result.{elements}
use Rattle.leb128.specs.Reply.{Reply}
use Rattle.sheet.specs.Reading.{read_sheet, read_coordinates, write_coordinates}
use Rattle.sheet.specs.laws.Sheets.{read_accepted}
use Rattle.drawing.specs.Sheet.{sheet_of}
use Rattle.drawing.specs.Drawing.{Drawing}
use Rattle.drawing.specs.CoordinateFile.{file_numbers, file_bytes}
use Rattle.drawing.proofs.laws.CoordinateFile.{file_written, file_read}
use Rattle.engine.specs.Draws.{Draws}

module _ (bytes numbers p₀ : List ℕ) (y₀ : List ℤ) (p : List ℕ) (y : List ℤ) (total : ℕ) (e : read_sheet bytes ≡ elements numbers)
    (d : Draws (read_sheet bytes) p₀ y₀ p y (Reply.value total)) where
  -- the places in front are a drawing
  drawn : Drawing (sheet_of numbers) (take (sheet_of numbers).nodes p)
  unfolding Draws
  drawn = (subst (λ (read : Result). Draws read p₀ y₀ p y (Reply.value total)) e d).leftmost.is_least.candidate

  -- their list is written
  pub drawn_written : write_coordinates (file_numbers numbers (take (sheet_of numbers).nodes p))
      ≡ elements (file_bytes numbers (take (sheet_of numbers).nodes p))
  drawn_written = file_written numbers (take (sheet_of numbers).nodes p) (read_accepted bytes numbers e) drawn

  -- and read back
  pub drawn_read : read_coordinates (file_bytes numbers (take (sheet_of numbers).nodes p))
      ≡ elements (file_numbers numbers (take (sheet_of numbers).nodes p))
  drawn_read = file_read numbers (take (sheet_of numbers).nodes p) (read_accepted bytes numbers e) drawn
