-- What the checker's yes shows: demand 3, "the places are a drawing and every other drawing of that sheet has at least as
-- large a total".
use Rattle.std.specs.Prelude.{◌≡◌, ℕ, List, take}
use Rattle.leb128.specs.Format.{Result}
use Rattle.leb128.specs.Format.Result.{elements}
use Rattle.drawing.specs.Sheet.{sheet_of}
use Rattle.drawing.specs.Drawing.{LeastDrawing}

-- the bytes are those of a good sheet, and the first places are a least drawing of it
pub record ShownLeast (read : Result) (places : List ℕ) : Type 0 where
  pub numbers : List ℕ
  pub reads : read ≡ elements numbers
  pub least : LeastDrawing (sheet_of numbers) (take (sheet_of numbers).nodes places)
