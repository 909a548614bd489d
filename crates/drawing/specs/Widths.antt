-- Drawings of a sheet at other widths.
use Rattle.std.specs.Prelude.{ℕ, ◌≡◌, List, set}
use Rattle.sheet.specs.Layout.{width_at}
use Rattle.drawing.specs.Sheet.{Sheet, at_width}
use Rattle.drawing.specs.Drawing.{LeastDrawing, total_length}

-- a sheet's numbers with another width
abbrev pub with_width : ℕ → List ℕ → List ℕ
with_width width s = set s width_at width

-- at this width the sheet has a least drawing, with this total
pub record TotalAt (S : Sheet) (width total : ℕ) : Type 0 where
  pub places : List ℕ
  pub least : LeastDrawing (at_width width S) places
  pub total_is : total ≡ total_length (at_width width S) places
