-- The refusals that drawing and the minimum width add to reading, by the numbers of documents 01 and 02, and all that they give.
use Rattle.std.specs.Prelude.{ℕ, ◌≡◌}
use Rattle.leb128.specs.Refusals.{something_follows}
use Rattle.leb128.specs.Source.{refusal}
use Rattle.leb128.specs.declared.Refusal.{Refusal}
use Rattle.sheet.specs.Refusals.{RefusalTo}

-- no drawing exists
abbrev pub no_drawing : ℕ
no_drawing = 8

-- no width within the limit has a drawing
abbrev pub no_width : ℕ
no_width = 10

-- a refusal of drawing: one with a number from 1 to 8
abbrev pub DrawRefusal : Refusal → Type 0
DrawRefusal = RefusalTo no_drawing

-- a refusal of the minimum width: one of reading, from 1 to 6, or 10 at offset 0
pub data WidthRefusal (r : Refusal) : Type 0 where
  read : RefusalTo something_follows r → WidthRefusal r
  none : r ≡ refusal no_width 0 → WidthRefusal r
