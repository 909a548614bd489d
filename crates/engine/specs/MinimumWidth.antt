-- What the call for the minimum width answers (document 02, "The narrowest strip"), by what reading gives. The sheet's own width
-- is read and tested, and then disregarded: only the sheet at other widths is spoken of.
use Rattle.std.specs.Prelude.{ℕ, ◌≤◌, ◌<◌, ◌≡◌, Ok, Err}
use Rattle.std.specs.Prelude.{Result as Answer}
use Rattle.leb128.specs.Reply.{Reply}
use Rattle.leb128.specs.declared.Refusal.{Refusal}
use Rattle.leb128.specs.Source.{refusal}
use Rattle.leb128.specs.Format.{Result}
use Rattle.leb128.specs.Format.Result.{elements}
use Rattle.sheet.specs.Limits.{max_width}
use Rattle.drawing.specs.Sheet.{Sheet, sheet_of, at_width}
use Rattle.drawing.specs.Drawing.{NoDrawing}
use Rattle.drawing.specs.Widths.{TotalAt}
use Rattle.engine.specs.Refusals.{no_width}
use Rattle.engine.specs.declared.Narrowest.{Narrowest}

-- a width and a total, or the refusal
abbrev pub Narrowed : Type 0
Narrowed = Reply Narrowest

-- what the code's answer stands for
unfoldable pub narrowing : Answer Narrowest Refusal → Narrowed
narrowing (Ok n) = Reply.value n
narrowing (Err r) = Reply.refused r

-- the minimum width and the least total at it: the width is within its limit, and no smaller one has a drawing
pub record IsMinimum (S : Sheet) (width total : ℕ) : Type 0 where
  pub width_in : width ≤ max_width
  pub total_at : TotalAt S width total
  pub none_narrower : (w : ℕ) → w < width → NoDrawing (at_width w S)

-- no width within the limit has a drawing
abbrev pub NoWidth : Sheet → Type 0
NoWidth S = (w : ℕ) → w ≤ max_width → NoDrawing (at_width w S)

-- a good sheet
abbrev pub NarrowsSheet : Sheet → Narrowed → Type 0
NarrowsSheet S (Reply.value n) = IsMinimum S n.width n.total
NarrowsSheet S (Reply.refused r) = (r ≡ refusal no_width 0) × NoWidth S

-- the whole call, by what reading gives: its refusals come first
unfoldable pub Narrows : Result → Narrowed → Type 0
Narrows (elements numbers) a = NarrowsSheet (sheet_of numbers) a
Narrows (Result.refused r) a = a ≡ Reply.refused r
