-- The marked sheets of document 01 with their minimum widths, as one table, from their bytes to the answer.
use Rattle.std.specs.Prelude.{ℕ, ◌≡◌, List, [], ◌∷◌, ℤ}
use Rattle.leb128.specs.Reply.{Reply}
use Rattle.leb128.specs.Source.{refusal}
use Rattle.sheet.specs.Reading.{read_sheet}
use Rattle.drawing.specs.Table.{stair, crossed_edges, wide, over, lone, stairs, zeros, +0, +1, −1}
use Rattle.engine.specs.Refusals.{no_width}
use Rattle.engine.specs.MinimumWidth.{Narrowed, Narrows}

-- a sheet's minimum width, with what shows it
pub data Shown : Type 0 where
  -- this width, with this total at these coordinates; a list that shows no total there to be smaller, and one that shows that there
  -- is no drawing at one less
  found : ℕ → ℕ → List ℕ → List ℤ → List ℤ → Shown
  -- none: a list that shows that there is no drawing at the greatest width
  none : List ℤ → Shown

-- a sheet's bytes and its minimum width
pub record WidthRow : Type 0 where
  pub bytes : List ℕ
  pub shown : Shown

-- the answer of a row
abbrev pub row_answer : Shown → Narrowed
row_answer (found width total coordinates list narrower) = Reply.value (record { width = width; total = total })
row_answer (none list) = Reply.refused (refusal no_width 0)

-- on every row each answer that meets the contract is the row's
abbrev pub EveryNarrowed : List WidthRow → Type 0
EveryNarrowed [] = Unit {0}
EveryNarrowed (r ∷ rows) = ((a : Narrowed) → Narrows (read_sheet r.bytes) a → a ≡ row_answer r.shown) × EveryNarrowed rows

-- a row of the table
abbrev pub row : List ℕ → Shown → WidthRow
row bytes s = record { bytes = bytes; shown = s }

-- the list that shows that three nodes need a width of 2, behind the numbers of edges and upper layer
abbrev pub three : List ℤ
three = +1 ∷ +1 ∷ +0 ∷ +1 ∷ +0 ∷ +1 ∷ []

-- the rows of the table: the stair at width 0 and with its second edge straight, crossed edges, two over three with and without an
-- upper maximum separation, one over three, and one node alone
unfoldable pub width_table : List WidthRow
width_table =
    row (stair 0 0) (found 1 2 (0 ∷ 1 ∷ 0 ∷ 1 ∷ 0 ∷ 1 ∷ []) stairs (+0 ∷ +0 ∷ +1 ∷ +1 ∷ +0 ∷ +1 ∷ zeros 8))
    ∷ row (stair 0 1) (found 2 1 (0 ∷ 1 ∷ 0 ∷ 1 ∷ 1 ∷ 2 ∷ []) stairs
    (+0 ∷ −1 ∷ +0 ∷ +0 ∷ +0 ∷ +0 ∷ +1 ∷ +1 ∷ +0 ∷ +0 ∷ +0 ∷ +1 ∷ +0 ∷ +1 ∷ []))
    ∷ row crossed_edges (none (+1 ∷ −1 ∷ +0 ∷ +1 ∷ +0 ∷ +0 ∷ +0 ∷ +1 ∷ +0 ∷ +0 ∷ []))
    ∷ row (wide 1) (found 2 1 (0 ∷ 1 ∷ 0 ∷ 1 ∷ 2 ∷ []) (−1 ∷ +1 ∷ +0 ∷ +0 ∷ +1 ∷ +0 ∷ +0 ∷ +1 ∷ +0 ∷ +1 ∷ +0 ∷ +0 ∷ [])
    (+0 ∷ +0 ∷ +0 ∷ +0 ∷ +0 ∷ +0 ∷ three))
    ∷ row (wide 0) (found 2 0 (0 ∷ 2 ∷ 0 ∷ 1 ∷ 2 ∷ []) (zeros 12) (+0 ∷ +0 ∷ +0 ∷ +0 ∷ +0 ∷ +0 ∷ three))
    ∷ row (over 0) (found 2 2 (0 ∷ 0 ∷ 1 ∷ 2 ∷ []) (−1 ∷ +1 ∷ +0 ∷ +0 ∷ +0 ∷ +0 ∷ +1 ∷ +0 ∷ +1 ∷ +0 ∷ +0 ∷ [])
    (+0 ∷ +0 ∷ +0 ∷ +0 ∷ +0 ∷ three))
    ∷ row lone (found 0 0 (0 ∷ []) (zeros 2) [])
    ∷ []
