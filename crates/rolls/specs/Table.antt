-- Sheets of document 01 with their entries at several widths, as one table, from their bytes to what the call leaves.
use Rattle.std.specs.Prelude.{ℕ, ◌≤◌, ◌≡◌, List, [], ◌∷◌, ◌++◌, map, ℤ, length, drop}
use Rattle.sheet.specs.Reading.{read_sheet}
use Rattle.drawing.specs.Table.{first, stair, crossed_edges, stairs, zeros, +0, +1, −1}
use Rattle.rolls.specs.Limits.{no_total}
use Rattle.rolls.specs.Totals.{Written}

-- the entry of a width, with what shows it
pub data Shown : Type 0 where
  -- this total at these coordinates, and a list that shows no total to be smaller
  total : ℕ → List ℕ → List ℤ → Shown
  -- no total: a list that shows that there is no drawing
  undrawable : List ℤ → Shown

-- a width and its entry
pub record Column : Type 0 where
  pub width : ℕ
  pub shown : Shown

-- a sheet's bytes, and widths with their entries
pub record EntryRow : Type 0 where
  pub bytes : List ℕ
  pub columns : List Column

-- the number of an entry
abbrev pub shown_entry : Shown → ℕ
shown_entry (total t places list) = t
shown_entry (undrawable list) = no_total

-- the widths of columns
abbrev pub widths_of : List Column → List ℕ
widths_of = map (λ (c : Column). c.width)

-- their entries
abbrev pub entries_of : List Column → List ℕ
entries_of = map (λ (c : Column). shown_entry c.shown)

-- on every row each slice that is long enough has the row's entries in front, and the old elements behind
abbrev pub EveryEntry : List EntryRow → Type 0
EveryEntry [] = Unit {0}
EveryEntry (r ∷ rows) =
    ((old new : List ℕ) → length (widths_of r.columns) ≤ length old → Written (read_sheet r.bytes) (widths_of r.columns) old new
    → new ≡ entries_of r.columns ++ drop (length (widths_of r.columns)) old)
    × EveryEntry rows

-- a row of the table
abbrev pub row : List ℕ → List Column → EntryRow
row bytes columns = record { bytes = bytes; columns = columns }

-- a column of it
abbrev pub at : ℕ → Shown → Column
at width shown = record { width = width; shown = shown }

-- the list that shows that the stair has no drawing at width 0
abbrev pub no_stair : List ℤ
no_stair = +0 ∷ +0 ∷ +1 ∷ +1 ∷ +0 ∷ +1 ∷ zeros 8

-- the list that shows that straight edges which cross have no drawing at any width
abbrev pub crossing : List ℤ
crossing = +1 ∷ −1 ∷ +0 ∷ +1 ∷ +0 ∷ +0 ∷ +0 ∷ +1 ∷ +0 ∷ +0 ∷ []

-- the rows of the table: the stair, the stair with its second edge straight, straight edges that cross, and the first sheet; widths fall,
-- repeat, or none is given
unfoldable pub entry_table : List EntryRow
entry_table =
    row (stair 0 0) (
    at 0 (undrawable no_stair)
    ∷ at 1 (total 2 (0 ∷ 1 ∷ 0 ∷ 1 ∷ 0 ∷ 1 ∷ []) stairs)
    ∷ at 2 (total 1 (0 ∷ 1 ∷ 0 ∷ 1 ∷ 1 ∷ 2 ∷ []) stairs)
    ∷ at 3 (total 0 (0 ∷ 1 ∷ 1 ∷ 2 ∷ 2 ∷ 3 ∷ []) (zeros 14))
    ∷ at 4 (total 0 (0 ∷ 1 ∷ 1 ∷ 2 ∷ 2 ∷ 3 ∷ []) (zeros 14))
    ∷ []
    )
    ∷ row (stair 3 1) (
    at 0 (undrawable no_stair)
    ∷ at 1 (undrawable (+0 ∷ −1 ∷ +0 ∷ +0 ∷ +0 ∷ +0 ∷ +1 ∷ +1 ∷ +0 ∷ +0 ∷ +0 ∷ +1 ∷ +0 ∷ +1 ∷ []))
    ∷ at 2 (total 1 (0 ∷ 1 ∷ 0 ∷ 1 ∷ 1 ∷ 2 ∷ []) stairs)
    ∷ at 3 (total 0 (0 ∷ 1 ∷ 1 ∷ 2 ∷ 2 ∷ 3 ∷ []) (zeros 14))
    ∷ at 4 (total 0 (0 ∷ 1 ∷ 1 ∷ 2 ∷ 2 ∷ 3 ∷ []) (zeros 14))
    ∷ []
    )
    ∷ row crossed_edges (at 4095 (undrawable crossing) ∷ at 1 (undrawable crossing) ∷ at 4095 (undrawable crossing) ∷ [])
    ∷ row first (
    at 5 (total 1 (0 ∷ 1 ∷ 0 ∷ []) (+1 ∷ −1 ∷ +0 ∷ +1 ∷ +0 ∷ +0 ∷ +0 ∷ +0 ∷ []))
    ∷ at 0 (undrawable (+0 ∷ +0 ∷ +1 ∷ +1 ∷ +0 ∷ +1 ∷ +0 ∷ +0 ∷ []))
    ∷ []
    )
    ∷ row first []
    ∷ []
