-- What a row of a table of sheets says, from a sheet's bytes to its outcome.
use Rattle.std.specs.Prelude.{ℕ, ◌≡◌, true, false, List, [], ◌∷◌, ℤ, length}
use Rattle.leb128.specs.Format.Result.{elements}
use Rattle.sheet.specs.Reading.{read_sheet}
use Rattle.drawing.specs.Sheet.{Sheet, sheet_of}
use Rattle.drawing.specs.Drawing.{NoDrawing, total_length, LeftmostDrawing}
use Rattle.drawing.specs.Certificate.{certificate_size}
use Rattle.drawing.specs.Judged.{judged}

-- a sheet's outcome, with the list that shows it
pub data Outcome : Type 0 where
  -- drawn, with this total and these coordinates; the checker says yes to the list
  drawn : ℕ → List ℕ → List ℤ → Outcome
  -- no drawing, as the list shows: refusal 8
  undrawable : List ℤ → Outcome
  -- the checker says no to these coordinates and this list
  rejected : List ℕ → List ℤ → Outcome

-- a sheet's bytes and its outcome
pub record Row : Type 0 where
  pub bytes : List ℕ
  pub outcome : Outcome

-- the coordinates are the sheet's leftmost least drawing, the total is that of its traces, and the list, of full length,
-- gets a yes
pub record Drawn (S : Sheet) (total : ℕ) (coordinates : List ℕ) (list : List ℤ) : Type 0 where
  pub leftmost : LeftmostDrawing S coordinates
  pub sum : total_length S coordinates ≡ total
  pub list_size : length list ≡ certificate_size S
  pub accepted : judged S coordinates list ≡ true

-- coordinates and list, both of full length, get a no
pub record Rejected (S : Sheet) (coordinates : List ℕ) (list : List ℤ) : Type 0 where
  pub size : length coordinates ≡ S.nodes
  pub list_size : length list ≡ certificate_size S
  pub rejected : judged S coordinates list ≡ false

-- what an outcome says of a sheet
abbrev pub Says : Sheet → Outcome → Type 0
Says S (drawn total coordinates list) = Drawn S total coordinates list
Says S (undrawable list) = NoDrawing S
Says S (rejected coordinates list) = Rejected S coordinates list

-- what a row says: the bytes read as a good sheet, and its outcome is this
pub record RowHolds (r : Row) : Type 0 where
  pub numbers : List ℕ
  pub read : read_sheet r.bytes ≡ elements numbers
  pub says : Says (sheet_of numbers) r.outcome

-- every row holds
abbrev pub Every : List Row → Type 0
Every [] = Unit {0}
Every (r ∷ rows) = RowHolds r × Every rows
