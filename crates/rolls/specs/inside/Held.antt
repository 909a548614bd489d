-- What the stages of the call say of the sheet that is held.
use Rattle.std.specs.Prelude.{ℕ, List, length}
use Rattle.drawing.specs.Sheet.{sheet_of}
use Rattle.arcs.specs.declared.Loaded.{Loaded}
use Rattle.arcs.specs.HeldSheets.{HoldsSheet}
use Rattle.rolls.specs.Totals.{Entry, Entries, Leaves, widths_answer}

-- the entry of a width
abbrev pub EntryHeld : Loaded → (width total : ℕ) → Type 0
EntryHeld s width total = (h : HoldsSheet s) → Entry (sheet_of h.numbers) width total

-- the entries of all widths
abbrev pub EntriesHeld : Loaded → (ws old new : List ℕ) → Type 0
EntriesHeld s ws old new = (h : HoldsSheet s) → Entries (sheet_of h.numbers) ws old new

-- what the call leaves
abbrev pub WrittenHeld : Loaded → (ws old new : List ℕ) → Type 0
WrittenHeld s ws old new = (h : HoldsSheet s) → Leaves (widths_answer ws (length old)) (sheet_of h.numbers) ws old new
