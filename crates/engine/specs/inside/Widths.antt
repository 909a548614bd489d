-- What holds between the stages of finding the minimum width of a loaded sheet.
use Rattle.std.specs.Prelude.{ℕ, ◌+◌, ◌≡◌, List, take, Result, Ok, Err}
use Rattle.leb128.specs.Reply.{Reply}
use Rattle.leb128.specs.Source.{refusal}
use Rattle.network.specs.Net.{net, meant}
use Rattle.drawing.specs.Sheet.{Sheet, sheet_of, at_width}
use Rattle.drawing.specs.Drawing.{NoDrawing}
use Rattle.drawing.specs.Widths.{TotalAt}
use Rattle.network.specs.declared.Unsolved.{Unsolved}
use Rattle.difference.specs.Solutions.{Lowest, NoneFeasible}
use Rattle.arcs.specs.declared.Loaded.{Loaded}
use Rattle.arcs.specs.HeldSheets.{HoldsSheet}
use Rattle.engine.specs.Refusals.{no_drawing}
use Rattle.engine.specs.Draws.{Drawn}
use Rattle.engine.specs.MinimumWidth.{Narrowed, NarrowsSheet}

-- the total of a sheet at a width, or 8 where it has no drawing there
abbrev pub TotalsAt : Sheet → ℕ → Drawn → Type 0
TotalsAt S width (Reply.value total) = TotalAt S width total
TotalsAt S width (Reply.refused r) = (r ≡ refusal no_drawing 0) × NoDrawing (at_width width S)

-- the same for the sheet that is held
abbrev pub TotalHeld : Loaded → (width : ℕ) → Drawn → Type 0
TotalHeld s width d = (h : HoldsSheet s) → TotalsAt (sheet_of h.numbers) width d

-- the contract of the minimum width, for the sheet that is held
abbrev pub NarrowsHeld : Loaded → Narrowed → Type 0
NarrowsHeld s n = (h : HoldsSheet s) → NarrowsSheet (sheet_of h.numbers) n

-- the lowest potentials of its packed arcs
abbrev pub LowestHeld : Loaded → (low : List ℕ) → Type 0
LowestHeld s low = Lowest (meant (net s.arcs.now s.counts.arcs) (s.counts.nodes + 1)) low

-- what the solver of differences leaves of a loaded sheet: the lowest potentials, or none are feasible
abbrev pub LeavesLowest : Loaded → (values : List ℕ) → Result (Unit {0}) Unsolved → Type 0
LeavesLowest s values (Ok done) = LowestHeld s (take s.counts.nodes values)
LeavesLowest s values (Err why) = HoldsSheet s → NoneFeasible (meant (net s.arcs.now s.counts.arcs) (s.counts.nodes + 1))
