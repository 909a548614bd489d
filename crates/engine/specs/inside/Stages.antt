-- What holds between the stages of drawing a loaded sheet.
use Rattle.std.specs.Prelude.{ℕ, ◌+◌, List, ℤ, take, Result, Ok, Err}
use Rattle.leb128.specs.Reply.{Reply}
use Rattle.leb128.specs.Source.{refusal}
use Rattle.network.specs.Net.{at, net, meant}
use Rattle.network.specs.Nodes.{potentials}
use Rattle.network.specs.declared.Unsolved.{Unsolved}
use Rattle.circulation.specs.Solutions.{Solution}
use Rattle.leftmost.specs.Solutions.{SomeFeasible}
use Rattle.drawing.specs.Sheet.{Sheet, sheet_of}
use Rattle.drawing.specs.Drawing.{total_length}
use Rattle.arcs.specs.declared.Counts.{Counts}
use Rattle.arcs.specs.declared.Loaded.{Loaded}
use Rattle.arcs.specs.HeldSheets.{HoldsSheet}
use Rattle.engine.specs.Refusals.{no_drawing}
use Rattle.engine.specs.Draws.{Drawn, DrawsSheet}

-- the contract of drawing, for the sheet that is held
abbrev pub DrawsHeld : Loaded → (p₀ : List ℕ) (y₀ : List ℤ) (p : List ℕ) (y : List ℤ) → Drawn → Type 0
DrawsHeld s p₀ y₀ p y d = (h : HoldsSheet s) → DrawsSheet (sheet_of h.numbers) p₀ y₀ p y d

-- what drawing answers by what solving gives: the total, or that no drawing exists
abbrev pub told : Result (Unit {0}) Unsolved → ℕ → Drawn
told (Ok done) total = Reply.value total
told (Err why) total = Reply.refused (refusal no_drawing 0)

-- the contract of drawing up to the total: places and list are those of the answer with the places' total, or of the refusal
abbrev pub FillsSheet : Sheet → (p₀ : List ℕ) (y₀ : List ℤ) (p : List ℕ) (y : List ℤ) → Result (Unit {0}) Unsolved → Type 0
FillsSheet S p₀ y₀ p y r = DrawsSheet S p₀ y₀ p y (told r (total_length S (take S.nodes p)))

-- the same for the sheet that is held
abbrev pub FillsHeld : Loaded → (p₀ : List ℕ) (y₀ : List ℤ) (p : List ℕ) (y : List ℤ) → Result (Unit {0}) Unsolved → Type 0
FillsHeld s p₀ y₀ p y r = (h : HoldsSheet s) → FillsSheet (sheet_of h.numbers) p₀ y₀ p y r

-- flows and nodes are what the solver leaves
abbrev pub Settled : (a : List ℕ) (c : Counts) (flows nodes : List ℕ) → Type 0
Settled a c flows nodes = Solution (net a c.arcs) (c.nodes + 1) (at flows) (at (potentials nodes))

-- what solving a sheet's packed arcs leaves: a solution, or no potentials are feasible
abbrev pub Settles : (a : List ℕ) (c : Counts) (flows nodes : List ℕ) → Result (Unit {0}) Unsolved → Type 0
Settles a c flows nodes (Ok done) = Settled a c flows nodes
Settles a c flows nodes (Err why) = SomeFeasible (meant (net a c.arcs) (c.nodes + 1)) → ⊥

-- the same if a sheet is held
abbrev pub SettlesHeld : Loaded → (flows nodes : List ℕ) → Result (Unit {0}) Unsolved → Type 0
SettlesHeld s flows nodes r = HoldsSheet s → Settles s.arcs.now s.counts flows nodes r
