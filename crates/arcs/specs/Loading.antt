-- What loading a sheet answers, and what it leaves in the two lent slices.
use Rattle.std.specs.Prelude.{ℕ, ◌+◌, ◌*◌, Bool, cond, ◌||◌, List, [], ◌∷◌, ◌++◌, map, ltb, length, drop, Ok, Err}
use Rattle.std.specs.Prelude.{Result as Answer}
use Rattle.leb128.specs.Refusals.{slice_short}
use Rattle.leb128.specs.Source.{refusal}
use Rattle.leb128.specs.Format.{Result}
use Rattle.leb128.specs.Format.Result.{elements}
use Rattle.leb128.specs.Reply.{Reply}
use Rattle.leb128.specs.declared.Refusal.{Refusal}
use Rattle.network.specs.Packed.{stride, packed}
use Rattle.drawing.specs.Sheet.{Layer, sheet_of}
use Rattle.drawing.specs.Arcs.{network}
use Rattle.drawing.specs.Sheet as drawing
use Rattle.arcs.specs.declared.Counts.{Counts}

-- what the code's answer stands for: the counts of a sheet, or the refusal
unfoldable pub loading : Answer Counts Refusal → Reply Counts
loading (Ok c) = Reply.value c
loading (Err r) = Reply.refused r

-- the first node of each layer of a sheet, and last the count of nodes
abbrev pub layer_firsts : drawing.Sheet → List ℕ
layer_firsts S = map (λ (l : Layer). l.first) S.layers ++ S.nodes ∷ []

-- how many elements they take
abbrev pub firsts_size : drawing.Sheet → ℕ
firsts_size S = length S.layers + 1

-- how many elements the packed arcs of a sheet take
abbrev pub arcs_size : drawing.Sheet → ℕ
arcs_size S = stride * length (network S).arcs

-- the counts of a sheet
abbrev pub counts_of : drawing.Sheet → Counts
counts_of S =
    record { layers = length S.layers; nodes = S.nodes; edges = length S.edges; arcs = length (network S).arcs }

-- one of two slices, of so many elements, is too short: for a sheet's first nodes, or for its packed arcs
abbrev pub too_short : drawing.Sheet → ℕ → ℕ → Bool
too_short S firsts arcs = ltb firsts (firsts_size S) || ltb arcs (arcs_size S)

-- the sheet that is loaded into two slices, by what reading gives, or the refusal: those of reading come first, then 7
unfoldable pub fitted : List ℕ → List ℕ → Result → Reply drawing.Sheet
fitted first arcs (elements numbers) =
    cond (too_short (sheet_of numbers) (length first) (length arcs)) (Reply.refused (refusal slice_short 0))
    (Reply.value (sheet_of numbers))
fitted first arcs (Result.refused r) = Reply.refused r

-- the answer: the sheet's counts, or the refusal
unfoldable pub load_answer : Reply drawing.Sheet → Reply Counts
load_answer (Reply.value S) = Reply.value (counts_of S)
load_answer (Reply.refused r) = Reply.refused r

-- the slice lent for the first nodes, afterwards: they stand in front of the old elements; on a refusal all is old
unfoldable pub load_firsts : Reply drawing.Sheet → List ℕ → List ℕ
load_firsts (Reply.value S) old = layer_firsts S ++ drop (firsts_size S) old
load_firsts (Reply.refused r) old = old

-- the slice lent for the packed arcs, afterwards, in the same way
unfoldable pub load_arcs : Reply drawing.Sheet → List ℕ → List ℕ
load_arcs (Reply.value S) old = packed (network S) ++ drop (arcs_size S) old
load_arcs (Reply.refused r) old = old
