-- Traces of a few edges, computed: what the first of parallel edges carries, and what is not parallel.
use Rattle.std.specs.Prelude.{◌≡◌, refl, [], ◌∷◌}
use Rattle.drawing.specs.Sheet.{edge}
use Rattle.drawing.specs.Traces.{traces}

-- no edges have no traces
none : traces [] ≡ []
unfolding traces
none = refl

-- an edge by itself carries itself
single : traces (edge 0 2 1 4 ∷ []) ≡ edge 0 2 1 4 ∷ []
unfolding traces
single = refl

-- of two parallel edges the first carries the trace
neighbours : traces (edge 0 2 0 1 ∷ edge 0 2 0 1 ∷ []) ≡ edge 0 2 0 1 ∷ edge 0 2 0 0 ∷ []
unfolding traces
neighbours = refl

-- also where another edge stands between them
between : traces (edge 0 2 0 1 ∷ edge 0 3 1 1 ∷ edge 0 2 0 1 ∷ []) ≡ edge 0 2 0 1 ∷ edge 0 3 1 1 ∷ edge 0 2 0 0 ∷ []
unfolding traces
between = refl

-- two traces by turns
turns : traces (edge 0 2 0 1 ∷ edge 1 3 0 1 ∷ edge 0 2 1 1 ∷ edge 1 3 0 2 ∷ [])
    ≡ edge 0 2 1 1 ∷ edge 1 3 0 2 ∷ edge 0 2 0 0 ∷ edge 1 3 0 0 ∷ []
unfolding traces
turns = refl

-- of three parallel edges the first is straight
straight_first : traces (edge 0 2 1 1 ∷ edge 0 2 0 1 ∷ edge 0 2 0 1 ∷ []) ≡ edge 0 2 1 1 ∷ edge 0 2 0 0 ∷ edge 0 2 0 0 ∷ []
unfolding traces
straight_first = refl

-- the middle one
straight_middle : traces (edge 0 2 0 1 ∷ edge 0 2 1 1 ∷ edge 0 2 0 1 ∷ []) ≡ edge 0 2 1 1 ∷ edge 0 2 0 0 ∷ edge 0 2 0 0 ∷ []
unfolding traces
straight_middle = refl

-- the last
straight_last : traces (edge 0 2 0 1 ∷ edge 0 2 0 1 ∷ edge 0 2 1 1 ∷ []) ≡ edge 0 2 1 1 ∷ edge 0 2 0 0 ∷ edge 0 2 0 0 ∷ []
unfolding traces
straight_last = refl

-- the heaviest in the middle
heaviest_middle : traces (edge 0 2 0 1 ∷ edge 0 2 0 3 ∷ edge 0 2 0 2 ∷ []) ≡ edge 0 2 0 3 ∷ edge 0 2 0 0 ∷ edge 0 2 0 0 ∷ []
unfolding traces
heaviest_middle = refl

-- a straight edge and a heavier plain one
straight_light : traces (edge 0 2 1 1 ∷ edge 0 2 0 4 ∷ []) ≡ edge 0 2 1 4 ∷ edge 0 2 0 0 ∷ []
unfolding traces
straight_light = refl

-- edges with the same upper end only are not parallel
upper_only : traces (edge 0 2 0 1 ∷ edge 0 3 1 2 ∷ []) ≡ edge 0 2 0 1 ∷ edge 0 3 1 2 ∷ []
unfolding traces
upper_only = refl

-- nor are those with the same lower end only
lower_only : traces (edge 0 2 0 1 ∷ edge 1 2 1 2 ∷ []) ≡ edge 0 2 0 1 ∷ edge 1 2 1 2 ∷ []
unfolding traces
lower_only = refl

-- nor those with their ends exchanged
exchanged : traces (edge 0 2 0 1 ∷ edge 2 0 1 2 ∷ []) ≡ edge 0 2 0 1 ∷ edge 2 0 1 2 ∷ []
unfolding traces
exchanged = refl
