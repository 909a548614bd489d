-- Document 02, ticket 4: edges (leads) with the same two ends lie on one trace, which the first of them carries.
use Rattle.std.specs.Prelude.{ℕ, max, Bool, false, cond, ◌&&◌, ◌||◌, List, [], ◌∷◌, eqb}
use Rattle.drawing.specs.Sheet.{Edge}

-- two edges are parallel: they have the same ends
abbrev pub parallel : Edge → Edge → Bool
parallel a b = eqb a.upper b.upper && eqb a.lower b.lower

-- one of the edges is parallel to e
abbrev pub any_parallel : Edge → List Edge → Bool
any_parallel e [] = false
any_parallel e (x ∷ xs) = parallel e x || any_parallel e xs

-- the greatest number that f gives for the edges parallel to e; where there are none, 0
abbrev pub greatest_parallel : (Edge → ℕ) → Edge → List Edge → ℕ
greatest_parallel f e [] = 0
greatest_parallel f e (x ∷ xs) = cond (parallel e x) (max (f x) (greatest_parallel f e xs)) (greatest_parallel f e xs)

-- an edge that carries its whole trace, of all edges: straight if one parallel to it is, as heavy as the heaviest of them
abbrev pub whole_trace : List Edge → Edge → Edge
whole_trace es e =
    record {
      upper = e.upper;
      lower = e.lower;
      kind = greatest_parallel (λ x. x.kind) e es;
      weight = greatest_parallel (λ x. x.weight) e es;
    }

-- an edge that carries nothing
abbrev pub bare : Edge → Edge
bare e = record { upper = e.upper; lower = e.lower; kind = 0; weight = 0 }

-- what each of the last edges carries, of all edges, by those before it
abbrev pub traces_behind : List Edge → List Edge → List Edge → List Edge
traces_behind es before [] = []
traces_behind es before (e ∷ rest) = cond (any_parallel e before) (bare e) (whole_trace es e) ∷ traces_behind es (e ∷ before) rest

-- what each edge carries: the first of parallel edges their trace, the others nothing
unfoldable pub traces : List Edge → List Edge
traces es = traces_behind es [] es
