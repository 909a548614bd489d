-- Document 01, "Drawing and total".
use Rattle.std.specs.Prelude.{ℕ, zero, suc, ◌+◌, ◌-◌, ◌*◌, ◌≡◌, Bool, true, cond, ◌&&◌, List, map, T, leb, eqb, length, get_or}
use Rattle.network.specs.Sums.{all, sumℕ}
use Rattle.network.specs.Least.{LeastOf, LeftmostOf}
use Rattle.drawing.specs.Sheet.{Pair, Edge, Sheet}
use Rattle.drawing.specs.Traces.{traces}

-- the coordinate (place) of node v
abbrev pub coordinate : List ℕ → ℕ → ℕ
coordinate p v = get_or p v 0

-- b is at most the maximum right of a, where one is set
abbrev pub within_maximum : ℕ → ℕ → ℕ → Bool
within_maximum zero a b = true
within_maximum (suc maximum) a b = leb b (a + suc maximum)

-- the right neighbour's coordinate minus the left one's is at least the minimum, and at most the maximum where one is set
abbrev pub separated : List ℕ → Pair → Bool
separated p x =
    leb (coordinate p x.left + x.minimum) (coordinate p (suc x.left))
    && within_maximum x.maximum (coordinate p x.left) (coordinate p (suc x.left))

-- the ends a and b of a straight edge are equal
abbrev pub aligned : ℕ → ℕ → ℕ → Bool
aligned zero a b = true
aligned (suc kind) a b = eqb a b

-- the same of an edge
abbrev pub edge_aligned : List ℕ → Edge → Bool
edge_aligned p e = aligned e.kind (coordinate p e.upper) (coordinate p e.lower)

-- a drawing: a coordinate from 0 to the width for each node, separations and straight edges met
pub record Drawing (S : Sheet) (p : List ℕ) : Type 0 where
  pub size : length p ≡ S.nodes
  pub inside : T (all (λ x. leb x S.width) p)
  pub separations : T (all (λ l. all (separated p) l.pairs) S.layers)
  pub straight : T (all (edge_aligned p) S.edges)

-- the same as a test
unfoldable pub is_drawing : Sheet → List ℕ → Bool
is_drawing S p =
    eqb (length p) S.nodes
    && (all (λ x. leb x S.width) p && (all (λ l. all (separated p) l.pairs) S.layers && all (edge_aligned p) S.edges))

-- no drawing exists
abbrev pub NoDrawing : Sheet → Type 0
NoDrawing S = (q : List ℕ) → Drawing S q → ⊥

-- the length (run) of an edge: the size of the difference of its ends' coordinates
abbrev pub edge_length : List ℕ → Edge → ℕ
edge_length p e = (coordinate p e.lower - coordinate p e.upper) + (coordinate p e.upper - coordinate p e.lower)

-- what an edge counts in the total
abbrev pub weighted_length : List ℕ → Edge → ℕ
weighted_length p e = e.weight * edge_length p e

-- the total: the sum over all traces
unfoldable pub total_length : Sheet → List ℕ → ℕ
total_length S p = sumℕ (weighted_length p) (traces S.edges)

-- document 02, ticket 5: the sum over the traces whose lower end is node v or one behind it; where v is a layer's first node, its lower
-- end is in that layer or below
unfoldable pub total_from : ℕ → Sheet → List ℕ → ℕ
total_from v S p = sumℕ (λ e. cond (leb v e.lower) (weighted_length p e) 0) (traces S.edges)

-- the sums from each layer (rank) on, the first layer's in front
abbrev pub running_sums : Sheet → List ℕ → List ℕ
running_sums S p = map (λ l. total_from l.first S p) S.layers

-- demand 3: every other drawing of that sheet has at least as large a total
abbrev pub LeastDrawing : Sheet → List ℕ → Type 0
LeastDrawing S = LeastOf (Drawing S) (total_length S)

-- the drawing that is returned; demand 3: and in every other one of equal total each node (mark) stands where it does here or
-- further right
abbrev pub LeftmostDrawing : Sheet → List ℕ → Type 0
LeftmostDrawing S = LeftmostOf (Drawing S) (total_length S)
