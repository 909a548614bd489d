-- Document 02, ticket 5: the sum after each layer (rank), from the last layer to the first, and the slice that it is left in. Layers count
-- from 1.
use Rattle.std.specs.Prelude.{ℕ, ◌+◌, ◌-◌, ◌/◌, min, ◌≡◌, Bool, cond, ◌&&◌, List, eqb, leb, ltb, length, get_or}
use Rattle.sheet.specs.Limits.{max_nodes, max_edges}
use Rattle.network.specs.Sums.{below, upto}
use Rattle.network.specs.Packed.{stride}
use Rattle.leb128.specs.Words.{u32_most}
use Rattle.packed.specs.Ends.{edge_from, lower_at}
use Rattle.totals.specs.Lengths.{lengths_from}

-- the first node of a layer; of the one behind the last layer, a node that no sheet has
abbrev pub layer_start : List ℕ → ℕ → ℕ
layer_start first layer = get_or first (layer - 1) max_nodes

-- the sum after a layer: what the packed edges count whose lower end is in that layer or below
abbrev pub sum_after : (first p s : List ℕ) → ℕ → ℕ
sum_after first p s layer = min u32_most (lengths_from (layer_start first layer) p s)

-- a sum is the one after a layer
abbrev pub RunningSum : (first p s : List ℕ) (layer sum : ℕ) → Type 0
RunningSum first p s layer sum = sum ≡ sum_after first p s layer

-- first nodes as a sheet has them: they begin at 0, rise, and are nodes that a sheet may have
abbrev pub rises : List ℕ → Bool
rises first = eqb (layer_start first 1) 0 && below (length first) (λ i. ltb (layer_start first (i + 1)) (layer_start first (i + 2)))

-- packed edges as a sheet of n nodes has them: it may have so many, and each lower end is one of the nodes
abbrev pub chainable : ℕ → List ℕ → Bool
chainable n s = leb (length s / stride) max_edges && below (length s / stride) (λ i. ltb (lower_at (edge_from i s)) n)

-- both are so: the total is added layer by layer
abbrev pub by_layers : (first p s : List ℕ) → Bool
by_layers first p s = rises first && chainable (min (length p) max_nodes) s

-- a slice with the sum after each layer in that layer's element, the first layer's in front; elements behind are old
unfoldable pub with_sums : (first p s old : List ℕ) → List ℕ
with_sums first p s old = upto (length old) (λ i. cond (ltb i (length first)) (sum_after first p s (i + 1)) (get_or old i 0))

-- what adding a total leaves in the slice: these sums, if it goes layer by layer
unfoldable pub left_sums : (first p s old : List ℕ) → List ℕ
left_sums first p s old = cond (by_layers first p s) (with_sums first p s old) old
