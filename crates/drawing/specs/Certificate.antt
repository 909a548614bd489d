-- Document 01, "The pull list", over a sheet's edges, layers and neighbouring pairs alone. The list is the certificate of
-- least total; its numbers (pulls and pushes) are the multipliers of edges, boundaries and separations.
use Rattle.std.specs.Prelude.{List, [], ◌∷◌, Bool, true, ◌&&◌, ℕ, zero, suc, ◌+◌, ◌*◌, length, get_or, drop, ℤ, pos, neg_ℤ, ◌+ℤ◌, ◌-ℤ◌, ◌*ℤ◌}
use Rattle.std.specs.Int.Signed.{le_z}
use Rattle.network.specs.Integers.{eqZ}
use Rattle.network.specs.Sums.{sum, all, only, below}
use Rattle.drawing.specs.Sheet.{Pair, Layer, Edge, Sheet}
use Rattle.drawing.specs.Traces.{traces}

-- an edge and its multiplier (pull)
pub record EdgeTerm : Type 0 where
  pub edge : Edge
  pub amount : ℤ

-- a pair and the multipliers of its minimum and its maximum separation (least-gap push, greatest-gap push)
pub record PairTerm : Type 0 where
  pub pair : Pair
  pub minimum : ℤ
  pub maximum : ℤ

-- a layer and the multipliers of the left boundary (left-wall push), of its pairs, and of the right boundary (right-wall push)
pub record LayerTerm : Type 0 where
  pub layer : Layer
  pub left : ℤ
  pub pairs : List PairTerm
  pub right : ℤ

-- each number beside what it belongs to; a number that is missing is 0, and excess is not looked at
pub record Certificate : Type 0 where
  pub edges : List EdgeTerm
  pub layers : List LayerTerm

-- one number for each edge
abbrev pub edge_terms : List Edge → List ℤ → List EdgeTerm
edge_terms [] y = []
edge_terms (e ∷ es) y = record { edge = e; amount = get_or y 0 (pos 0) } ∷ edge_terms es (drop 1 y)

-- two for each pair
abbrev pub pair_terms : List Pair → List ℤ → List PairTerm
pair_terms [] y = []
pair_terms (x ∷ xs) y = record { pair = x; minimum = get_or y 0 (pos 0); maximum = get_or y 1 (pos 0) } ∷ pair_terms xs (drop 2 y)

-- for each layer the left boundary's, its pairs', the right boundary's
abbrev pub layer_term : Layer → List ℤ → LayerTerm
layer_term l y = record { layer = l; left = get_or y 0 (pos 0); pairs = pair_terms l.pairs (drop 1 y); right = get_or y (1 + 2 * length l.pairs) (pos 0) }

-- the same for layers, one behind the other
abbrev pub layer_terms : List Layer → List ℤ → List LayerTerm
layer_terms [] y = []
layer_terms (l ∷ ls) y = layer_term l y ∷ layer_terms ls (drop (2 + 2 * length l.pairs) y)

-- the list in its order: edges, each with what it carries of its trace, then layers
abbrev pub certificate : Sheet → List ℤ → Certificate
certificate S y = record { edges = edge_terms (traces S.edges) y; layers = layer_terms S.layers (drop (length S.edges) y) }

-- the count of the numbers: that of the edges, and twice that of the nodes
abbrev pub certificate_size : Sheet → ℕ
certificate_size S = length S.edges + 2 * S.nodes

-- a plain edge's is from minus to plus its weight, so that of an edge that carries nothing is 0; a straight edge's is free
abbrev pub edge_limits : ℕ → ℕ → ℤ → Bool
edge_limits zero weight y = le_z (neg_ℤ (pos weight)) y && le_z y (pos weight)
edge_limits (suc kind) weight y = true

-- a maximum's is 0 where none is set
abbrev pub unset_limit : ℕ → ℤ → Bool
unset_limit zero y = eqZ y (pos 0)
unset_limit (suc maximum) y = true

-- those of separations and boundaries are never below 0
abbrev pub pair_limits : PairTerm → Bool
pair_limits x = le_z (pos 0) x.minimum && (le_z (pos 0) x.maximum && unset_limit x.pair.maximum x.maximum)

-- the same of a layer
abbrev pub layer_limits : LayerTerm → Bool
layer_limits l = le_z (pos 0) l.left && (all pair_limits l.pairs && le_z (pos 0) l.right)

-- every number is within its limits
abbrev pub limits : Certificate → Bool
limits c = all (λ e. edge_limits e.edge.kind e.edge.weight e.amount) c.edges && all layer_limits c.layers

-- a layer's last node
abbrev pub last_node : Layer → ℕ
last_node l = l.first + length l.pairs

-- those of edges ending there from above, minus those of edges leaving it downward
abbrev pub from_edges : Certificate → ℕ → ℤ
from_edges c v = sum (λ e. only e.edge.lower e.amount v) c.edges -ℤ sum (λ e. only e.edge.upper e.amount v) c.edges

-- a minimum's drives the right node to greater and the left node to smaller coordinates; a maximum's does the opposite
abbrev pub pair_greater : ℕ → PairTerm → ℤ
pair_greater v x = only (suc x.pair.left) x.minimum v +ℤ only x.pair.left x.maximum v

-- what of a pair drives v to smaller coordinates
abbrev pub pair_smaller : ℕ → PairTerm → ℤ
pair_smaller v x = only x.pair.left x.minimum v +ℤ only (suc x.pair.left) x.maximum v

-- the left boundary's drives the first node to greater coordinates, the right boundary's the last node to smaller ones
abbrev pub layer_greater : ℕ → LayerTerm → ℤ
layer_greater v l = only l.layer.first l.left v +ℤ sum (pair_greater v) l.pairs

-- what of a layer drives v to smaller coordinates
abbrev pub layer_smaller : ℕ → LayerTerm → ℤ
layer_smaller v l = sum (pair_smaller v) l.pairs +ℤ only (last_node l.layer) l.right v

-- what the edges say equals what drives v to greater coordinates minus what drives it to smaller ones
abbrev pub balanced_at : Certificate → ℕ → Bool
balanced_at c v = eqZ (from_edges c v) (sum (layer_greater v) c.layers -ℤ sum (layer_smaller v) c.layers)

-- the rules: limits, and balance at each node
unfoldable pub meets_rules : Sheet → List ℤ → Bool
meets_rules S y = limits (certificate S y) && below S.nodes (balanced_at (certificate S y))

-- a sum over all neighbouring pairs
abbrev pub over_pairs : (PairTerm → ℤ) → Certificate → ℤ
over_pairs f c = sum (λ l. sum f l.pairs) c.layers

-- sum of minimum separation × multiplier, minus sum of maximum separation × multiplier, minus width × the sum of the
-- right boundary's
abbrev pub bound_of : ℕ → Certificate → ℤ
bound_of width c =
    (over_pairs (λ x. pos x.pair.minimum *ℤ x.minimum) c -ℤ over_pairs (λ x. pos x.pair.maximum *ℤ x.maximum) c)
    -ℤ pos width *ℤ sum (λ l. l.right) c.layers

-- the bound (floor) of a list
unfoldable pub bound : Sheet → List ℤ → ℤ
bound S y = bound_of S.width (certificate S y)
