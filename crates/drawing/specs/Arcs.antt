-- The network of a sheet: an arc for each number of the certificate (pull list), in its order. Ground is the node behind
-- the last one.
use mathlib.Core.List.{List, [], ◌∷◌, ◌++◌, map, flat_map}
use Rattle.std.specs.Prelude.{ℕ, zero, suc, ◌+◌, length, pos, neg_ℤ}
use Rattle.network.specs.Network.{unlimited, limit, Arc, Network, upper_bound}
use Rattle.drawing.specs.Sheet.{Pair, Layer, Edge, Sheet}
use Rattle.drawing.specs.Traces.{traces}

-- an edge between two nodes, by its kind and weight: a plain one costs its length times the weight, a straight one allows none
abbrev pub edge_arc_between : ℕ → ℕ → ℕ → ℕ → Arc
edge_arc_between zero weight u v = record { tail = u; head = v; kink = pos 0; low = limit (neg_ℤ (pos weight)); high = limit (pos weight) }
edge_arc_between (suc kind) weight u v = record { tail = u; head = v; kink = pos 0; low = unlimited; high = unlimited }

-- the arc of an edge; its flow is the pull
abbrev pub edge_arc : Edge → Arc
edge_arc e = edge_arc_between e.kind e.weight e.upper e.lower

-- the arc of a minimum separation
abbrev pub minimum_arc : Pair → Arc
minimum_arc x = upper_bound (suc x.left) x.left (neg_ℤ (pos x.minimum))

-- the arc of a maximum separation of node v and its right neighbour; one of 0 says nothing, and its flow is 0
abbrev pub maximum_arc : ℕ → ℕ → Arc
maximum_arc zero v = record { tail = v; head = suc v; kink = pos 0; low = limit (pos 0); high = limit (pos 0) }
maximum_arc (suc maximum) v = upper_bound v (suc v) (pos (suc maximum))

-- the two arcs of a pair
abbrev pub separation_arcs : Pair → List Arc
separation_arcs x = minimum_arc x ∷ maximum_arc x.maximum x.left ∷ []

-- the arcs of a layer: left boundary (left wall), pairs, right boundary
abbrev pub layer_arcs : ℕ → ℕ → Layer → List Arc
layer_arcs width ground_node l =
    upper_bound l.first ground_node (pos 0) ∷ flat_map separation_arcs l.pairs ++ upper_bound ground_node (l.first + length l.pairs) (pos width) ∷ []

-- the arcs of the traces, then those of the layers
unfoldable pub network : Sheet → Network
network S = record { nodes = S.nodes; arcs = map edge_arc (traces S.edges) ++ flat_map (layer_arcs S.width S.nodes) S.layers }
