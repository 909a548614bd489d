-- The pieces of a network, from the numbers that stand at an index, and the numbers that the code makes of them.
use Rattle.std.specs.Prelude.{ℕ, ◌-◌, get_or, drop}
use mathlib.Core.List.{List, [], ◌∷◌, flat_map}
use Rattle.sheet.specs.Layout.{first_layer_at, nodes_at, separations_at, minimum_at, maximum_at}
use Rattle.network.specs.Network.{Arc}
use Rattle.drawing.specs.Sheet.{Pair, Layer, pairs_of, layers_of}
use Rattle.drawing.specs.Arcs.{layer_arcs}
use Rattle.arcs.specs.declared.PackedArc.{PackedArc}

-- the numbers of an arc, in the order in which they are stored
abbrev pub arc_numbers : PackedArc → List ℕ
arc_numbers a = a.tail ∷ a.head ∷ a.kink ∷ a.low ∷ a.high ∷ []

-- the pair of node v and its right neighbour, from its separations on
abbrev pub pair_at : ℕ → List ℕ → Pair
pair_at v s = record { left = v; minimum = get_or s minimum_at 0; maximum = get_or s maximum_at 0 }

-- the layer that starts at node v, from its count of nodes on
abbrev pub layer_at : ℕ → List ℕ → Layer
layer_at v s = record { first = v; pairs = pairs_of (get_or s nodes_at 0 - 1) v (drop separations_at s) }

-- the arcs of all layers of a sheet, from its numbers
abbrev pub layers_arcs : List ℕ → ℕ → ℕ → ℕ → List Arc
layers_arcs s layers width ground_node = flat_map (layer_arcs width ground_node) (layers_of layers 0 (drop first_layer_at s))
