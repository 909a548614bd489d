-- A sheet, read off its list of numbers. Nodes (marks) count from 0, layer (rank) after layer.
use Rattle.std.specs.Prelude.{ℕ, zero, suc, ◌+◌, ◌-◌, List, [], ◌∷◌, get_or, drop}
use Rattle.sheet.specs.Layout.{width_at, layers_at, first_layer_at, nodes_at, separations_at, separation_stride, minimum_at, maximum_at}
use Rattle.sheet.specs.Layout.{edge_count_at, edges_at, edge_stride, edge_layer_at, edge_upper_at, edge_lower_at, edge_kind_at}
use Rattle.sheet.specs.Layout.{next_layer, behind_layers}

-- node `left` and its right neighbour, `suc left`, with their minimum and maximum separation (least and greatest gap);
-- a maximum of 0 is none
pub record Pair : Type 0 where
  pub left : ℕ
  pub minimum : ℕ
  pub maximum : ℕ

-- a layer: its first node, and its neighbouring pairs from left to right
pub record Layer : Type 0 where
  pub first : ℕ
  pub pairs : List Pair

-- an edge (lead) from a node to one in the next layer; kind 0 is plain, any other straight; its length counts weight times
pub record Edge : Type 0 where
  pub upper : ℕ
  pub lower : ℕ
  pub kind : ℕ
  pub weight : ℕ

-- an edge by its ends, kind and weight
abbrev pub edge : ℕ → ℕ → ℕ → ℕ → Edge
edge upper lower kind weight = record { upper = upper; lower = lower; kind = kind; weight = weight }

-- a sheet: the width, how many nodes, the layers and the edges
pub record Sheet : Type 0 where
  pub width : ℕ
  pub nodes : ℕ
  pub layers : List Layer
  pub edges : List Edge

-- n pairs from node v on, of the numbers from the first pair on
abbrev pub pairs_of : ℕ → ℕ → List ℕ → List Pair
pairs_of zero v s = []
pairs_of (suc n) v s = record { left = v; minimum = get_or s minimum_at 0; maximum = get_or s maximum_at 0 } ∷ pairs_of n (suc v)
    (drop separation_stride s)

-- n layers from node v on, of the numbers from the first layer on
abbrev pub layers_of : ℕ → ℕ → List ℕ → List Layer
layers_of zero v s = []
layers_of (suc n) v s = record { first = v; pairs = pairs_of (get_or s nodes_at 0 - 1) v (drop separations_at s) } ∷ layers_of n
    (v + get_or s nodes_at 0) (next_layer s)

-- the first node of each of n layers, and last the node behind them
abbrev pub first_nodes : ℕ → ℕ → List ℕ → List ℕ
first_nodes zero v s = v ∷ []
first_nodes (suc n) v s = v ∷ first_nodes n (v + get_or s nodes_at 0) (next_layer s)

-- a node by its layer and its position, which count from 1
abbrev pub node_at : List ℕ → ℕ → ℕ → ℕ
node_at first layer position = get_or first (layer - 1) 0 + (position - 1)

-- an edge, of its numbers
abbrev pub edge_of : List ℕ → List ℕ → Edge
edge_of first s =
    record {
      upper = node_at first (get_or s edge_layer_at 0) (get_or s edge_upper_at 0);
      lower = node_at first (get_or s edge_layer_at 0 + 1) (get_or s edge_lower_at 0);
      kind = get_or s edge_kind_at 0;
      weight = 1;
    }

-- n edges, of the numbers from the first edge on
abbrev pub edges_of : List ℕ → ℕ → List ℕ → List Edge
edges_of first zero s = []
edges_of first (suc n) s = edge_of first s ∷ edges_of first n (drop edge_stride s)

-- the sheet of a list of numbers
unfoldable pub sheet_of : List ℕ → Sheet
sheet_of s =
    let n : ℕ = get_or s layers_at 0 in
    let first : List ℕ = first_nodes n 0 (drop first_layer_at s) in
    let behind : List ℕ = behind_layers n (drop first_layer_at s) in
    record {
      width = get_or s width_at 0;
      nodes = get_or first n 0;
      layers = layers_of n 0 (drop first_layer_at s);
      edges = edges_of first (get_or behind edge_count_at 0) (drop edges_at behind);
    }

-- the same sheet at another width
abbrev pub at_width : ℕ → Sheet → Sheet
at_width width S = record { width = width; nodes = S.nodes; layers = S.layers; edges = S.edges }
