-- Where the numbers of a sheet stand in its list: document 01, "The sheet", in the order of its table.
use Rattle.std.specs.Prelude.{ℕ, zero, suc, ◌+◌, ◌*◌, ◌-◌, ◌≤◌, ◌≡◌, List, length, get_or, drop}
use Rattle.sheet.specs.Limits.{max_width, max_layers, max_layer_nodes, max_nodes, max_edges}

-- the width (strip width W)
abbrev pub width_at : ℕ
width_at = 0

-- the count of layers (ranks)
abbrev pub layers_at : ℕ
layers_at = 1

-- the first layer
abbrev pub first_layer_at : ℕ
first_layer_at = 2

-- in a layer: its count of nodes (marks)
abbrev pub nodes_at : ℕ
nodes_at = 0

-- in a layer: the separations (gaps) of its first pair
abbrev pub separations_at : ℕ
separations_at = 1

-- from a pair's separations to the next pair's
abbrev pub separation_stride : ℕ
separation_stride = 2

-- of a pair: its minimum (least gap) and its maximum (greatest gap)
abbrev pub minimum_at : ℕ
minimum_at = 0

-- of a pair: its maximum (greatest gap), 0 where none is set
abbrev pub maximum_at : ℕ
maximum_at = 1

-- behind the layers: the count of edges (leads)
abbrev pub edge_count_at : ℕ
edge_count_at = 0

-- behind the layers: the first edge
abbrev pub edges_at : ℕ
edges_at = 1

-- from an edge to the next one
abbrev pub edge_stride : ℕ
edge_stride = 4

-- of an edge: its upper layer
abbrev pub edge_layer_at : ℕ
edge_layer_at = 0

-- of an edge: the position of its upper end in that layer
abbrev pub edge_upper_at : ℕ
edge_upper_at = 1

-- of an edge: the position of its lower end in the layer below
abbrev pub edge_lower_at : ℕ
edge_lower_at = 2

-- of an edge: its kind
abbrev pub edge_kind_at : ℕ
edge_kind_at = 3

-- how many numbers a layer of so many nodes has
abbrev pub layer_size : ℕ → ℕ
layer_size nodes = separations_at + separation_stride * (nodes - 1)

-- what follows a layer, of the numbers from that layer on
abbrev pub next_layer : List ℕ → List ℕ
next_layer numbers = drop (layer_size (get_or numbers nodes_at 0)) numbers

-- what follows n layers
abbrev pub behind_layers : ℕ → List ℕ → List ℕ
behind_layers zero numbers = numbers
behind_layers (suc n) numbers = behind_layers n (next_layer numbers)

-- how many nodes n layers have
abbrev pub nodes_of : ℕ → List ℕ → ℕ
nodes_of zero numbers = 0
nodes_of (suc n) numbers = get_or numbers nodes_at 0 + nodes_of n (next_layer numbers)

-- the nodes of a sheet
abbrev pub node_count : List ℕ → ℕ
node_count numbers = nodes_of (get_or numbers layers_at 0) (drop first_layer_at numbers)

-- the count of edges of a sheet and the edges
abbrev pub edge_part : List ℕ → List ℕ
edge_part numbers = behind_layers (get_or numbers layers_at 0) (drop first_layer_at numbers)

-- the edges of a sheet
abbrev pub edge_count : List ℕ → ℕ
edge_count numbers = get_or (edge_part numbers) edge_count_at 0

-- each of n layers has a node, and not more than a layer may have
abbrev pub Limited : ℕ → List ℕ → Type 0
Limited zero s = Unit
Limited (suc n) s = (1 ≤ get_or s nodes_at 0) × (get_or s nodes_at 0 ≤ max_layer_nodes) × Limited n (next_layer s)

-- what the layout says of a good sheet's numbers
pub record LaidOut (numbers : List ℕ) : Type 0 where
  pub width : get_or numbers width_at 0 ≤ max_width
  pub layer_count : (1 ≤ get_or numbers layers_at 0) × (get_or numbers layers_at 0 ≤ max_layers)
  pub layers : Limited (get_or numbers layers_at 0) (drop first_layer_at numbers)
  pub nodes : node_count numbers ≤ max_nodes
  pub edges : edge_count numbers ≤ max_edges
  pub size : length (edge_part numbers) ≡ edges_at + edge_stride * edge_count numbers
