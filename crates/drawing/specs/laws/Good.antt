-- What holds of a good sheet's numbers, layer by layer and edge by edge; n bounds the nodes.
use Rattle.std.specs.Prelude.{ℕ, zero, suc, ◌+◌, ◌-◌, ◌*◌, ◌≤◌, ◌<◌, List, T, length, get_or, drop}
use Rattle.sheet.specs.Limits.{max_width, max_layers, max_layer_nodes, max_separation, max_edges, max_kind}
use Rattle.sheet.specs.Layout.{width_at, layers_at, first_layer_at, nodes_at, separations_at, separation_stride, minimum_at, maximum_at, edge_count_at, edges_at, edge_stride, edge_layer_at, edge_upper_at, edge_lower_at, edge_kind_at, layer_size, next_layer, behind_layers}
use Rattle.drawing.specs.Sheet.{node_at, first_nodes}
use Rattle.drawing.specs.Proper.{not_crossed}

-- a pair whose separations are the first of s
pub record GoodPair (s : List ℕ) : Type 0 where
  pub minimum : (1 ≤ get_or s minimum_at 0) × (get_or s minimum_at 0 ≤ max_separation)
  pub maximum : get_or s maximum_at 0 ≤ max_separation
  pub apart : T (not_crossed (get_or s minimum_at 0) (get_or s maximum_at 0))

-- m pairs
abbrev pub GoodPairs : ℕ → List ℕ → Type 0
GoodPairs zero s = Unit
GoodPairs (suc m) s = GoodPair s × GoodPairs m (drop separation_stride s)

-- a layer that starts at node v and whose numbers are the first of s
pub record GoodLayer (n v : ℕ) (s : List ℕ) : Type 0 where
  pub some : 1 ≤ get_or s nodes_at 0
  pub few : get_or s nodes_at 0 ≤ max_layer_nodes
  pub room : v + get_or s nodes_at 0 ≤ n
  pub there : layer_size (get_or s nodes_at 0) ≤ length s
  pub pairs : GoodPairs (get_or s nodes_at 0 - 1) (drop separations_at s)

-- k layers
abbrev pub GoodLayers : ℕ → ℕ → ℕ → List ℕ → Type 0
GoodLayers n zero v s = Unit
GoodLayers n (suc k) v s = GoodLayer n v s × GoodLayers n k (v + get_or s nodes_at 0) (next_layer s)

-- an edge whose numbers are the first of s: it joins two layers, its upper end is a node of its layer, its lower end a node near
-- the first one of the next layer
pub record GoodEdge (n : ℕ) (first s : List ℕ) : Type 0 where
  pub layer : (1 ≤ get_or s edge_layer_at 0) × (get_or s edge_layer_at 0 < length first)
  pub positions : (1 ≤ get_or s edge_upper_at 0) × (1 ≤ get_or s edge_lower_at 0)
  pub inside : node_at first (get_or s edge_layer_at 0) (get_or s edge_upper_at 0) < get_or first (get_or s edge_layer_at 0) 0
  pub upper : node_at first (get_or s edge_layer_at 0) (get_or s edge_upper_at 0) < n
  pub lower : node_at first (get_or s edge_layer_at 0 + 1) (get_or s edge_lower_at 0) < n
  pub near : get_or s edge_lower_at 0 ≤ max_layer_nodes
  pub kind : get_or s edge_kind_at 0 ≤ max_kind

-- m edges
abbrev pub GoodEdges : ℕ → List ℕ → ℕ → List ℕ → Type 0
GoodEdges n first zero s = Unit
GoodEdges n first (suc m) s = GoodEdge n first s × GoodEdges n first m (drop edge_stride s)

-- the count of edges, and the edges, from what follows the layers
pub record GoodRest (n : ℕ) (first s : List ℕ) : Type 0 where
  pub few : get_or s edge_count_at 0 ≤ max_edges
  pub there : edges_at + edge_stride * get_or s edge_count_at 0 ≤ length s
  pub edges : GoodEdges n first (get_or s edge_count_at 0) (drop edges_at s)

-- a sheet's numbers
pub record Good (n : ℕ) (s : List ℕ) : Type 0 where
  pub head : first_layer_at ≤ length s
  pub width : get_or s width_at 0 ≤ max_width
  pub few : get_or s layers_at 0 ≤ max_layers
  pub layers : GoodLayers n (get_or s layers_at 0) 0 (drop first_layer_at s)
  pub rest : GoodRest n (first_nodes (get_or s layers_at 0) 0 (drop first_layer_at s)) (behind_layers (get_or s layers_at 0) (drop first_layer_at s))
