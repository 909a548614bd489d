-- The layer that a node is in, and packed edges in chains, one for each layer, by their lower ends. A link is 0 where there is no edge,
-- else the edge's index and 1.
use Rattle.std.specs.Prelude.{ℕ, suc, ◌+◌, ◌/◌, ◌<◌, ◌≤◌, ◌≡◌, List, length, get_or, set, Option, Some, None}
use Rattle.sheet.specs.Limits.{max_nodes, max_edges}
use Rattle.network.specs.Packed.{stride}
use Rattle.packed.specs.Ends.{edge_from, lower_at}
use Rattle.totals.specs.RunningSums.{layer_start}

-- node v is in a layer, by the first nodes of the layers
pub record InLayer (first : List ℕ) (layer v : ℕ) : Type 0 where
  pub some : 1 ≤ layer
  pub there : layer ≤ length first
  pub after : layer_start first layer ≤ v
  pub before : v < layer_start first (layer + 1)

-- the same, or it is the first node of the next one
pub record Near (first : List ℕ) (layer v : ℕ) : Type 0 where
  pub some : 1 ≤ layer
  pub there : layer ≤ length first
  pub after : layer_start first layer ≤ v
  pub before : v ≤ layer_start first (layer + 1)

-- start is the first node of the layer that v is in
pub record StartAt (first : List ℕ) (v start : ℕ) : Type 0 where
  pub layer : ℕ
  pub inside : InLayer first layer v
  pub is : start ≡ layer_start first layer

-- a number for each of some nodes, which is none behind it
pub record StartTable (starts : List ℕ) : Type 0 where
  pub size : length starts ≤ max_nodes
  pub below : (v : ℕ) → v < length starts → get_or starts v 0 ≤ v

-- for each of some nodes the first node of its layer
pub record Starts (first starts : List ℕ) : Type 0 where
  pub size : length starts ≤ max_nodes
  pub each : (v : ℕ) → v < length starts → StartAt first v (get_or starts v 0)

-- the link that leads to an edge, or to none
abbrev pub link_of : Option ℕ → ℕ
link_of None = 0
link_of (Some i) = i + 1

-- a link for each node of a sheet, and one for each edge
abbrev pub links : ℕ
links = max_nodes + max_edges

-- the links with edge i at the end of the chain of a first node
abbrev pub linked : List ℕ → ℕ → ℕ → List ℕ
linked chains start i = set (set chains (max_nodes + i) (get_or chains start 0)) start (i + 1)

-- the lower end of packed edge i
abbrev pub lower_of : List ℕ → ℕ → ℕ
lower_of s i = lower_at (edge_from i s)

-- the first node of the layer that the lower end of packed edge i is in
abbrev pub start_of : List ℕ → List ℕ → ℕ → ℕ
start_of starts s i = get_or starts (lower_of s i) 0

-- the link leads to the last of the first n packed edges whose lower end is in the layer that starts at v
pub record Last (starts s : List ℕ) (v n link : ℕ) : Type 0 where
  pub inside : link ≤ n
  pub ends : (i : ℕ) → link ≡ suc i → start_of starts s i ≡ v
  pub none : (i : ℕ) → link ≤ i → i < n → start_of starts s i ≡ v → ⊥

-- the chains hold the first n packed edges, each in that of its layer and nowhere else
pub record Chained (starts s : List ℕ) (n : ℕ) (chains : List ℕ) : Type 0 where
  pub size : length chains ≡ links
  pub few : n ≤ max_edges
  pub low : (i : ℕ) → i < n → lower_of s i < length starts
  pub lasts : (v : ℕ) → v < max_nodes → Last starts s v n (get_or chains v 0)
  pub befores : (i : ℕ) → i < n → Last starts s (start_of starts s i) i (get_or chains (max_nodes + i) 0)

-- all packed edges are chained, by the layers that start at these first nodes
pub record LayerChains (first s chains : List ℕ) : Type 0 where
  pub starts : List ℕ
  pub of : Starts first starts
  pub chained : Chained starts s (length s / stride) chains
