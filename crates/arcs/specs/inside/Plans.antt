-- What is known of a sheet's numbers before its arcs are filled in, and what filling leaves.
use Rattle.std.specs.Prelude.{ℕ, ◌+◌, ◌*◌, ◌≤◌, ◌<◌, ◌≡◌, List, ◌++◌, length, get_or, take, drop}
use Rattle.sheet.specs.Layout.{layers_at, first_layer_at, edge_count_at, behind_layers}
use Rattle.network.specs.Network.{Network}
use Rattle.network.specs.Packed.{stride, packed}
use Rattle.drawing.specs.Sheet.{first_nodes}
use Rattle.arcs.specs.declared.Plan.{Plan}

-- what the pass over the layers leaves and answers: the first node of each layer and last the count of nodes, and the index
-- behind the layers
pub record FirstNodes (s : List ℕ) (layers : ℕ) (old new : List ℕ) (behind : ℕ) : Type 0 where
  pub size : length new ≡ length old
  pub firsts : take (layers + 1) new ≡ first_nodes layers 0 (drop first_layer_at s)
  pub rest : drop behind s ≡ behind_layers layers (drop first_layer_at s)
  pub inside : behind ≤ length s

-- a plan of a sheet's numbers, with the first node of each layer
pub record Planned (s first : List ℕ) (p : Plan) : Type 0 where
  pub layers : p.layers ≡ get_or s layers_at 0
  pub long : p.layers < length first
  pub firsts : take (p.layers + 1) first ≡ first_nodes p.layers 0 (drop first_layer_at s)
  pub rest : drop p.behind s ≡ behind_layers p.layers (drop first_layer_at s)
  pub inside : p.behind ≤ length s
  pub nodes : p.nodes ≡ get_or first p.layers 0
  pub edges : p.edges ≡ get_or (drop p.behind s) edge_count_at 0

-- a slice with the arcs of a network in front
unfoldable pub written : Network → List ℕ → List ℕ
written N old = packed N ++ drop (stride * length N.arcs) old
