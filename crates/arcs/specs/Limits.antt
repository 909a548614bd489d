-- The limits of what is loaded.
use Rattle.std.specs.Prelude.{ℕ, ◌+◌, ◌*◌}
use Rattle.sheet.specs.Limits.{max_layers, max_nodes, max_edges}
use Rattle.network.specs.Packed.{stride}

-- the arcs of a sheet: one for each edge and two for each node
abbrev pub max_arcs : ℕ
max_arcs = max_edges + 2 * max_nodes

-- the elements that they take: 5,120
abbrev pub max_elements : ℕ
max_elements = stride * max_arcs

-- the elements that the first nodes of the layers and the count of nodes take: 65
abbrev pub max_firsts : ℕ
max_firsts = max_layers + 1

-- a small sheet has so many arcs at most
abbrev pub few_arcs : ℕ
few_arcs = 96

-- and so many nodes: each node has two arcs
abbrev pub few_nodes : ℕ
few_nodes = 48
