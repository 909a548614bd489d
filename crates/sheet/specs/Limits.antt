-- The limits of document 01, "The sheet", and of document 02, tickets 3 and 4, each once.
use Rattle.std.specs.Prelude.{ℕ, ◌+◌, ◌*◌, List, [], ◌∷◌, length}
use Rattle.leb128.specs.Limits.{number_bytes}

-- the bytes of a magic
abbrev pub magic_bytes : ℕ
magic_bytes = 3

-- the bytes that a sheet starts with: S, P, 1
abbrev pub magic : List ℕ
magic = 0x53 ∷ 0x50 ∷ 0x31 ∷ []

-- strip width W
abbrev pub max_width : ℕ
max_width = 4095

-- layers (ranks) of a sheet
abbrev pub max_layers : ℕ
max_layers = 64

-- nodes (marks) of a layer
abbrev pub max_layer_nodes : ℕ
max_layer_nodes = 64

-- nodes of all layers together
abbrev pub max_nodes : ℕ
max_nodes = 256

-- minimum and maximum separation (least and greatest gap)
abbrev pub max_separation : ℕ
max_separation = 4095

-- edges (leads) of a sheet
abbrev pub max_edges : ℕ
max_edges = 512

-- the kind of an edge: 0 plain, 1 straight
abbrev pub max_kind : ℕ
max_kind = 1

-- the weight of an edge: how many times its length counts
abbrev pub max_weight : ℕ
max_weight = 1

-- the numbers of a sheet
abbrev pub max_numbers : ℕ
max_numbers = 2559

-- the bytes of a sheet, were each of its numbers to take all the bytes allowed: 5,121
abbrev pub max_bytes : ℕ
max_bytes = length magic + number_bytes * max_numbers

-- the bytes that a coordinate file (drawing file) starts with: S, D, 1
abbrev pub coordinate_magic : List ℕ
coordinate_magic = 0x53 ∷ 0x44 ∷ 0x31 ∷ []

-- a coordinate (place) in such a file
abbrev pub max_coordinate : ℕ
max_coordinate = 4095

-- the numbers of such a file: the count of layers, a count for each layer, a coordinate for each node
abbrev pub max_coordinate_numbers : ℕ
max_coordinate_numbers = 1 + max_layers + max_nodes

-- the bytes of such a file, were each of its numbers to take all the bytes allowed: 645
abbrev pub max_coordinate_bytes : ℕ
max_coordinate_bytes = length coordinate_magic + number_bytes * max_coordinate_numbers
