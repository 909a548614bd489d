-- The limits of packed arcs that a solver takes.
use Rattle.std.specs.Prelude.{ℕ}

-- nodes, with ground
abbrev pub most_nodes : ℕ
most_nodes = 4096

-- arcs
abbrev pub most_arcs : ℕ
most_arcs = 8192

-- the size of a kink
abbrev pub kink_size : ℕ
kink_size = 65535

-- a kink as it is stored: kink_size, with kink_zero added
abbrev pub kink_most : ℕ
kink_most = 131071
