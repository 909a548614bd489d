-- What is read off the solvers' slices: coordinates off potentials, numbers of the list off flows.
use Rattle.std.specs.Prelude.{ℕ, ◌+◌, ◌-◌, ◌*◌, ◌≤◌, ◌<◌, List, ℤ, pos, ◌-ℤ◌, length}
use Rattle.leb128.specs.Limits.{list_limit}
use Rattle.network.specs.Packed.{flow_zero, high_none}
use Rattle.network.specs.Net.{at}
use Rattle.network.specs.Nodes.{node_stride, potential_zero}

-- the coordinate of node v, from the packed nodes
abbrev pub place_at : List ℕ → ℕ → ℕ
place_at nodes v = at nodes (node_stride * v) - potential_zero

-- the potentials of the first n nodes are coordinates of 16 bits
pub record Places (nodes : List ℕ) (n : ℕ) : Type 0 where
  pub there : node_stride * n ≤ length nodes
  pub least : (v : ℕ) → v < n → potential_zero ≤ at nodes (node_stride * v)
  pub small : (v : ℕ) → v < n → at nodes (node_stride * v) < potential_zero + list_limit

-- a stored flow, read back
abbrev pub number_of : ℕ → ℤ
number_of x = pos x -ℤ pos flow_zero

-- number i of the list, from the flows
abbrev pub number_at : List ℕ → ℕ → ℤ
number_at flows i = number_of (at flows i)

-- each stored flow is at most an unlimited high
pub record Flows (flows : List ℕ) : Type 0 where
  pub small : (i : ℕ) → i < length flows → at flows i ≤ high_none
