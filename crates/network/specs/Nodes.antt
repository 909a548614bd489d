-- The nodes as packed numbers, six to a node: potential, deficit, place in the order of reaching, parent, residual, and one
-- that only a guess uses. The last node is ground.
use Rattle.std.specs.Prelude.{ℕ, ◌+◌, ◌*◌, ◌/◌, List, length}
use Rattle.network.specs.Sums.{upto}
use Rattle.network.specs.Net.{at}

-- from a node to the next one
abbrev pub node_stride : ℕ
node_stride = 6

-- what is added to a deficit: 2^30
abbrev pub deficit_zero : ℕ
deficit_zero = 1073741824

-- what is added to a potential that is answered, which is relative to ground's: 2^28
abbrev pub potential_zero : ℕ
potential_zero = 268435456

-- how many nodes
abbrev pub size : List ℕ → ℕ
size nodes = length nodes / node_stride

-- the k-th numbers of all nodes
unfoldable pub column : ℕ → List ℕ → List ℕ
column k nodes = upto (length nodes / node_stride) (λ v. at nodes (node_stride * v + k))

-- where each node stands
abbrev pub potentials : List ℕ → List ℕ
potentials nodes = column 0 nodes

-- the deficit of a node is outflow − inflow, with deficit_zero added; below that it is an excess
abbrev pub deficits : List ℕ → List ℕ
deficits nodes = column 1 nodes

-- the place of a node in the order of reaching, from 1 on; 0 where it is not reached
abbrev pub orders : List ℕ → List ℕ
orders nodes = column 2 nodes

-- the arc over which a node was reached
abbrev pub parents : List ℕ → List ℕ
parents nodes = column 3 nodes

-- what can be moved from the source to a node
abbrev pub residuals : List ℕ → List ℕ
residuals nodes = column 4 nodes
