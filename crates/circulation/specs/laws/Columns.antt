-- The numbers of the nodes as columns: how long, and the number of each node.
use Rattle.network.specs.Net.{at}
use Rattle.network.specs.laws.Indexed.{upto_length, upto_in}
use Rattle.network.specs.Nodes.{column, node_stride}
use Rattle.std.specs.Prelude.{◌≡◌, List, ℕ, ◌+◌, ◌*◌, ◌/◌, ◌≤◌, ◌<◌, length}
use Rattle.std.proofs.Common.{arith}
use Rattle.std.proofs.Math.ListN.{get_or-eq_default}

-- a column has a number for each node
pub column_length : (k : ℕ) (nodes : List ℕ) → length (column k nodes) ≡ length nodes / node_stride
unfolding column
column_length k nodes = upto_length (length nodes / node_stride) (λ v. at nodes (node_stride * v + k))

-- the number of a node
pub column_at : (k : ℕ) (nodes : List ℕ) (v : ℕ) → v < length nodes / node_stride
    → at (column k nodes) v ≡ at nodes (node_stride * v + k)
unfolding column
column_at k nodes v l = upto_in 0 (length nodes / node_stride) (λ v. at nodes (node_stride * v + k)) v l

-- past the last node every number is 0
pub column_past : (k : ℕ) (nodes : List ℕ) (v : ℕ) → length nodes / node_stride ≤ v → at (column k nodes) v ≡ 0
column_past k nodes v l = get_or-eq_default (column k nodes) 0 {n = v} (omega (arith, column_length k nodes))
