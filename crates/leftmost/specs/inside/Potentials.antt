-- The nodes with potentials to start from.
use Rattle.std.specs.Prelude.{ℕ, zero, suc, ◌*◌, List, set}
use Rattle.network.specs.Net.{at}
use Rattle.network.specs.Nodes.{node_stride}

-- the nodes with the first n values as potentials
unfoldable pub potentials_to : ℕ → List ℕ → List ℕ → List ℕ
potentials_to zero values nodes = nodes
potentials_to (suc n) values nodes = set (potentials_to n values nodes) (node_stride * n) (at values n)
