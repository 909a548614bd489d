-- What a store changes in the packed nodes, and what it leaves.
use Rattle.network.specs.Net.{at}
use Rattle.network.specs.Nodes.{node_stride, column, potentials, deficits, orders, parents, residuals}
use Rattle.std.specs.Prelude.{◌≡◌, List, ℕ, ◌<◌, length, set}

-- the k-th number of node v became a, and no other number changed
pub record Stored (k v a : ℕ) (old new : List ℕ) : Type 0 where
  pub same : column k new ≡ set (column k old) v a
  pub others : (j : ℕ) → j < node_stride → (j ≡ k → ⊥) → column j new ≡ column j old
  pub length_same : length new ≡ length old

-- only k-th numbers changed
pub record Apart (k : ℕ) (old new : List ℕ) : Type 0 where
  pub others : (j : ℕ) → j < node_stride → (j ≡ k → ⊥) → column j new ≡ column j old
  pub length_same : length new ≡ length old

-- node v is reached with the place in the order, parent and residual given
pub record Reaches (v order parent residual : ℕ) (old new : List ℕ) : Type 0 where
  pub length_same : length new ≡ length old
  pub potentials_same : potentials new ≡ potentials old
  pub deficits_same : deficits new ≡ deficits old
  pub orders_set : orders new ≡ set (orders old) v order
  pub parents_set : parents new ≡ set (parents old) v parent
  pub residuals_set : residuals new ≡ set (residuals old) v residual

-- only s is reached, with the residual given
pub record Begun (s residual : ℕ) (old new : List ℕ) : Type 0 where
  pub length_same : length new ≡ length old
  pub potentials_same : potentials new ≡ potentials old
  pub deficits_same : deficits new ≡ deficits old
  pub root : at (orders new) s ≡ 1
  pub alone : (v : ℕ) → (v ≡ s → ⊥) → at (orders new) v ≡ 0
  pub root_residual : at (residuals new) s ≡ residual
