-- What the last step takes and leaves in the nodes.
use Rattle.network.specs.Net.{at}
use Rattle.network.specs.Nodes.{column, potentials, size, potential_zero}
use Rattle.network.specs.Limits.{most_nodes}
use Rattle.circulation.specs.inside.Slackness.{Small}
use Rattle.std.specs.Prelude.{◌≡◌, List, ℕ, ◌+◌, ◌-◌, ◌≤◌, ◌<◌}

-- the potential of ground, the last node
abbrev pub ground_of : List ℕ → ℕ
ground_of nodes = at (potentials nodes) (size nodes - 1)

-- no node is so far left of ground that its potential relative to ground's cannot be stored
pub record Grounded (nodes : List ℕ) : Type 0 where
  pub some : 0 < size nodes
  pub few : size nodes ≤ most_nodes
  pub small : Small (at (potentials nodes))
  pub near : (v : ℕ) → v < size nodes → ground_of nodes ≤ at (potentials nodes) v + potential_zero

-- the potentials became relative to ground's, with potential_zero added
pub record Settled (old new : List ℕ) : Type 0 where
  pub relative : (v : ℕ) → v < size old → at (potentials new) v + ground_of old ≡ at (potentials old) v + potential_zero

-- the numbers 1 .. k - 1 of each node are 0
pub record Zeroed (k : ℕ) (nodes : List ℕ) : Type 0 where
  pub zero : (j v : ℕ) → 0 < j → j < k → at (column j nodes) v ≡ 0
