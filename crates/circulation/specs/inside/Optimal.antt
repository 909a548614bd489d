-- What shows flows and potentials to be a solution, with an order of the nodes: every node but ground is supported by an arc
-- from a node before it.
use Rattle.network.specs.Net.{Net, arcs, tail, head, low, high, stands, asks}
use Rattle.circulation.specs.inside.Slackness.{Slack, Balanced}
use Rattle.std.specs.Prelude.{◌≡◌, ◌⊎◌, ℕ, ◌-◌, ◌<◌}

-- arc i is on its kink, and supports node v from a node before it: v cannot go left without the other end, since the flow is not at
-- its limit
pub record Supports (N : Net) (p x order : ℕ → ℕ) (v i : ℕ) : Type 0 where
  pub tight : asks N p i ≡ stands N p i
  pub ends :
      ((tail N i ≡ v) × (order (head N i) < order v) × (x i < high N i))
      ⊎ ((head N i ≡ v) × (order (tail N i) < order v) × (low N i < x i))

-- some arc supports v
pub record Support (N : Net) (p x order : ℕ → ℕ) (v : ℕ) : Type 0 where
  pub arc : ℕ
  pub arc_in : arc < arcs N
  pub by : Supports N p x order v arc

-- the flows are in complementary slackness with the potentials and balanced, and every node but ground is supported
pub record Optimal (N : Net) (n : ℕ) (p x order : ℕ → ℕ) : Type 0 where
  pub slack : Slack N p x
  pub balanced : Balanced N n x
  pub supported : (v : ℕ) → v < n - 1 → Support N p x order v
