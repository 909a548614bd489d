-- What the test of a guess looks at, and what is left of a guess that passes.
use Rattle.std.specs.Prelude.{ℕ, ◌-◌, ◌≤◌, ◌<◌, ◌≡◌, length, replicate, List}
use Rattle.network.specs.Net.{at, Net, arcs, low, high, stands, asks}
use Rattle.network.specs.Nodes.{node_stride, deficit_zero, size, potentials, deficits, orders}
use Rattle.circulation.specs.Limits.{flow_least, flow_most}
use Rattle.circulation.specs.Input.{First}
use Rattle.circulation.specs.Solutions.{Solution}
use Rattle.circulation.specs.inside.Finish.{Zeroed}
use Rattle.circulation.specs.inside.Optimal.{Support, Optimal}

-- a flow that can be counted, is within its limits, and is at the limit of the side where the head stands
pub record Fits (stands asks x low high : ℕ) : Type 0 where
  pub counted : (flow_least ≤ x) × (x ≤ flow_most)
  pub within : (low ≤ x) × (x ≤ high)
  pub left : stands < asks → x ≡ low
  pub right : asks < stands → x ≡ high

-- the flow on arc i is such
abbrev pub FitsAt : Net → (p x : ℕ → ℕ) → ℕ → Type 0
FitsAt N p x i = Fits (stands N p i) (asks N p i) (x i) (low N i) (high N i)

-- every flow is such
pub record AllFit (N : Net) (p x : ℕ → ℕ) : Type 0 where
  pub each : (i : ℕ) → i < arcs N → FitsAt N p x i

-- every one of n nodes but ground is supported
pub record AllSupported (N : Net) (n : ℕ) (p x order : ℕ → ℕ) : Type 0 where
  pub each : (v : ℕ) → v < n - 1 → Support N p x order v

-- no node has a deficit or an excess
pub record Level (nodes : List ℕ) : Type 0 where
  pub each : (v : ℕ) → v < size nodes → at (deficits nodes) v ≡ deficit_zero

-- the flows x and the nodes are optimal, and no potential is too large to be stored relative to ground's
pub record Passes (N : Net) (n : ℕ) (x nodes : List ℕ) : Type 0 where
  pub optimal : Optimal N n (at (potentials nodes)) (at x) (at (orders nodes))
  pub small : First (at (potentials nodes))

-- a solution is left, and 0 in the other numbers of the nodes and in room
pub record Left (N : Net) (n : ℕ) (x nodes room : List ℕ) : Type 0 where
  pub solution : Solution N n (at x) (at (potentials nodes))
  pub others : Zeroed node_stride nodes
  pub room_zero : room ≡ replicate (length room) 0
