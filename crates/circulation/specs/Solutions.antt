-- What the call answers: flows and potentials of the network that the packed arcs are, and 0 in the other numbers of the nodes.
use Rattle.std.specs.Prelude.{Result, Ok, Err, ℕ, ◌+◌, ◌-◌, ◌*◌, ◌≤◌, ◌<◌, ◌≡◌, List, T, ℤ, pos, ◌-ℤ◌, length}
use Rattle.network.specs.Sums.{upto}
use Rattle.network.specs.Network.{LeftmostLeast}
use Rattle.network.specs.Flows.{rules, complementary}
use Rattle.network.specs.Packed.{flow_zero, high_none}
use Rattle.network.specs.Net.{at, Net, arcs, meant}
use Rattle.network.specs.Nodes.{size, potentials, node_stride, potential_zero}
use Rattle.circulation.specs.Input.{Valid}
use Rattle.circulation.specs.declared.Malformed.{Malformed}

-- stored flows as integers
abbrev pub flows_of : ℕ → (ℕ → ℕ) → List ℤ
flows_of m x = upto m (λ i. pos (x i) -ℤ pos flow_zero)

-- stored potentials of n nodes with ground, as integers; ground's is 0 and not in the list
abbrev pub potentials_of : ℕ → (ℕ → ℕ) → List ℤ
potentials_of n p = upto (n - 1) (λ v. pos (p v) -ℤ pos potential_zero)

-- the flows are allowed and balanced, at most 2^29 as stored, and in complementary slackness with the potentials; these are the
-- leftmost of least cost, relative to ground's
pub record Solution (N : Net) (n : ℕ) (x p : ℕ → ℕ) : Type 0 where
  pub follows_rules : T (rules (meant N n) (flows_of (arcs N) x))
  pub no_slack : T (complementary (meant N n) (flows_of (arcs N) x) (potentials_of n p))
  pub best : LeftmostLeast (meant N n) (potentials_of n p)
  pub ground : p (n - 1) ≡ potential_zero
  pub bounded : (i : ℕ) → i < arcs N → x i ≤ high_none

-- the other numbers of each node are 0, and what stands behind the last node is kept
pub record Cleared (nodes₀ nodes : List ℕ) : Type 0 where
  pub nodes_size : length nodes ≡ length nodes₀
  pub others : (v k : ℕ) → v < size nodes₀ → 0 < k → k < node_stride → at nodes (node_stride * v + k) ≡ 0
  pub rest : (i : ℕ) → node_stride * size nodes₀ ≤ i → at nodes i ≡ at nodes₀ i

-- what is found: a solution, or input that is not taken
pub data Finding : Type 0 where
  solved : Finding
  malformed : Finding

-- what each case of the code's answer stands for
abbrev pub finding : Result (Unit {0}) Malformed → Finding
finding (Ok done) = Finding.solved
finding (Err refused) = Finding.malformed

-- what each finding says, with flows and nodes before and after; which of the flows that make a solution is left open
abbrev pub Means : (N : Net) (x₀ nodes₀ x nodes : List ℕ) → Finding → Type 0
Means N x₀ nodes₀ x nodes Finding.solved =
    Valid N (size nodes₀) (potentials nodes₀) × (length x ≡ length x₀) × Cleared nodes₀ nodes
    × Solution N (size nodes₀) (at x) (at (potentials nodes))
Means N x₀ nodes₀ x nodes Finding.malformed =
    (Valid N (size nodes₀) (potentials nodes₀) → ⊥) × (x ≡ x₀) × (nodes ≡ nodes₀)
