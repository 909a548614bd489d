-- What the call takes and answers: flows and the leftmost least potentials of the network that the packed arcs are, or that it
-- has no feasible potentials; and what each answer leaves in the slices that are lent.
use Rattle.std.specs.Prelude.{Result, Ok, Err, ℕ, ◌≤◌, ◌≡◌, List, length, replicate}
use Rattle.network.specs.Network.{Network, Feasible, integers}
use Rattle.network.specs.Net.{at, Net, meant}
use Rattle.network.specs.Nodes.{size, potentials}
use Rattle.network.specs.declared.Unsolved.{Unsolved}
use Rattle.network.specs.declared.Unsolved.TheVariants.{NoSolution, Malformed}
use Rattle.circulation.specs.Input.{ArcsTaken}
use Rattle.circulation.specs.Solutions.{Solution, Cleared as NodesCleared}

-- what is taken: arcs between n nodes that the solver of flows takes, and room for a number of each node
pub record Taken (N : Net) (n room : ℕ) : Type 0 where
  pub arcs_in : ArcsTaken N n
  pub room_in : n ≤ room

-- some potentials that are not negative are feasible
pub record SomeFeasible (M : Network) : Type 0 where
  pub start : List ℕ
  pub feasible : Feasible M (integers start)

-- the other numbers of each node are 0, what stands behind the last node is kept, and every number of room is 0
pub record Cleared (nodes₀ nodes room₀ room : List ℕ) : Type 0 where
  pub in_nodes : NodesCleared nodes₀ nodes
  pub in_room : room ≡ replicate (length room₀) 0

-- what is found: the leftmost least potentials; that none are feasible, an answer and no refusal; or input that is not taken
pub data Finding : Type 0 where
  solved : Finding
  none : Finding
  malformed : Finding

-- what each case of the code's answer stands for
abbrev pub finding : Result (Unit {0}) Unsolved → Finding
finding (Ok done) = Finding.solved
finding (Err NoSolution) = Finding.none
finding (Err Malformed) = Finding.malformed

-- what each finding says, with flows, nodes and room before and after; which of the flows that make a solution is left open
abbrev pub Means : (N : Net) (x₀ nodes₀ room₀ x nodes room : List ℕ) → Finding → Type 0
Means N x₀ nodes₀ room₀ x nodes room Finding.solved =
    Taken N (size nodes₀) (length room₀) × SomeFeasible (meant N (size nodes₀)) × (length x ≡ length x₀)
    × Cleared nodes₀ nodes room₀ room × Solution N (size nodes₀) (at x) (at (potentials nodes))
Means N x₀ nodes₀ room₀ x nodes room Finding.none =
    Taken N (size nodes₀) (length room₀) × (SomeFeasible (meant N (size nodes₀)) → ⊥) × (x ≡ x₀) × (nodes ≡ nodes₀)
    × (room ≡ replicate (length room₀) 0)
Means N x₀ nodes₀ room₀ x nodes room Finding.malformed =
    (Taken N (size nodes₀) (length room₀) → ⊥) × (x ≡ x₀) × (nodes ≡ nodes₀) × (room ≡ room₀)
