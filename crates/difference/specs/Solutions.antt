-- What the call answers: the lowest potentials of the network that the packed arcs are, or that it has none.
use Rattle.std.specs.Prelude.{Result, Ok, Err, ℕ, ◌-◌, ◌*◌, ◌≤◌, ◌<◌, ◌≡◌, List, ◌++◌, length, take, drop, replicate}
use Rattle.network.specs.Network.{Network, Feasible, integers}
use Rattle.network.specs.Net.{at, Net, meant}
use Rattle.network.specs.Limits.{kink_size}
use Rattle.difference.specs.Input.{Taken}
use Rattle.network.specs.declared.Unsolved.{Unsolved}
use Rattle.network.specs.declared.Unsolved.TheVariants.{NoSolution, Malformed}

-- the values of n nodes as potentials: without ground's, which is 0
abbrev pub potentials : ℕ → List ℕ → List ℕ
potentials n values = take (n - 1) values

-- feasible potentials, and each at most that of any others that are not negative
pub record Lowest (M : Network) (p : List ℕ) : Type 0 where
  pub feasible : Feasible M (integers p)
  pub lowest : (q : List ℕ) → Feasible M (integers q) → (u : ℕ) → at p u ≤ at q u

-- no feasible potentials that are not negative
abbrev pub NoneFeasible : Network → Type 0
NoneFeasible M = (q : List ℕ) → Feasible M (integers q) → ⊥

-- the values behind the first n are as they were
pub record RestKept (n : ℕ) (old new : List ℕ) : Type 0 where
  pub size : length new ≡ length old
  pub rest : (u : ℕ) → n ≤ u → at new u ≡ at old u

-- the first n values are the lowest potentials of the network, and ground's 0
pub record Solves (N : Net) (n : ℕ) (values : List ℕ) : Type 0 where
  pub ground : at values (n - 1) ≡ 0
  pub small : (u : ℕ) → u < n → at values u ≤ n * kink_size
  pub lowest : Lowest (meant N n) (potentials n values)

-- what is found: the lowest potentials; that there are none, an answer and no refusal; or input that is not taken
pub data Finding : Type 0 where
  solved : Finding
  none : Finding
  malformed : Finding

-- what each case of the code's answer stands for
abbrev pub finding : Result (Unit {0}) Unsolved → Finding
finding (Ok done) = Finding.solved
finding (Err NoSolution) = Finding.none
finding (Err Malformed) = Finding.malformed

-- what each finding says, with the values before and after; where there are no potentials the first n values are 0
abbrev pub Means : Net → ℕ → List ℕ → List ℕ → Finding → Type 0
Means N n old new Finding.solved = Taken N n old × RestKept n old new × Solves N n new
Means N n old new Finding.none = Taken N n old × (new ≡ replicate n 0 ++ drop n old) × NoneFeasible (meant N n)
Means N n old new Finding.malformed = (Taken N n old → ⊥) × (new ≡ old)
