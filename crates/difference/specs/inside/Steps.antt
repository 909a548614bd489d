-- What the steps of raising find, one by one and together.
use Rattle.std.specs.Prelude.{◌≡◌, Bool, true, false, Result, Ok, Err, List, ℕ, ◌+◌, ◌-◌, ◌≤◌, ◌<◌, length, set, replicate}
use Rattle.network.specs.Net.{at, Net}
use Rattle.difference.specs.inside.Constraints.{Risen, Grew, Least, None}
use Rattle.difference.specs.declared.Stuck.{Stuck}
use Rattle.difference.specs.Limits.{value_limit}

-- one constraint, value(from) + a ≤ value(to) + b where it is asked, over v₀, left v
abbrev pub RelaxMeans : (asked : Bool) (from to a b : ℕ) (v₀ v : List ℕ) → Result Bool Stuck → Type 0
RelaxMeans asked from to a b v₀ v (Ok false) = (v ≡ v₀) × (asked ≡ true → at v₀ from + a ≤ at v₀ to + b)
RelaxMeans asked from to a b v₀ v (Ok true) =
    (asked ≡ true) × (v ≡ set v₀ to (at v₀ from + a - b)) × (at v₀ to + b < at v₀ from + a) × (to + 1 < length v₀)
    × (at v₀ from + a ≤ value_limit + b)
RelaxMeans asked from to a b v₀ v (Err stuck) =
    (asked ≡ true) × (v ≡ v₀) × (at v₀ to + b < at v₀ from + a) × (to + 1 < length v₀ → value_limit + b < at v₀ from + a)

-- what a step tells of the constraints M, each with the values before at the node that forces, and the values after at
-- the node that is raised
abbrev pub Told : ((ℕ → ℕ) → (ℕ → ℕ) → Type 0) → Net → List ℕ → List ℕ → Result Bool Stuck → Type 0
Told M N v₀ v (Ok false) = (v ≡ v₀) × M (at v₀) (at v)
Told M N v₀ v (Ok true) = Grew v₀ v × M (at v₀) (at v)
Told M N v₀ v (Err stuck) = None N (length v₀)

-- a step over the constraints M left v
pub record Stepped (M : (ℕ → ℕ) → (ℕ → ℕ) → Type 0) (N : Net) (v₀ v : List ℕ) (r : Result Bool Stuck) : Type 0 where
  pub risen : Risen N v₀ v
  pub told : Told M N v₀ v r

-- all passes: the least solution, or none exists
abbrev pub Swept : Net → ℕ → List ℕ → Result (Unit {0}) Stuck → Type 0
Swept N n v (Ok done) = Least N n v
Swept N n v (Err stuck) = None N n

-- the same, and if none exists every value is 0
abbrev pub Ran : Net → ℕ → List ℕ → Result (Unit {0}) Stuck → Type 0
Ran N n v (Ok done) = Least N n v
Ran N n v (Err stuck) = None N n × (v ≡ replicate n 0)
