-- Two findings that meet the contract for the same input are equal, and so are the potentials: by cases, and by each being
-- at most the other.
use Rattle.std.specs.Prelude.{◌≡◌, refl, List, ℕ}
use Rattle.std.proofs.Common.{arith}
use Rattle.network.specs.Net.{at, Net}
use Rattle.network.specs.Network.{Network}
use Rattle.difference.specs.Solutions.{potentials, Lowest, Finding, Means}
use Rattle.difference.specs.Solutions.Finding.{solved, none, malformed}

-- each lowest potential is at most the other
pub lowest_unique : {M : Network} {p p' : List ℕ} → Lowest M p → Lowest M p' → (u : ℕ) → at p u ≡ at p' u
lowest_unique {M} {p} {p'} a b u = omega (arith, a.lowest p' b.feasible u, b.lowest p a.feasible u)

module _ (N : Net) (n : ℕ) (v₀ v v' : List ℕ) where
  -- the finding
  pub one_finding : (r r' : Finding) → Means N n v₀ v r → Means N n v₀ v' r' → r ≡ r'
  one_finding solved solved m m' = refl
  one_finding solved none m m' = absurd (m'.2 (potentials n v) m.2.lowest.feasible)
  one_finding solved malformed m m' = absurd (m'.0 m.0)
  one_finding none solved m m' = absurd (m.2 (potentials n v') m'.2.lowest.feasible)
  one_finding none none m m' = refl
  one_finding none malformed m m' = absurd (m'.0 m.0)
  one_finding malformed solved m m' = absurd (m.0 m'.0)
  one_finding malformed none m m' = absurd (m.0 m'.0)
  one_finding malformed malformed m m' = refl

  -- the potentials
  pub one_solution : Means N n v₀ v solved → Means N n v₀ v' solved → (u : ℕ) → at (potentials n v) u ≡ at (potentials n v') u
  one_solution m m' = lowest_unique m.2.lowest m'.2.lowest
