-- A network has one least total, and one list of leftmost least potentials: each of two is at most the other.
use Rattle.std.specs.Prelude.{◌≡◌, List, ℤ, pos}
use Rattle.std.proofs.Common.{sym, ◌∙◌, ext_get_or}
use Rattle.network.specs.Network.{Network, Least, LeftmostLeast, total}
use Rattle.network.specs.laws.Integers.{≤ℤ_antisym}

-- the least total is unique
pub least_total : (N : Network) (p q : List ℤ) → Least N p → Least N q → total N p ≡ total N q
least_total N p q l m = ≤ℤ_antisym (l.least q m.feasible) (m.least p l.feasible)

-- the leftmost least potentials are unique
pub leftmost_unique : (N : Network) (p q : List ℤ) → LeftmostLeast N p → LeftmostLeast N q → p ≡ q
leftmost_unique N p q l m =
    let same : total N p ≡ total N q = least_total N p q l.is_least m.is_least in
    ext_get_or (pos 0) p q (l.is_least.feasible.size ∙ sym m.is_least.feasible.size)
    (λ v h. ≤ℤ_antisym (l.leftmost q m.is_least.feasible (sym same) v) (m.leftmost p l.is_least.feasible same v))
