-- Packed arcs that the loops can read, and the decision that they give.
use Rattle.std.specs.Prelude.{ℕ, ◌+◌, ◌*◌, ◌≤◌, ◌<◌, Bool, List, ℤ, length, get_or}
use Rattle.network.specs.Network.{integers}
use Rattle.network.specs.Flows.{certifies}
use Rattle.network.specs.Packed.{kink_at, stride, kink_zero, network_of}
use Rattle.arcs.specs.Limits.{max_arcs}
use Rattle.arcs.specs.declared.Counts.{Counts}

-- arc i is there, and its kink is a small number
pub record HasArc (a : List ℕ) (i : ℕ) : Type 0 where
  pub there : stride * i + stride ≤ length a
  pub kink : get_or a (stride * i + kink_at) 0 < 2 * kink_zero

-- n arcs
pub record Table (a : List ℕ) (n : ℕ) : Type 0 where
  pub few : n ≤ max_arcs
  pub arcs : (i : ℕ) → i < n → HasArc a i

-- the decision that packed arcs give
abbrev pub table_decision : List ℕ → Counts → List ℕ → List ℤ → Bool
table_decision a c places list = certifies (network_of a c.nodes c.arcs) (integers places) list
