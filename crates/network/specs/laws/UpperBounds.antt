-- An arc that is an upper bound is legal, under natural potentials, where its head is at most so far right of its tail.
use Rattle.std.specs.Prelude.{◌≡◌, List, ℕ, zero, suc, ◌+◌, ◌≤◌, T, ℤ, pos, negsuc, ◌-ℤ◌, ◌≤ℤ◌}
use Rattle.std.proofs.Common.{ap, arith, leb→le}
use Rattle.std.proofs.Math.ListN.{get_or-map}
use Rattle.std.specs.Int.Signed.{le_z_yes}
use Rattle.network.specs.Integers.{up, down}
use Rattle.network.specs.Network.{integers, potential, past_kink, legal_at, legal, upper_bound}
use Rattle.network.specs.Net.{at}
use Rattle.network.specs.laws.IntegerParts.{le_parts, parts_le, minus_parts}

-- a node's potential, of natural numbers, is the number at its index
pub integer_potential : (p : List ℕ) (v : ℕ) → potential (integers p) v ≡ pos (at p v)
integer_potential p v = get_or-map pos p v 0

-- its part above 0 is that number
up_potential : (p : List ℕ) (v : ℕ) → up (potential (integers p) v) ≡ at p v
unfolding up
up_potential p v = ap up (integer_potential p v)

-- its part below 0 is none
down_potential : (p : List ℕ) (v : ℕ) → down (potential (integers p) v) ≡ 0
unfolding down
down_potential p v = ap down (integer_potential p v)

-- an upper bound that is legal is not past its kink
upper_bound_le : (u v : ℕ) (k d : ℤ) → T (legal_at (upper_bound u v k) d) → d ≤ℤ pos 0
upper_bound_le u v k (pos zero) t = le_z_yes tt
upper_bound_le u v k (pos (suc n)) t = absurd t
upper_bound_le u v k (negsuc n) t = le_z_yes tt

-- an upper bound that is not past its kink is legal
le_upper_bound : (u v : ℕ) (k d : ℤ) → d ≤ℤ pos 0 → T (legal_at (upper_bound u v k) d)
le_upper_bound u v k (pos zero) h = tt
le_upper_bound u v k (pos (suc n)) h = absurd (positive n (leb→le (suc n) 0 h.le))
  where
    positive : (n : ℕ) → suc n ≤ 0 → ⊥
    positive n h = omega arith
le_upper_bound u v k (negsuc n) h = tt

module _ (p : List ℕ) (u v : ℕ) where
  -- how far an arc from u to v is past its kink, as an equation of natural numbers
  pub past_kink_parts : (k : ℤ)
      → up (past_kink (integers p) (upper_bound u v k)) + (at p u + up k)
      ≡ down (past_kink (integers p) (upper_bound u v k)) + (at p v + down k)
  past_kink_parts k = omega (
    arith,
    minus_parts (potential (integers p) v -ℤ potential (integers p) u) k,
    minus_parts (potential (integers p) v) (potential (integers p) u),
    up_potential p u,
    down_potential p u,
    up_potential p v,
    down_potential p v,
  )

  -- a legal upper bound bounds its head's potential by its tail's
  pub upper_bound_at : (k : ℤ) → T (legal (integers p) (upper_bound u v k)) → at p v + down k ≤ at p u + up k
  unfolding up down
  upper_bound_at k t =
      omega (arith, past_kink_parts k, le_parts (upper_bound_le u v k (past_kink (integers p) (upper_bound u v k)) t))

  -- and an upper bound that the potentials meet is legal
  pub at_upper_bound : (k : ℤ) → at p v + down k ≤ at p u + up k → T (legal (integers p) (upper_bound u v k))
  unfolding up down
  at_upper_bound k h =
      le_upper_bound u v k (past_kink (integers p) (upper_bound u v k))
      (parts_le (past_kink (integers p) (upper_bound u v k)) (pos 0) (omega (arith, past_kink_parts k)))
