-- Complementary slackness as differences: a tight arc says at most two things, that its tension is at most the kink
-- unless the flow is the high limit, and at least the kink unless it is the low limit.
use Rattle.std.specs.Prelude.{ℕ, zero, suc, ◌≤◌, not, T, ℤ, pos, negsuc, ◌≤ℤ◌}
use Rattle.std.proofs.Common.{zero-le, arith, T_not, leb→le, le→leb}
use Rattle.std.specs.Int.Signed.{le_z_yes}
use Rattle.network.specs.Network.{reached, Arc}
use Rattle.network.specs.Flows.{tight_at}
use Rattle.network.specs.laws.Tests.{not_not}

module _ (a : Arc) (y : ℤ) where
  -- a tight arc whose flow is not the high limit is not past its kink
  pub tight_high : (d : ℤ) → T (tight_at a y d) → T (not (reached a.high y)) → d ≤ℤ pos 0
  tight_high (pos zero) t n = le_z_yes tt
  tight_high (pos (suc k)) t n = absurd (T_not (reached a.high y) n t)
  tight_high (negsuc k) t n = le_z_yes tt

  -- a tight arc whose flow is not the low limit is not before its kink
  pub tight_low : (d : ℤ) → T (tight_at a y d) → T (not (reached a.low y)) → pos 0 ≤ℤ d
  tight_low (pos k) t n = record { le = le→leb 0 k zero-le }
  tight_low (negsuc k) t n = absurd (T_not (reached a.low y) n t)

  -- and these are all that a tight arc says
  pub differences_tight : (d : ℤ) → (T (not (reached a.high y)) → d ≤ℤ pos 0) → (T (not (reached a.low y)) → pos 0 ≤ℤ d)
      → T (tight_at a y d)
  differences_tight (pos zero) f g = tt
  differences_tight (pos (suc k)) f g = not_not (reached a.high y) (λ n. positive k (leb→le (suc k) 0 (f n).le))
    where
      positive : (k : ℕ) → suc k ≤ 0 → ⊥
      positive k h = omega arith
  differences_tight (negsuc k) f g = not_not (reached a.low y) (λ n. (g n).le)
