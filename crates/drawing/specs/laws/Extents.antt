-- The least and the greatest of a list of integers bound all of them, and what holds of all of them holds of these two.
use Rattle.std.specs.Prelude.{List, [], ◌∷◌, not, ℕ, zero, suc, ◌<◌, T, length, ℤ, pos, negsuc, ◌≤ℤ◌}
use Rattle.std.proofs.Common.{le_of_suc-le-suc, not-suc-le-zero, arith, le→leb}
use Rattle.std.proofs.Math.Dec.{nleb→lt}
use Rattle.std.specs.Int.Signed.{le_z, le_z_yes, ≤ℤ_refl}
use Rattle.network.specs.laws.Tests.{chosen}
use Rattle.network.specs.laws.Integers.{≤ℤ_trans}
use Rattle.network.specs.Network.{potential}
use Rattle.drawing.specs.Assignment.{lesser, greater, least_of, greatest_of}

-- of two integers that are not in one order, the other order holds
not_le : (a b : ℤ) → T (not (le_z a b)) → T (le_z b a)
not_le (pos a) (pos b) t = le→leb b a (omega (arith, nleb→lt a b t))
not_le (pos a) (negsuc b) t = tt
not_le (negsuc a) (pos b) t = absurd t
not_le (negsuc a) (negsuc b) t = le→leb a b (omega (arith, nleb→lt b a t))

module _ (a b : ℤ) where
  -- the lesser of two is at most the first
  lesser_left : lesser a b ≤ℤ a
  lesser_left = chosen (λ z. z ≤ℤ a) (le_z a b) a b (λ t. ≤ℤ_refl a) (λ n. le_z_yes (not_le a b n))

  -- and at most the second
  lesser_right : lesser a b ≤ℤ b
  lesser_right = chosen (λ z. z ≤ℤ b) (le_z a b) a b (λ t. le_z_yes t) (λ n. ≤ℤ_refl b)

  -- the greater of two is at least the first
  greater_left : a ≤ℤ greater a b
  greater_left = chosen (λ z. a ≤ℤ z) (le_z a b) b a (λ t. le_z_yes t) (λ n. ≤ℤ_refl a)

  -- and at least the second
  greater_right : b ≤ℤ greater a b
  greater_right = chosen (λ z. b ≤ℤ z) (le_z a b) b a (λ t. ≤ℤ_refl b) (λ n. le_z_yes (not_le a b n))

-- the least of a list is at most each of its numbers
pub least_le : (x : List ℤ) (v : ℕ) → v < length x → least_of x ≤ℤ potential x v
least_le [] v h = absurd (not-suc-le-zero h)
least_le (a ∷ []) zero h = ≤ℤ_refl a
least_le (a ∷ []) (suc v) h = absurd (not-suc-le-zero (le_of_suc-le-suc h))
least_le (a ∷ b ∷ x) zero h = lesser_left a (least_of (b ∷ x))
least_le (a ∷ b ∷ x) (suc v) h = ≤ℤ_trans (lesser_right a (least_of (b ∷ x))) (least_le (b ∷ x) v (le_of_suc-le-suc h))

-- the greatest of a list is at least each of its numbers
pub le_greatest : (x : List ℤ) (v : ℕ) → v < length x → potential x v ≤ℤ greatest_of x
le_greatest [] v h = absurd (not-suc-le-zero h)
le_greatest (a ∷ []) zero h = ≤ℤ_refl a
le_greatest (a ∷ []) (suc v) h = absurd (not-suc-le-zero (le_of_suc-le-suc h))
le_greatest (a ∷ b ∷ x) zero h = greater_left a (greatest_of (b ∷ x))
le_greatest (a ∷ b ∷ x) (suc v) h = ≤ℤ_trans (le_greatest (b ∷ x) v (le_of_suc-le-suc h)) (greater_right a (greatest_of (b ∷ x)))

-- a property of 0, which stands for the least and the greatest of none
module _ (P : ℤ → Type 0) (none : P (pos 0)) where
  -- what holds of every number holds of the least
  pub least_is : (x : List ℤ) → ((v : ℕ) → P (potential x v)) → P (least_of x)
  least_is [] f = none
  least_is (a ∷ []) f = f 0
  least_is (a ∷ b ∷ x) f =
      let rest : ℤ = least_of (b ∷ x) in
      chosen P (le_z a rest) a rest (λ t. f 0) (λ n. least_is (b ∷ x) (λ v. f (suc v)))

  -- and of the greatest
  pub greatest_is : (x : List ℤ) → ((v : ℕ) → P (potential x v)) → P (greatest_of x)
  greatest_is [] f = none
  greatest_is (a ∷ []) f = f 0
  greatest_is (a ∷ b ∷ x) f =
      let rest : ℤ = greatest_of (b ∷ x) in
      chosen P (le_z a rest) rest a (λ t. greatest_is (b ∷ x) (λ v. f (suc v))) (λ n. f 0)
