-- Laws of integers that the library lacks: how order, sum and product go together, and equality as a test. Orders and linear
-- equations by their parts; products by induction.
use Rattle.std.specs.Prelude.{ℕ, zero, suc, ◌≡◌, T, ℤ, pos, negsuc, neg_ℤ, ◌+ℤ◌, ◌-ℤ◌, ◌*ℤ◌, ◌≤ℤ◌}
use Rattle.std.proofs.Common.{sym, ◌∙◌, ap, subst, arith, eqb→eq}
use Rattle.std.proofs.Math.Dec.{eqb_refl}
use Rattle.std.proofs.Math.IntN.{suc_ℤ, pred_ℤ, +ℤ-suc_ℤ, +ℤ-pred_ℤ, +ℤ_assoc, +ℤ_idr, suc_ℤ-*ℤ, pred_ℤ-*ℤ, zero-*ℤ, *ℤ_comm, *ℤ-zero, +ℤ_invr, neg_ℤ-+ℤ}
use Rattle.std.specs.Int.Signed.{≤ℤ_refl}
use Rattle.network.specs.Integers.{gap, eqZ, down, up}
use Rattle.network.specs.laws.IntegerParts.{le_parts, parts_le, parts_eq, up_neg, down_neg, sum_parts, minus_parts}

-- the order is transitive
pub ≤ℤ_trans : {a b c : ℤ} → a ≤ℤ b → b ≤ℤ c → a ≤ℤ c
≤ℤ_trans {a} {b} {c} h k = parts_le a c (omega (arith, le_parts h, le_parts k))

-- the order is antisymmetric
pub ≤ℤ_antisym : {a b : ℤ} → a ≤ℤ b → b ≤ℤ a → a ≡ b
≤ℤ_antisym {a} {b} h k = parts_eq a b (omega (arith, le_parts h, le_parts k))

-- the order is reflexive
pub ≤ℤ_of_eq : {a b : ℤ} → a ≡ b → a ≤ℤ b
≤ℤ_of_eq {a} {b} e = subst (λ (c : ℤ). a ≤ℤ c) e (≤ℤ_refl a)

-- sums keep the order
pub +ℤ_mono : {a b c d : ℤ} → a ≤ℤ b → c ≤ℤ d → (a +ℤ c) ≤ℤ (b +ℤ d)
+ℤ_mono {a} {b} {c} {d} h k =
    parts_le (a +ℤ c) (b +ℤ d) (omega (arith, le_parts h, le_parts k, sum_parts a c, sum_parts b d))

-- a natural number makes no sum smaller
pub ≤ℤ_plus : (a : ℤ) (k : ℕ) → a ≤ℤ (a +ℤ pos k)
unfolding up down
≤ℤ_plus a k = parts_le a (a +ℤ pos k) (omega (arith, sum_parts a (pos k)))

-- 0 adds nothing
pub +ℤ_none : (a : ℤ) → a +ℤ pos 0 ≡ a
unfolding up down
+ℤ_none a = parts_eq (a +ℤ pos 0) a (omega (arith, sum_parts a (pos 0)))

-- what adds nothing is 0
pub plus_cancel : (a : ℤ) (k : ℕ) → a +ℤ pos k ≡ a → k ≡ 0
unfolding up down
plus_cancel a k e = omega (arith, simp e at (sum_parts a (pos k)))

-- the greater is the smaller and the gap
pub gap_is : {a b : ℤ} → a ≤ℤ b → b ≡ a +ℤ pos (gap a b)
unfolding gap up down
gap_is {a} {b} h = parts_eq b (a +ℤ pos (gap a b)) (omega (arith, le_parts h, sum_parts a (pos (gap a b))))

-- no gap: equal
pub gap_zero : {a b : ℤ} → a ≤ℤ b → gap a b ≡ 0 → a ≡ b
unfolding gap
gap_zero {a} {b} h e = parts_eq a b (omega (arith, le_parts h))

-- equal: no gap
pub gap_self : (a : ℤ) → gap a a ≡ 0
unfolding gap
gap_self a = omega arith

-- the terms of two sums, regrouped
pub +ℤ_swap : (a b c d : ℤ) → (a +ℤ b) +ℤ (c +ℤ d) ≡ (a +ℤ c) +ℤ (b +ℤ d)
+ℤ_swap a b c d = parts_eq ((a +ℤ b) +ℤ (c +ℤ d)) ((a +ℤ c) +ℤ (b +ℤ d))
    (omega (arith, sum_parts a b, sum_parts c d, sum_parts a c, sum_parts b d, sum_parts (a +ℤ b) (c +ℤ d), sum_parts (a +ℤ c) (b +ℤ d)))

-- the terms of two differences, regrouped
pub -ℤ_swap : (a b c d : ℤ) → (a -ℤ b) +ℤ (c -ℤ d) ≡ (a +ℤ c) -ℤ (b +ℤ d)
-ℤ_swap a b c d = +ℤ_swap a (neg_ℤ b) c (neg_ℤ d) ∙ ap (λ (z : ℤ). (a +ℤ c) +ℤ z) (sym (neg_ℤ-+ℤ b d))

-- a difference, taken to the other side
pub to_other_side : (a b c : ℤ) → a +ℤ (b -ℤ c) ≡ pos 0 → a ≡ c -ℤ b
unfolding up down
to_other_side a b c e = parts_eq a (c -ℤ b)
    (omega (arith, ap up e, ap down e, sum_parts a (b -ℤ c), minus_parts b c, minus_parts c b))

-- and back
pub from_other_side : (a b c : ℤ) → a ≡ c -ℤ b → a +ℤ (b -ℤ c) ≡ pos 0
unfolding up down
from_other_side a b c e = parts_eq (a +ℤ (b -ℤ c)) (pos 0)
    (omega (arith, ap up e, ap down e, sum_parts a (b -ℤ c), minus_parts b c, minus_parts c b))

-- a number whose sum with a is 0 is −a
pub negℤ_unique : (a b : ℤ) → a +ℤ b ≡ pos 0 → b ≡ neg_ℤ a
unfolding up down
negℤ_unique a b e = parts_eq b (neg_ℤ a) (rw (up_neg, down_neg) (omega (arith, simp e at (sum_parts a b))))

-- one more of b, in the law below
mul_suc : (a b c : ℤ) → (a +ℤ b) *ℤ c ≡ a *ℤ c +ℤ b *ℤ c → (a +ℤ suc_ℤ b) *ℤ c ≡ a *ℤ c +ℤ suc_ℤ b *ℤ c
mul_suc a b c e = simp (+ℤ-suc_ℤ, suc_ℤ-*ℤ, e, +ℤ_assoc)

-- one less of b
mul_pred : (a b c : ℤ) → (a +ℤ b) *ℤ c ≡ a *ℤ c +ℤ b *ℤ c → (a +ℤ pred_ℤ b) *ℤ c ≡ a *ℤ c +ℤ pred_ℤ b *ℤ c
mul_pred a b c e = simp (+ℤ-pred_ℤ, pred_ℤ-*ℤ, e, +ℤ_assoc)

-- a sum times a number
pub +ℤ-*ℤ : (a b c : ℤ) → (a +ℤ b) *ℤ c ≡ a *ℤ c +ℤ b *ℤ c
+ℤ-*ℤ a (pos zero) c = simp (+ℤ_idr, zero-*ℤ)
+ℤ-*ℤ a (pos (suc n)) c = mul_suc a (pos n) c (+ℤ-*ℤ a (pos n) c)
+ℤ-*ℤ a (negsuc zero) c = mul_pred a (pos zero) c (simp (+ℤ_idr, zero-*ℤ))
+ℤ-*ℤ a (negsuc (suc n)) c = mul_pred a (negsuc n) c (+ℤ-*ℤ a (negsuc n) c)

-- a number times a sum
pub *ℤ-+ℤ : (a b c : ℤ) → a *ℤ (b +ℤ c) ≡ a *ℤ b +ℤ a *ℤ c
*ℤ-+ℤ a b c = *ℤ_comm a (b +ℤ c) ∙ +ℤ-*ℤ b c a ∙ cc (*ℤ_comm b a, *ℤ_comm c a)

-- a number times a negation
pub *ℤ_negℤ : (a b : ℤ) → a *ℤ neg_ℤ b ≡ neg_ℤ (a *ℤ b)
*ℤ_negℤ a b = negℤ_unique (a *ℤ b) (a *ℤ neg_ℤ b) (sym (*ℤ-+ℤ a b (neg_ℤ b)) ∙ ap (λ (c : ℤ). a *ℤ c) (+ℤ_invr b) ∙ *ℤ-zero a)

-- a negation times a number
pub negℤ-*ℤ : (a b : ℤ) → neg_ℤ a *ℤ b ≡ neg_ℤ (a *ℤ b)
negℤ-*ℤ a b = *ℤ_comm (neg_ℤ a) b ∙ *ℤ_negℤ b a ∙ ap neg_ℤ (*ℤ_comm b a)

-- integers that are told to be the same are
pub eqZ→eq : (a b : ℤ) → T (eqZ a b) → a ≡ b
eqZ→eq (pos a) (pos b) t = ap pos (eqb→eq a b t)
eqZ→eq (pos a) (negsuc b) t = absurd t
eqZ→eq (negsuc a) (pos b) t = absurd t
eqZ→eq (negsuc a) (negsuc b) t = ap negsuc (eqb→eq a b t)

-- an integer is the same as itself
pub eqZ_refl : (a : ℤ) → T (eqZ a a)
eqZ_refl (pos a) = eqb_refl a
eqZ_refl (negsuc a) = eqb_refl a

-- equal integers are told to be the same
pub eq→eqZ : (a b : ℤ) → a ≡ b → T (eqZ a b)
eq→eqZ a b e = subst (λ (c : ℤ). T (eqZ a c)) e (eqZ_refl a)
