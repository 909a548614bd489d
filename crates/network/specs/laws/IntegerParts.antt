-- An integer as a difference of two natural numbers, `up z` − `down z`. So an order or an equation of integers is one of
-- natural numbers, which `omega` proves.
use Rattle.std.specs.Prelude.{ℕ, zero, suc, ◌+◌, ◌-◌, ◌≤◌, ◌<◌, min, ◌≡◌, refl, true, false, not, cond, T, ltb, ℤ, pos, negsuc, neg_ℤ, ◌+ℤ◌, ◌-ℤ◌, ◌≤ℤ◌}
use Rattle.std.proofs.Common.{ap, arith, ltb→lt, nltb→le, leb→le, le→leb}
use Rattle.std.proofs.Math.IntN.{sub_ℕ}
use Rattle.network.specs.Integers.{up, down}

-- the order in the parts
pub le_parts : {a b : ℤ} → a ≤ℤ b → up a + down b ≤ up b + down a
unfolding up down
le_parts {a = pos a} {b = pos b} h = omega (arith, leb→le a b h.le)
le_parts {a = pos a} {b = negsuc b} h = absurd h.le
le_parts {a = negsuc a} {b = pos b} h = omega arith
le_parts {a = negsuc a} {b = negsuc b} h = omega (arith, leb→le b a h.le)

-- the order from the parts
pub parts_le : (a b : ℤ) → up a + down b ≤ up b + down a → a ≤ℤ b
unfolding up down
parts_le (pos a) (pos b) h = record { le = le→leb a b (omega arith) }
parts_le (pos a) (negsuc b) h = absurd (impossible a b h)
  where
    impossible : (a b : ℕ) → a + suc b ≤ 0 + 0 → ⊥
    impossible a b h = omega arith
parts_le (negsuc a) (pos b) h = record { le = tt }
parts_le (negsuc a) (negsuc b) h = record { le = le→leb b a (omega arith) }

-- equality from the parts
pub parts_eq : (a b : ℤ) → up a + down b ≡ up b + down a → a ≡ b
unfolding up down
parts_eq (pos a) (pos b) h = ap pos (omega arith)
parts_eq (pos a) (negsuc b) h = absurd (omega arith)
parts_eq (negsuc a) (pos b) h = absurd (omega arith)
parts_eq (negsuc a) (negsuc b) h = ap negsuc (omega arith)

-- the parts of a negation: its upper part
pub up_neg : (a : ℤ) → up (neg_ℤ a) ≡ down a
unfolding up down
up_neg (pos zero) = refl
up_neg (pos (suc n)) = refl
up_neg (negsuc n) = refl

-- and its lower part
pub down_neg : (a : ℤ) → down (neg_ℤ a) ≡ up a
unfolding up down
down_neg (pos zero) = refl
down_neg (pos (suc n)) = refl
down_neg (negsuc n) = refl

-- the parts of a difference of natural numbers
sub_parts : (a b : ℕ) → up (sub_ℕ a b) + b ≡ down (sub_ℕ a b) + a
unfolding up down
sub_parts a b = elim (ltb a b) as (λ c. (T c → a < b) → (T (not c) → b ≤ a)
    → up (cond c (negsuc (b - suc a)) (pos (a - b))) + b ≡ down (cond c (negsuc (b - suc a)) (pos (a - b))) + a)
    [ true ↦ λ f g. lower a b (f tt) | false ↦ λ f g. higher a b (g tt) ] (ltb→lt a b) (nltb→le a b)
  where
    lower : (a b : ℕ) → a < b → 0 + b ≡ suc (b - suc a) + a
    lower a b h = omega arith

    higher : (a b : ℕ) → b ≤ a → (a - b) + b ≡ 0 + a
    higher a b h = omega arith

-- the parts of a sum
pub sum_parts : (a b : ℤ) → up (a +ℤ b) + (down a + down b) ≡ down (a +ℤ b) + (up a + up b)
unfolding up down
sum_parts (pos a) (pos b) = omega arith
sum_parts (pos a) (negsuc b) = omega (arith, sub_parts a (suc b))
sum_parts (negsuc a) (pos b) = omega (arith, sub_parts b (suc a))
sum_parts (negsuc a) (negsuc b) = omega arith

-- the parts of a difference
pub minus_parts : (a b : ℤ) → up (a -ℤ b) + (down a + up b) ≡ down (a -ℤ b) + (up a + down b)
minus_parts a b = omega (arith, sum_parts a (neg_ℤ b), up_neg b, down_neg b)

-- of natural numbers
pub less_parts : (a b : ℕ) → up (pos a -ℤ pos b) + b ≡ down (pos a -ℤ pos b) + a
unfolding up down
less_parts a b = omega (arith, minus_parts (pos a) (pos b))

-- one of the parts is 0
pub min_parts : (a : ℤ) → min (up a) (down a) ≡ 0
unfolding up down
min_parts (pos n) = omega arith
min_parts (negsuc n) = omega arith
