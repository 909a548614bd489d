-- Values lowered by 1 above a threshold, and how many stand up to it: the two notions of both arguments by a solution of
-- smaller sum.
use Rattle.network.specs.Sums.{sum_to}
use mathlib.Core.Path.{◌≡◌, refl}
use mathlib.Core.Bool.{cond}
use mathlib.Core.Logic.{◌⊎◌, inl, inr}
use Prim.Native.Nat.{ℕ, zero, suc, ◌+◌, ◌-◌, ◌≤◌, ◌<◌}
use native.Mathlib.Decide.{ℕ_discrete, dec_lt}
use native.Mathlib.Omega.{arith}
use borrow.Author.Tests.{lt-ltb, le-ltb, eq-eqb, ne_eqb}
use lib.Dec.{ltb, eqb}

-- n ones
pub sum_ones : (n : ℕ) → sum_to n (λ u. 1) ≡ n
unfolding sum_to
sum_ones zero = refl
sum_ones (suc n) = omega (arith, sum_ones n)

-- 1 where two numbers are equal, else 0
pub same : ℕ → ℕ → ℕ
same a b = cond (eqb a b) 1 0

-- its value at equal numbers
pub same_yes : (a b : ℕ) → a ≡ b → same a b ≡ 1
unfolding same
same_yes a b e = rw (eq-eqb a b e)

-- its value at others
pub same_no : (a b : ℕ) → (a ≡ b → ⊥) → same a b ≡ 0
unfolding same
same_no a b ne = rw (ne_eqb a b ne)

-- it is at most 1
pub same_le : (a b : ℕ) → same a b ≤ 1
same_le a b = go (ℕ_discrete a b)
  where
    go : Dec (a ≡ b) → same a b ≤ 1
    go (yes e) = omega (arith, same_yes a b e)
    go (no ne) = omega (arith, same_no a b ne)

-- it grows where an equation is kept
pub same_mono : (a b c d : ℕ) → (a ≡ b → c ≡ d) → same a b ≤ same c d
same_mono a b c d f = go (ℕ_discrete a b)
  where
    go : Dec (a ≡ b) → same a b ≤ same c d
    go (yes e) = omega (arith, same_yes a b e, same_yes c d (f e))
    go (no ne) = omega (arith, same_no a b ne)

-- 0 where a number is above the threshold, else 1
pub upto : ℕ → ℕ → ℕ
upto t x = cond (ltb t x) 0 1

-- its value above the threshold
pub upto_above : (t x : ℕ) → t < x → upto t x ≡ 0
unfolding upto
upto_above t x l = rw (lt-ltb t x l)

-- its value up to it
pub upto_within : (t x : ℕ) → x ≤ t → upto t x ≡ 1
unfolding upto
upto_within t x l = rw (le-ltb t x l)

-- it is at most 1
pub upto_le : (t x : ℕ) → upto t x ≤ 1
upto_le t x = go (dec_lt t x)
  where
    go : Dec (t < x) → upto t x ≤ 1
    go (yes l) = omega (arith, upto_above t x l)
    go (no l) = omega (arith, upto_within t x (omega arith))

-- it grows with the threshold
pub upto_mono : (t k x : ℕ) → upto t x ≤ upto (t + k) x
upto_mono t k x = go (dec_lt t x)
  where
    go : Dec (t < x) → upto t x ≤ upto (t + k) x
    go (yes l) = omega (arith, upto_above t x l)
    go (no l) = omega (arith, upto_within t x (omega arith), upto_within (t + k) x (omega arith))

-- one less where b is above a
pub lowered : ℕ → ℕ → ℕ
lowered a b = cond (ltb a b) (b - 1) b

-- a number is lowered, or stays
pub lowered_cases : (a b : ℕ) → ((a < b) × (lowered a b + 1 ≡ b)) ⊎ ((b ≤ a) × (lowered a b ≡ b))
unfolding lowered
lowered_cases a b = go (dec_lt a b)
  where
    go : Dec (a < b) → ((a < b) × (lowered a b + 1 ≡ b)) ⊎ ((b ≤ a) × (lowered a b ≡ b))
    go (yes less) = inl (less, rw (lt-ltb a b less) (omega arith))
    go (no not-less) = inr (omega arith, rw (le-ltb a b (omega arith)) refl)

-- a constraint x + a ≤ y + b after both ends are lowered, each by its threshold: the gap is needed only where the second
-- alone is lowered
pub lowered_meets : (s t x y a b : ℕ) → x + a ≤ y + b → (x ≤ s → t < y → x + a < y + b) → lowered s x + a ≤ lowered t y + b
lowered_meets s t x y a b m gap = go (lowered_cases s x) (lowered_cases t y)
  where
    go : ((s < x) × (lowered s x + 1 ≡ x)) ⊎ ((x ≤ s) × (lowered s x ≡ x))
        → ((t < y) × (lowered t y + 1 ≡ y)) ⊎ ((y ≤ t) × (lowered t y ≡ y)) → lowered s x + a ≤ lowered t y + b
    go (inl f) (inl g) = omega (arith, f.1, g.1)
    go (inl f) (inr g) = omega (arith, f.1, g.1)
    go (inr f) (inr g) = omega (arith, f.1, g.1)
    go (inr f) (inl g) = omega (arith, f.1, g.1, gap f.0 g.0)
