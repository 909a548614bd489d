-- A test of each element is a test of their list. And one more term of a sum.
use Prim.Native.Nat.{ℕ, zero, suc, ◌+◌, ◌<◌}
use mathlib.Core.Path.{◌≡◌, refl, sym, ◌∙◌, ap, ap₂}
use mathlib.Core.Bool.{Bool, true, false, ◌&&◌, and-true, and-false, and_comm}
use mathlib.Core.List.{[], ◌∷◌}
use native.Mathlib.Decide.{ℕ_discrete}
use native.Mathlib.Numerals.{add-one}
use native.Mathlib.Omega.{arith}
use lib.IntN.{ℤ, pos, ◌+ℤ◌, +ℤ_idr}
use Rattle.network.specs.Sums.{all, sum, below, upto}
use Rattle.network.specs.Tested.{Tested}
use Rattle.network.specs.laws.Tests.{all_append}
use Rattle.network.specs.laws.Sums.{sum_append}
use Rattle.network.specs.laws.Indexed.{upto_next}

-- a number below the last
before : (i n : ℕ) → i < suc n → (i ≡ n → ⊥) → i < n
before i n h ne = omega arith

-- two constructors
false_true : false ≡ true → ⊥
false_true e = cc

module _ {A : Type 0} where
  -- a test at one more element
  all_next : (t : A → Bool) (f : ℕ → A) (i : ℕ) → all t (upto (i + 1) f) ≡ (all t (upto i f) && t (f i))
  all_next t f i =
      ap (all t) (upto_next i f) ∙ all_append t (upto i f) (f i ∷ [])
      ∙ ap (λ (b : Bool). all t (upto i f) && b) (and-true (t (f i)))

  -- the same, where the last one is named
  all_suc : (t : A → Bool) (f : ℕ → A) (i : ℕ) → all t (upto (suc i) f) ≡ (all t (upto i f) && t (f i))
  all_suc t f i = ap (λ (k : ℕ). all t (upto k f)) (sym (add-one i)) ∙ all_next t f i

  -- a test that fails at an element
  all_false : (t : A → Bool) (f : ℕ → A) (n i : ℕ) → i < n → t (f i) ≡ false → all t (upto n f) ≡ false
  all_false t f zero i h e = absurd (omega arith)
  all_false t f (suc n) i h e =
      all_suc t f n
      ∙ elim (ℕ_discrete i n) [
        | yes same ↦ ap (λ (b : Bool). all t (upto n f) && b) (ap (λ (k : ℕ). t (f k)) (sym same) ∙ e) ∙ and-false (all t (upto n f))
        | no ne ↦ ap (λ (b : Bool). b && t (f n)) (all_false t f n i (before i n h ne) e)
      ]

  -- a test that no element fails
  all_true : (t : A → Bool) (f : ℕ → A) (n : ℕ) → ((i : ℕ) → i < n → t (f i) ≡ true) → all t (upto n f) ≡ true
  unfolding upto
  all_true t f zero p = refl
  all_true t f (suc n) p = all_suc t f n ∙ ap₂ ◌&&◌ (all_true t f n (λ i h. p i (omega arith))) (p n (omega arith))

  -- a test that all pass is one that each passes
  each_true : (t : A → Bool) (f : ℕ → A) (n i : ℕ) (b : Bool) → t (f i) ≡ b → i < n → all t (upto n f) ≡ true → t (f i) ≡ true
  each_true t f n i true e h p = e
  each_true t f n i false e h p = absurd (false_true (sym (all_false t f n i h e) ∙ p))

  -- whether each of the first n elements passes is the test of their list
  pub all_is : (t : A → Bool) (f : ℕ → A) (n : ℕ) (r : Bool) → Tested ((i : ℕ) → i < n → t (f i) ≡ true) r → r ≡ all t (upto n f)
  all_is t f n true p = sym (all_true t f n p)
  all_is t f n false p = none (all t (upto n f)) refl
    where
      none : (b : Bool) → all t (upto n f) ≡ b → false ≡ all t (upto n f)
      none true e = absurd (p (λ i h. each_true t f n i (t (f i)) refl h e))
      none false e = sym e

  -- a sum of no term
  pub sum_none : (g : A → ℤ) (f : ℕ → A) → sum g (upto 0 f) ≡ pos 0
  unfolding upto
  sum_none g f = refl

  -- a sum of one term more
  pub sum_next : (g : A → ℤ) (f : ℕ → A) (i : ℕ) → sum g (upto (i + 1) f) ≡ sum g (upto i f) +ℤ g (f i)
  sum_next g f i =
      ap (sum g) (upto_next i f) ∙ sum_append g (upto i f) (f i ∷ [])
      ∙ ap (λ (z : ℤ). sum g (upto i f) +ℤ z) (+ℤ_idr (g (f i)))

-- a test of the numbers below n, as a test of a list
pub all_below : (t : ℕ → Bool) (n : ℕ) → all t (upto n (λ i. i)) ≡ below n t
unfolding upto
all_below t zero = refl
all_below t (suc n) = all_suc t (λ i. i) n ∙ ap (λ (b : Bool). b && t n) (all_below t n) ∙ and_comm (below n t) (t n)
