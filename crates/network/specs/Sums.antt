-- Sums and tests over the elements of a list and over the numbers below one, and lists by index.
use Rattle.std.specs.Prelude.{ℕ, zero, suc, ◌+◌, Bool, true, cond, ◌&&◌, List, [], ◌∷◌, ◌++◌, eqb, ℤ, pos, ◌+ℤ◌}

module _ {A : Type 0} where
  -- the sum of f over the elements
  abbrev pub sum : (A → ℤ) → List A → ℤ
  sum f [] = pos 0
  sum f (x ∷ xs) = f x +ℤ sum f xs

  -- the same in natural numbers
  abbrev pub sumℕ : (A → ℕ) → List A → ℕ
  sumℕ f [] = 0
  sumℕ f (x ∷ xs) = f x + sumℕ f xs

  -- the test passes at each element
  abbrev pub all : (A → Bool) → List A → Bool
  all t [] = true
  all t (x ∷ xs) = t x && all t xs

  -- n elements: f 0, f 1, ..
  unfoldable pub upto : ℕ → (ℕ → A) → List A
  upto zero f = []
  upto (suc n) f = upto n f ++ (f n ∷ [])

-- the test passes at each number below n
abbrev pub below : ℕ → (ℕ → Bool) → Bool
below zero t = true
below (suc n) t = t n && below n t

-- x at u, and 0 at any other number
abbrev pub only : ℕ → ℤ → ℕ → ℤ
only u x v = cond (eqb u v) x (pos 0)

-- the sum of f over the numbers below n
unfoldable pub sum_to : ℕ → (ℕ → ℕ) → ℕ
sum_to zero f = 0
sum_to (suc n) f = f n + sum_to n f
