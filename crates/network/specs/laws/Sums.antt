-- Laws of sums over a list: of sums, differences and multiples of terms, of terms that are equal or that differ by natural
-- numbers where tests pass, and of lists put together.
use Rattle.std.specs.Prelude.{ℕ, ◌+◌, ◌≡◌, Bool, T, ℤ, pos, ◌+ℤ◌, ◌-ℤ◌, ◌*ℤ◌}
use Rattle.std.proofs.Math.Path.{refl, ap, fun_ext}
use Rattle.std.proofs.Common.{sym, ◌∙◌, ap₂, arith}
use mathlib.Core.List.{List, [], ◌∷◌, ◌++◌, map, flat_map}
use Rattle.std.proofs.Math.IntN.{+ℤ_idl, +ℤ_assoc, *ℤ-zero}
use Rattle.network.specs.Sums.{sum, sumℕ, all}
use Rattle.network.specs.laws.Integers.{+ℤ_swap, -ℤ_swap, *ℤ-+ℤ}
use Rattle.network.specs.laws.Tests.{and_left, and_right, and_both}

module _ {A : Type 0} where
  -- a sum of sums
  pub sum_add : (f g : A → ℤ) (xs : List A) → sum (λ x. f x +ℤ g x) xs ≡ sum f xs +ℤ sum g xs
  sum_add f g [] = refl
  sum_add f g (x ∷ xs) = rw (sum_add f g xs) (+ℤ_swap (f x) (g x) (sum f xs) (sum g xs))

  -- a sum of differences
  pub sum_sub : (f g : A → ℤ) (xs : List A) → sum (λ x. f x -ℤ g x) xs ≡ sum f xs -ℤ sum g xs
  sum_sub f g [] = refl
  sum_sub f g (x ∷ xs) = rw (sum_sub f g xs) (-ℤ_swap (f x) (g x) (sum f xs) (sum g xs))

  -- a sum of multiples
  pub sum_times : (k : ℤ) (f : A → ℤ) (xs : List A) → sum (λ x. k *ℤ f x) xs ≡ k *ℤ sum f xs
  sum_times k f [] = sym (*ℤ-zero k)
  sum_times k f (x ∷ xs) = ap (λ (z : ℤ). k *ℤ f x +ℤ z) (sum_times k f xs) ∙ sym (*ℤ-+ℤ k (f x) (sum f xs))

  -- where f is g and a natural number h more at each element that passes two tests, so are the sums
  pub sum_more : (s t : A → Bool) (f g : A → ℤ) (h : A → ℕ)
      → ((x : A) → T (s x) → T (t x) → f x ≡ g x +ℤ pos (h x))
      → (xs : List A) → T (all s xs) → T (all t xs) → sum f xs ≡ sum g xs +ℤ pos (sumℕ h xs)
  sum_more s t f g h e [] a b = refl
  sum_more s t f g h e (x ∷ xs) a b =
      rw (
        e x (and_left (s x) (all s xs) a) (and_left (t x) (all t xs) b),
        sum_more s t f g h e xs (and_right (s x) (all s xs) a) (and_right (t x) (all t xs) b),
      )
      (+ℤ_swap (g x) (pos (h x)) (sum g xs) (pos (sumℕ h xs)))

  -- terms that are equal
  pub sum_ext : (f g : A → ℤ) → ((x : A) → f x ≡ g x) → (xs : List A) → sum f xs ≡ sum g xs
  sum_ext f g e xs = ap (λ (k : A → ℤ). sum k xs) (fun_ext e)

  -- natural terms that are equal where a test passes
  pub sumℕ_ext : (t : A → Bool) (f g : A → ℕ) → ((x : A) → T (t x) → f x ≡ g x)
      → (xs : List A) → T (all t xs) → sumℕ f xs ≡ sumℕ g xs
  sumℕ_ext t f g e [] a = refl
  sumℕ_ext t f g e (x ∷ xs) a = ap₂ ◌+◌ (e x (and_left (t x) (all t xs) a)) (sumℕ_ext t f g e xs (and_right (t x) (all t xs) a))

  -- integers that are natural numbers where a test passes
  pub sum_pos : (t : A → Bool) (f : A → ℤ) (h : A → ℕ) → ((x : A) → T (t x) → f x ≡ pos (h x))
      → (xs : List A) → T (all t xs) → sum f xs ≡ pos (sumℕ h xs)
  sum_pos t f h e [] a = refl
  sum_pos t f h e (x ∷ xs) a = ap₂ ◌+ℤ◌ (e x (and_left (t x) (all t xs) a)) (sum_pos t f h e xs (and_right (t x) (all t xs) a))

  -- terms that are 0
  pub sum_null : (f : A → ℤ) → ((x : A) → f x ≡ pos 0) → (xs : List A) → sum f xs ≡ pos 0
  sum_null f e [] = refl
  sum_null f e (x ∷ xs) = ap₂ ◌+ℤ◌ (e x) (sum_null f e xs)

  -- natural terms that are 0 where a test passes
  pub sum_zero : (t : A → Bool) (h : A → ℕ) → ((x : A) → T (t x) → h x ≡ 0) → (xs : List A) → T (all t xs) → sumℕ h xs ≡ 0
  sum_zero t h e [] a = refl
  sum_zero t h e (x ∷ xs) a = omega (arith, e x (and_left (t x) (all t xs) a), sum_zero t h e xs (and_right (t x) (all t xs) a))

  -- and back: where a sum of natural terms is 0, each term is
  pub zero_sum : (s t r : A → Bool) (h : A → ℕ) → ((x : A) → T (s x) → T (t x) → h x ≡ 0 → T (r x))
      → (xs : List A) → T (all s xs) → T (all t xs) → sumℕ h xs ≡ 0 → T (all r xs)
  zero_sum s t r h e [] a b z = tt
  zero_sum s t r h e (x ∷ xs) a b z =
      and_both (r x) (all r xs) (e x (and_left (s x) (all s xs) a) (and_left (t x) (all t xs) b) (omega arith))
      (zero_sum s t r h e xs (and_right (s x) (all s xs) a) (and_right (t x) (all t xs) b) (omega arith))

  -- a sum over lists put together
  pub sum_append : (f : A → ℤ) (xs ys : List A) → sum f (xs ++ ys) ≡ sum f xs +ℤ sum f ys
  sum_append f [] ys = sym (+ℤ_idl (sum f ys))
  sum_append f (x ∷ xs) ys = ap (λ (z : ℤ). f x +ℤ z) (sum_append f xs ys) ∙ sym (+ℤ_assoc (f x) (sum f xs) (sum f ys))

module _ {A B : Type 0} where
  -- a sum over an image
  pub sum_image : (f : A → ℤ) (g : B → A) (xs : List B) → sum f (map g xs) ≡ sum (λ x. f (g x)) xs
  sum_image f g [] = refl
  sum_image f g (x ∷ xs) = ap (λ (z : ℤ). f (g x) +ℤ z) (sum_image f g xs)

  -- a sum over the lists of a list
  pub sum_flat : (f : A → ℤ) (g : B → List A) (xs : List B) → sum f (flat_map g xs) ≡ sum (λ x. sum f (g x)) xs
  unfolding flat_map
  sum_flat f g [] = refl
  sum_flat f g (x ∷ xs) = sum_append f (g x) (flat_map g xs) ∙ ap (λ (z : ℤ). sum f (g x) +ℤ z) (sum_flat f g xs)
