-- Tests as facts: of two tests, of the numbers below one, and of the elements of a list.
use Rattle.std.specs.Prelude.{ℕ, zero, suc, ◌<◌, ◌≡◌, Bool, true, false, not, cond, ◌&&◌, ◌||◌, ◌⊎◌, T}
use Rattle.std.proofs.Math.Path.{refl, ap, fun_ext}
use Rattle.std.proofs.Common.{sym, ◌∙◌, ap₂, subst, inl, inr, not-suc-le-zero, arith}
use Rattle.std.proofs.Math.Bool.{and_assoc}
use mathlib.Core.List.{List, [], ◌∷◌, ◌++◌, map, flat_map}
use Rattle.std.proofs.Math.Decide.{ℕ_discrete}
use Rattle.network.specs.Sums.{all, below}

-- the first of two tests that both pass
pub and_left : (a b : Bool) → T (a && b) → T a
and_left true b t = tt
and_left false b t = t

-- the second
pub and_right : (a b : Bool) → T (a && b) → T b
and_right true b t = t
and_right false b t = absurd t

-- two tests that pass
pub and_both : (a b : Bool) → T a → T b → T (a && b)
and_both true b s t = t
and_both false b s t = s

-- a test of which the first passes
pub or_left : (a b : Bool) → T a → T (a || b)
or_left true b t = tt
or_left false b t = absurd t

-- of which the second passes
pub or_right : (a b : Bool) → T b → T (a || b)
or_right true b t = tt
or_right false b t = t

-- one of two tests passes
pub either : (a b : Bool) → T (a || b) → T a ⊎ T b
either true b t = inl tt
either false b t = inr t

-- a test that passes
pub is_true : (b : Bool) → T b → b ≡ true
is_true true t = refl
is_true false t = absurd t

-- a test that fails
pub is_false : (b : Bool) → T (not b) → b ≡ false
is_false true t = absurd t
is_false false t = refl

-- a test that cannot pass fails
pub fails : (b : Bool) → (T b → ⊥) → T (not b)
fails true f = f tt
fails false f = tt

-- no test passes and fails
pub not_both : (b : Bool) → T b → T (not b) → ⊥
not_both true t n = n
not_both false t n = t

-- tests that pass in the same cases are equal
pub test_ext : (a b : Bool) → (T a → T b) → (T b → T a) → a ≡ b
test_ext true true f g = refl
test_ext true false f g = absurd (f tt)
test_ext false true f g = absurd (g tt)
test_ext false false f g = refl

-- a test that cannot fail passes
pub not_not : (b : Bool) → (T (not b) → ⊥) → T b
not_not true f = tt
not_not false f = f tt

-- what holds of a choice, by its two cases
pub chosen : {A : Type 0} (P : A → Type 0) (b : Bool) (x y : A) → (T b → P x) → (T (not b) → P y) → P (cond b x y)
chosen P true x y f g = f tt
chosen P false x y f g = g tt

-- a test that passes below n, at a number there
pub below_at : (n : ℕ) (t : ℕ → Bool) → T (below n t) → (v : ℕ) → v < n → T (t v)
below_at zero t a v h = absurd (not-suc-le-zero h)
below_at (suc n) t a v h = elim (ℕ_discrete v n) [
  | yes e ↦ subst (λ (u : ℕ). T (t u)) (sym e) (and_left (t n) (below n t) a)
  | no ne ↦ below_at n t (and_right (t n) (below n t) a) v (smaller v n h ne)
]
  where
    smaller : (v n : ℕ) → v < suc n → (v ≡ n → ⊥) → v < n
    smaller v n h ne = omega arith

-- a test that passes at each number below n
pub at_below : (n : ℕ) (t : ℕ → Bool) → ((v : ℕ) → v < n → T (t v)) → T (below n t)
at_below zero t f = tt
at_below (suc n) t f = and_both (t n) (below n t) (f n (omega arith)) (at_below n t (λ v h. f v (omega arith)))

-- tests that are equal at each number below n
pub below_ext : (s t : ℕ → Bool) (n : ℕ) → ((v : ℕ) → v < n → s v ≡ t v) → below n s ≡ below n t
below_ext s t zero e = refl
below_ext s t (suc n) e = ap₂ ◌&&◌ (e n (omega arith)) (below_ext s t n (λ v h. e v (omega arith)))

module _ {A : Type 0} where
  -- a test that passes where two others do
  pub all_map₂ : (s t r : A → Bool) → ((x : A) → T (s x) → T (t x) → T (r x))
      → (xs : List A) → T (all s xs) → T (all t xs) → T (all r xs)
  all_map₂ s t r e [] a b = tt
  all_map₂ s t r e (x ∷ xs) a b =
      and_both (r x) (all r xs) (e x (and_left (s x) (all s xs) a) (and_left (t x) (all t xs) b))
      (all_map₂ s t r e xs (and_right (s x) (all s xs) a) (and_right (t x) (all t xs) b))

  -- a test that passes where another does
  pub all_map : (s t : A → Bool) → ((x : A) → T (s x) → T (t x)) → (xs : List A) → T (all s xs) → T (all t xs)
  all_map s t e xs a = all_map₂ s s t (λ x i j. e x i) xs a a

  -- tests that are equal
  pub all_ext : (s t : A → Bool) → ((x : A) → s x ≡ t x) → (xs : List A) → all s xs ≡ all t xs
  all_ext s t e xs = ap (λ (r : A → Bool). all r xs) (fun_ext e)

  -- two tests at each element
  pub all_and : (s t : A → Bool) (xs : List A) → all (λ x. s x && t x) xs ≡ (all s xs && all t xs)
  all_and s t xs = test_ext (all (λ x. s x && t x) xs) (all s xs && all t xs)
      (λ h. and_both (all s xs) (all t xs) (all_map (λ x. s x && t x) s (λ x. and_left (s x) (t x)) xs h)
      (all_map (λ x. s x && t x) t (λ x. and_right (s x) (t x)) xs h))
      (λ h. all_map₂ s t (λ x. s x && t x) (λ x. and_both (s x) (t x)) xs
      (and_left (all s xs) (all t xs) h) (and_right (all s xs) (all t xs) h))

  -- a test over lists put together
  pub all_append : (t : A → Bool) (xs ys : List A) → all t (xs ++ ys) ≡ (all t xs && all t ys)
  all_append t [] ys = refl
  all_append t (x ∷ xs) ys = ap (λ (b : Bool). t x && b) (all_append t xs ys) ∙ sym (and_assoc (t x) (all t xs) (all t ys))

-- x is an element of a list: whatever test all elements pass, x passes
pub record Listed {A : Type 0} (x : A) (xs : List A) : Type 0 where
  pub passes : (t : A → Bool) → T (all t xs) → T (t x)

module _ {A : Type 0} where
  -- the first element
  pub listed_here : (x : A) (xs : List A) → Listed x (x ∷ xs)
  listed_here x xs = record { passes = λ t a. and_left (t x) (all t xs) a }

  -- a later one
  pub listed_later : {x : A} (z : A) (xs : List A) → Listed x xs → Listed x (z ∷ xs)
  listed_later z xs m = record { passes = λ t a. m.passes t (and_right (t z) (all t xs) a) }

  -- an element of the first of two lists
  pub listed_first : {x : A} (xs ys : List A) → Listed x xs → Listed x (xs ++ ys)
  listed_first xs ys m = record { passes = λ t a. m.passes t (and_left (all t xs) (all t ys) (rw (all_append t xs ys) at a)) }

  -- of the second
  pub listed_second : {x : A} (xs ys : List A) → Listed x ys → Listed x (xs ++ ys)
  listed_second xs ys m = record { passes = λ t a. m.passes t (and_right (all t xs) (all t ys) (rw (all_append t xs ys) at a)) }

module _ {A B : Type 0} where
  -- a test over an image
  pub all_image : (t : A → Bool) (g : B → A) (xs : List B) → all t (map g xs) ≡ all (λ x. t (g x)) xs
  all_image t g [] = refl
  all_image t g (x ∷ xs) = ap (λ (b : Bool). t (g x) && b) (all_image t g xs)

  -- a test over the lists of a list
  pub all_flat : (t : A → Bool) (g : B → List A) (xs : List B) → all t (flat_map g xs) ≡ all (λ x. all t (g x)) xs
  unfolding flat_map
  all_flat t g [] = refl
  all_flat t g (x ∷ xs) = all_append t (g x) (flat_map g xs) ∙ ap (λ (b : Bool). all t (g x) && b) (all_flat t g xs)

  -- an element of one of the lists of a list
  pub listed_flat : (g : B → List A) {z : B} (zs : List B) {x : A} → Listed z zs → Listed x (g z) → Listed x (flat_map g zs)
  listed_flat g zs i m = record { passes = λ t a. m.passes t (i.passes (λ z. all t (g z)) (rw (all_flat t g zs) at a)) }
