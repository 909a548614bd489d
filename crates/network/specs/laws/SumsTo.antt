-- Sums over the numbers below one: order, a change at one index, sums of sums.
use Rattle.std.specs.Prelude.{◌≡◌, refl, ◌⊎◌, List, ℕ, zero, suc, ◌+◌, ◌*◌, ◌≤◌, ◌<◌, length, set}
use Rattle.std.proofs.Common.{sym, subst, ap, ◌∙◌, inl, inr, ⊎_elim, le_refl, eq-or-lt_of_le, le_of_suc-le-suc, suc-mul, arith, get_or-set_same, get_or-set_other}
use Rattle.std.proofs.Math.Decide.{ℕ_discrete}
use Rattle.network.specs.Sums.{sum_to}
use Rattle.network.specs.Net.{at}

-- an element after a store: the stored one, or another that is as it was
pub at_set : (v : List ℕ) (h x u : ℕ) → h < length v
    → ((u ≡ h) × (at (set v h x) u ≡ x)) ⊎ ((u ≡ h → ⊥) × (at (set v h x) u ≡ at v u))
at_set v h x u l = go (ℕ_discrete u h)
  where
    go : Dec (u ≡ h) → ((u ≡ h) × (at (set v h x) u ≡ x)) ⊎ ((u ≡ h → ⊥) × (at (set v h x) u ≡ at v u))
    go (yes e) = inl (e, subst (λ (k : ℕ). at (set v h x) k ≡ x) (sym e) (get_or-set_same v h x 0 l))
    go (no ne) = inr (ne, get_or-set_other v h u x 0 ne)

-- a number below n + 1 is n or below n
last_or : {P : Type 0} (n u : ℕ) → u < suc n → (u ≡ n → P) → (u < n → P) → P
last_or n u l here below = ⊎_elim here below (eq-or-lt_of_le (le_of_suc-le-suc l))

-- a sum of terms that are at most the other's
pub sum_to_le : (n : ℕ) (f g : ℕ → ℕ) → ((u : ℕ) → u < n → f u ≤ g u) → sum_to n f ≤ sum_to n g
unfolding sum_to
sum_to_le zero f g b = le_refl _
sum_to_le (suc n) f g b = omega (arith, b n (le_refl _), sum_to_le n f g (λ u u-in. b u (omega arith)))

-- and one of them is less
pub sum_to_lt : (n : ℕ) (f g : ℕ → ℕ) → ((u : ℕ) → u < n → f u ≤ g u) → (u : ℕ) → u < n → f u < g u → sum_to n f < sum_to n g
unfolding sum_to
sum_to_lt zero f g b u u-in l = omega arith
sum_to_lt (suc n) f g b u u-in l =
    last_or n u u-in
    (λ e. let l' : f n < g n = subst (λ (k : ℕ). f k < g k) e l in omega (arith, sum_to_le n f g (λ w w-in. b w (omega arith))))
    (λ below. omega (arith, b n (le_refl _), sum_to_lt n f g (λ w w-in. b w (omega arith)) u below l))

-- equal terms
pub sum_to_eq : (n : ℕ) (f g : ℕ → ℕ) → ((u : ℕ) → u < n → f u ≡ g u) → sum_to n f ≡ sum_to n g
unfolding sum_to
sum_to_eq zero f g b = refl
sum_to_eq (suc n) f g b = omega (arith, b n (le_refl _), sum_to_eq n f g (λ u u-in. b u (omega arith)))

-- the first term, and the others
pub sum_to_first : (n : ℕ) (f : ℕ → ℕ) → sum_to (suc n) f ≡ f 0 + sum_to n (λ i. f (suc i))
unfolding sum_to
sum_to_first zero f = refl
sum_to_first (suc n) f = omega (arith, sum_to_first n f)

-- a sum_to after a change at one place
pub sum_to_change : (n : ℕ) (f g : ℕ → ℕ) (u : ℕ) → u < n → ((w : ℕ) → w < n → (w ≡ u → ⊥) → f w ≡ g w)
    → sum_to n f + g u ≡ sum_to n g + f u
unfolding sum_to
sum_to_change zero f g u u-in others = omega arith
sum_to_change (suc n) f g u u-in others =
    last_or n u u-in
    (λ e.
    let f-e : f u ≡ f n = ap f e in
    let g-e : g u ≡ g n = ap g e in
    omega (arith, sum_to_eq n f g (λ w w-in. others w (omega arith) (omega arith))))
    (λ below. omega (arith, others n (le_refl _) (omega arith), sum_to_change n f g u below (λ w w-in ne. others w (omega arith) ne)))

-- a sum_to over a list's elements, after a store
pub sum_to_set : (n : ℕ) (F : ℕ → ℕ → ℕ) (v : List ℕ) (i a : ℕ) → i < n → i < length v
    → sum_to n (λ w. F w (at (set v i a) w)) + F i (at v i) ≡ sum_to n (λ w. F w (at v w)) + F i a
sum_to_set n F v i a l in_List =
    let same : F i (at (set v i a) i) ≡ F i a = ap (F i) (get_or-set_same v i a 0 in_List) in
    omega (arith, sum_to_change n (λ w. F w (at (set v i a) w)) (λ w. F w (at v w)) i l (λ w w-in ne. ap (F w) (get_or-set_other v i w a 0 ne)))

-- terms of 0
pub sum_to_zero : (n : ℕ) → sum_to n (λ u. 0) ≡ 0
unfolding sum_to
sum_to_zero zero = refl
sum_to_zero (suc n) = omega (arith, sum_to_zero n)

-- no more than the first n terms, where those behind them are 0
pub sum_to_rest : (n m : ℕ) (f : ℕ → ℕ) → n ≤ m → ((u : ℕ) → n ≤ u → u < m → f u ≡ 0) → sum_to m f ≡ sum_to n f
unfolding sum_to
sum_to_rest n zero f h none = let e : 0 ≡ n = omega arith in ap (λ (k : ℕ). sum_to k f) e
sum_to_rest n (suc m) f h none =
    ⊎_elim
    (λ (e : n ≡ suc m). ap (λ (k : ℕ). sum_to k f) (sym e))
    (λ (l : n < suc m).
    omega (arith, none m (omega arith) (le_refl _), sum_to_rest n m f (omega arith) (λ u a b. none u a (omega arith))))
    (eq-or-lt_of_le h)

-- the sum of two sums
pub sum_to_add : (n : ℕ) (f g : ℕ → ℕ) → sum_to n (λ u. f u + g u) ≡ sum_to n f + sum_to n g
unfolding sum_to
sum_to_add zero f g = refl
sum_to_add (suc n) f g = omega (arith, sum_to_add n f g)

-- sums of sums, the other way round
pub sum_to_swap : (n m : ℕ) (f : ℕ → ℕ → ℕ) → sum_to n (λ v. sum_to m (λ i. f v i)) ≡ sum_to m (λ i. sum_to n (λ v. f v i))
unfolding sum_to
sum_to_swap n zero f = sum_to_zero n
sum_to_swap n (suc m) f =
    sum_to_add n (λ v. f v m) (λ v. sum_to m (λ i. f v i)) ∙ ap (λ (k : ℕ). sum_to n (λ v. f v m) + k) (sum_to_swap n m f)

-- one term is at most the sum_to
pub sum_to_ge : (n : ℕ) (f : ℕ → ℕ) (u : ℕ) → u < n → f u ≤ sum_to n f
unfolding sum_to
sum_to_ge zero f u u-in = absurd (omega arith)
sum_to_ge (suc n) f u u-in =
    last_or n u u-in
    (λ e. let same : f u ≡ f n = ap f e in omega arith)
    (λ below. omega (arith, sum_to_ge n f u below))

-- n terms of at most a each
pub sum_to_bound : (n a : ℕ) (f : ℕ → ℕ) → ((u : ℕ) → u < n → f u ≤ a) → sum_to n f ≤ n * a
unfolding sum_to
sum_to_bound zero a f b = omega arith
sum_to_bound (suc n) a f b = omega (arith, b n (le_refl _), sum_to_bound n a f (λ u u-in. b u (omega arith)), suc-mul n a)
