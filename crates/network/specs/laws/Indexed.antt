-- Lists by index, as loops make and read them: one more element, and the element at an index, of a list, a test, a sum and
-- of a network's flows.
use Prim.Native.Nat.{ℕ, zero, suc, ◌+◌, ◌<◌, ◌≤◌}
use Rattle.std.specs.Prelude.{◌≡◌, Bool, T, ℤ, pos, length, get_or, drop}
use Rattle.std.proofs.Math.Path.{refl, ap, ap₂}
use Rattle.std.proofs.Common.{sym, ◌∙◌, le_of_suc-le-suc, not-suc-le-zero, arith, get_or-drop}
use mathlib.Core.List.{List, [], ◌∷◌, ◌++◌, map}
use Rattle.std.proofs.Math.Numerals.{add-one}
use Rattle.std.proofs.Math.ListN.{length-append, get_or-eq_default}
use Rattle.network.specs.Sums.{all, upto}
use Rattle.network.specs.Network.{Arc}
use Rattle.network.specs.Flows.{Flow, flows}
use Rattle.network.specs.laws.Tests.{and_left, and_right, and_both, all_append, Listed}

module _ {A : Type 0} where
  -- one more element
  pub upto_next : (n : ℕ) (f : ℕ → A) → upto (n + 1) f ≡ upto n f ++ (f n ∷ [])
  unfolding upto
  upto_next n f = rw add-one

  -- how many elements
  pub upto_length : (n : ℕ) (f : ℕ → A) → length (upto n f) ≡ n
  unfolding upto
  upto_length zero f = refl
  upto_length (suc n) f = length-append (upto n f) (f n ∷ []) ∙ omega (arith, upto_length n f)

  -- equal elements
  pub upto_ext : (n : ℕ) (f g : ℕ → A) → ((i : ℕ) → i < n → f i ≡ g i) → upto n f ≡ upto n g
  unfolding upto
  upto_ext zero f g e = refl
  upto_ext (suc n) f g e =
      ap₂ (λ (l : List A) (x : A). l ++ (x ∷ [])) (upto_ext n f g (λ i h. e i (omega arith))) (e n (omega arith))

  -- the first element, and the others
  pub upto_first : (n : ℕ) (f : ℕ → A) → upto (suc n) f ≡ f 0 ∷ upto n (λ i. f (suc i))
  unfolding upto
  upto_first zero f = refl
  upto_first (suc n) f = ap (λ (l : List A). l ++ (f (suc n) ∷ [])) (upto_first n f)

  -- a test that passes at each element, at an index
  pub all_at : (t : A → Bool) (xs : List A) (d : A) → T (all t xs) → (i : ℕ) → i < length xs → T (t (get_or xs i d))
  all_at t [] d a i h = absurd (not-suc-le-zero h)
  all_at t (x ∷ xs) d a zero h = and_left (t x) (all t xs) a
  all_at t (x ∷ xs) d a (suc i) h = all_at t xs d (and_right (t x) (all t xs) a) i (le_of_suc-le-suc h)

  -- a test that passes at each index
  pub at_all : (t : A → Bool) (xs : List A) (d : A) → ((i : ℕ) → i < length xs → T (t (get_or xs i d))) → T (all t xs)
  at_all t [] d f = tt
  at_all t (x ∷ xs) d f = and_both (t x) (all t xs) (f 0 (omega arith)) (at_all t xs d (λ i h. f (suc i) (omega arith)))

-- the flows are on the arcs, one on each
pub flows_on : (arcs : List Arc) (y : List ℤ) → map (λ f. f.on) (flows arcs y) ≡ arcs
flows_on [] y = refl
flows_on (a ∷ arcs) y = ap (λ (l : List Arc). a ∷ l) (flows_on arcs (drop 1 y))

-- the flows on arcs that are given by index: number i on arc i
pub flows_upto : (f : ℕ → Arc) (y : List ℤ) (n : ℕ)
    → flows (upto n f) y ≡ upto n (λ i. record { on = f i; amount = get_or y i (pos 0) })
unfolding upto
flows_upto f y zero = refl
flows_upto f y (suc n) =
    ap (λ (arcs : List Arc). flows arcs y) (upto_first n f)
    ∙ ap (λ (l : List Flow). record { on = f 0; amount = get_or y 0 (pos 0) } ∷ l)
    (flows_upto (λ i. f (suc i)) (drop 1 y) n ∙ upto_ext n _ _ (λ i h. next i))
    ∙ sym (upto_first n (λ i. record { on = f i; amount = get_or y i (pos 0) }))
  where
    next : (i : ℕ)
        → ◌≡◌ {A = Flow} (record { on = f (suc i); amount = get_or (drop 1 y) i (pos 0) })
        (record { on = f (suc i); amount = get_or y (suc i) (pos 0) })
    next i = ap (λ (x : ℤ). record { on = f (suc i); amount = x })
        (get_or-drop 1 y i (pos 0) ∙ ap (λ (k : ℕ). get_or y k (pos 0)) (omega arith))

module _ {A : Type 0} (t : A → Bool) where
  -- a test that each element by index passes
  pub all_upto : (n : ℕ) (f : ℕ → A) → ((i : ℕ) → i < n → T (t (f i))) → T (all t (upto n f))
  unfolding upto
  all_upto zero f h = tt
  all_upto (suc n) f h =
      rw (all_append t (upto n f) (f n ∷ []))
      (and_both (all t (upto n f)) (all t (f n ∷ [])) (all_upto n f (λ i l. h i (omega arith)))
      (and_both (t (f n)) (all t []) (h n (omega arith)) tt))

  -- each element by index passes a test that all pass
  pub upto_all : (n : ℕ) (f : ℕ → A) → T (all t (upto n f)) → (i : ℕ) → i < n → T (t (f i))
  upto_all zero f a i l = absurd (omega arith)
  upto_all (suc n) f a zero l = and_left (t (f 0)) (all t (upto n (λ i. f (suc i)))) (rw (upto_first n f) at a)
  upto_all (suc n) f a (suc i) l =
      upto_all n (λ i. f (suc i)) (and_right (t (f 0)) (all t (upto n (λ i. f (suc i)))) (rw (upto_first n f) at a)) i
      (omega arith)

-- which is an element
pub listed_upto : {A : Type 0} (n : ℕ) (f : ℕ → A) (i : ℕ) → i < n → Listed (f i) (upto n f)
listed_upto n f i l = record { passes = λ t a. upto_all t n f a i l }

-- an element by index
pub upto_in : {A : Type 0} (d : A) (n : ℕ) (f : ℕ → A) (i : ℕ) → i < n → get_or (upto n f) i d ≡ f i
upto_in d zero f i l = absurd (omega arith)
upto_in d (suc n) f zero l = rw (upto_first n f)
upto_in d (suc n) f (suc i) l = rw (upto_first n f) (upto_in d n (λ i. f (suc i)) i (omega arith))

-- behind the last element
pub upto_past : {A : Type 0} (d : A) (n : ℕ) (f : ℕ → A) (i : ℕ) → n ≤ i → get_or (upto n f) i d ≡ d
upto_past d n f i l = get_or-eq_default (upto n f) d (omega (arith, upto_length n f))
