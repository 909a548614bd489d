-- A test of every number below a bound, as `all` over a range makes it.
use Rattle.std.specs.Prelude.{◌≡◌, ℕ, ◌<◌, Bool, true, false, length, get_or, MatchBool}
use Rattle.std.proofs.Common.{◌∙◌, arith, subst, sym}
use Rattle.std.proofs.lemmas.Iterator.{cases_from_all, YieldsList-from_range}
use Rattle.std.proofs.lemmas.List.FromFn.{length-range_with_len, get_or-range_with_len}
use Rattle.std.specs.List.{range_with_len, AllWithin, HoldsAt}
use Rattle.std.specs.Iterator.{ChecksAll}
use Rattle.std.proofs.iter.Yields.{nat_range_steps}
use Rattle.std.specs.declared.ops.Range.{Range}
use denote.Param.Members.{Mut, Called}
use Rattle.network.specs.Tested.{Tested}

-- the numbers below n, by index
range_at : (n i : ℕ) → i < n → get_or (range_with_len 0 n) i 0 ≡ i
range_at n i l = get_or-range_with_len 0 n i 0 l ∙ omega arith

module _ (P : ℕ → Type 0) (n : ℕ) where
  -- the two cases of `all`
  by_cases : (r : Bool)
      → MatchBool r (AllWithin P (range_with_len 0 n) 0 (length (range_with_len 0 n)))
      ((k : ℕ) × (k < length (range_with_len 0 n)) × HoldsAt (λ x. P x → ⊥) (range_with_len 0 n) k)
      → Tested ((i : ℕ) → i < n → P i) r
  by_cases true all = λ i l. subst P (range_at n i l) (all i 0 (omega arith) (omega (arith, length-range_with_len 0 n)))
  by_cases false some =
      λ each. let l : some.0 < n = omega (arith, length-range_with_len 0 n) in
      some.2 0 (subst P (sym (range_at n some.0 l)) (each some.0 l))

  -- `all` over the numbers below n, where the closure tests P and is left as it was
  pub all_tested : {F : Type 0} {g : Mut F (ℕ × Unit {0}) Bool} {s u : Range ℕ} {f : F} (r : Bool)
      → ChecksAll nat_range_steps g s f r u → s ≡ record { start = 0; end = n }
      → ((x : ℕ) (q : F) → Called g f (x, tt) true q → (q ≡ f) × P x)
      → ((x : ℕ) (q : F) → Called g f (x, tt) false q → P x → ⊥)
      → Tested ((i : ℕ) → i < n → P i) r
  all_tested {f = f} r ran e passed failed =
      by_cases r (cases_from_all _ f r P (λ x. P x → ⊥) ran (YieldsList-from_range 0 n n e (omega arith)) passed failed)
