-- What `find` over a range finds.
use Rattle.std.specs.Prelude.{◌≡◌, ℕ, ◌≤◌, ◌<◌, Bool, true, false, Option, Some, None, IfSome, MatchOption}
use Rattle.std.proofs.lemmas.Iterator.{first_from_Range}
use Rattle.std.specs.Iterator.{YieldsThen}
use Rattle.std.specs.List.{FoldsTo}
use Rattle.std.specs.Fn.{CalledAt}
use Rattle.std.specs.Bool.{⊤}
use Rattle.std.proofs.iter.Yields.{nat_range_steps}
use Rattle.std.specs.declared.ops.Range.{Range}
use denote.Param.Members.{Mut}
use denote.Ref.{Bor}
use mathlib.Core.List.{List}
use Rattle.circulation.specs.Input.{HangsBy}
use Rattle.circulation.specs.inside.Steps.{Hanger}

-- of what is found, what the closure tests holds
pub found_some : (P : ℕ → Type 0) {F : Type 0} {g : Mut F (Bor ℕ × Unit {0}) Bool} (s u : Range ℕ) (f : F) (r : Option ℕ)
    → (xs : List ℕ) × (j : F) × YieldsThen nat_range_steps s xs r u × FoldsTo (λ p x q. CalledAt g p x false q) f xs j
    × MatchOption r ⊤ (λ x. (h : F) × CalledAt g j x true h)
    → ((x : ℕ) (q : F) → CalledAt g f x true q → P x) → ((x : ℕ) (q : F) → CalledAt g f x false q → q ≡ f)
    → IfSome r (λ i. (i < s.end) × P i)
found_some P s u f r ran passed failed = cases r (first_from_Range s u f r P (λ i. Unit {0}) ran passed (λ x q k. (failed x q k, tt)))
  where
    cases : (r : Option ℕ)
        → MatchOption r ((k : ℕ) → s.start ≤ k → k < s.end → Unit {0}) (λ i. (s.start ≤ i) × (i < s.end) × P i × ((k : ℕ) → s.start ≤ k → k < i → Unit {0}))
        → IfSome r (λ i. (i < s.end) × P i)
    cases (Some i) m = (m.1, m.2)
    cases None m = tt

-- what `hanger` finds
pub hanger_found : {F : Type 0} {g : Mut F (Bor ℕ × Unit {0}) Bool} (list : List ℕ) (v ground : ℕ) (s u : Range ℕ) (f : F) (r : Option ℕ)
    → (xs : List ℕ) × (j : F) × YieldsThen nat_range_steps s xs r u × FoldsTo (λ p x q. CalledAt g p x false q) f xs j
    × MatchOption r ⊤ (λ x. (h : F) × CalledAt g j x true h)
    → ((x : ℕ) (q : F) → CalledAt g f x true q → HangsBy list ground v x)
    → ((x : ℕ) (q : F) → CalledAt g f x false q → (q ≡ f) × (HangsBy list ground v x → ⊥))
    → Hanger list v ground s.start s.end r
hanger_found list v ground s u f r ran passed failed =
    cases r (first_from_Range s u f r (HangsBy list ground v) (λ i. HangsBy list ground v i → ⊥) ran passed failed)
  where
    cases : (r : Option ℕ)
        → MatchOption r ((k : ℕ) → s.start ≤ k → k < s.end → HangsBy list ground v k → ⊥)
        (λ i. (s.start ≤ i) × (i < s.end) × HangsBy list ground v i × ((k : ℕ) → s.start ≤ k → k < i → HangsBy list ground v k → ⊥))
        → Hanger list v ground s.start s.end r
    cases (Some i) m = (m.1, m.2)
    cases None m = m
