-- A property of each number that a grammar takes, and how many numbers a walk takes at most: one induction for all bounds.
use Prim.Native.Nat.{ℕ, zero, suc, ◌-◌, ◌≤◌, ◌<◌}
use Rattle.std.specs.Prelude.{◌≡◌}
use Rattle.std.proofs.Math.Path.{refl}
use Rattle.std.proofs.Common.{⊎_elim, le-leb}
use native.Mathlib.Omega.{arith}
use Rattle.std.proofs.lemmas.Bool.{lt-leb}
use Rattle.leb128.specs.Refusals.{outside_limits}
use Rattle.leb128.specs.Grammar.{Form, Grammar, Rule, within}
use Rattle.leb128.specs.Grammar.Grammar.{done, number}
use Rattle.leb128.specs.Source.{Source, Item}
use Rattle.leb128.specs.Source.Item.{value, refused}
use Rattle.leb128.specs.Walk.{checked, asked, asked_behind}
use Rattle.leb128.specs.laws.Cases.{lt_or_le}
use Rattle.leb128.specs.laws.StepCases.{checked_value}

-- P holds of each number's form and rule, and at most m numbers follow each other
pub data Each (P : Form → Rule → Type 0) : ℕ → Grammar → Type 0 where
  end : {m : ℕ} → Each P m done
  each : {m : ℕ} {form : Form} {rule : Rule} {next : ℕ → Grammar} → P form rule
      → ((n : ℕ) → rule n ≡ 0 → Each P m (next n)) → Each P (suc m) (number form rule next)

module _ {P : Form → Rule → Type 0} where
  -- a number, where the bound is not told as a successor
  pub first : {m : ℕ} {form : Form} {rule : Rule} {next : ℕ → Grammar} → 0 < m → P form rule
      → ((n : ℕ) → rule n ≡ 0 → Each P (m - 1) (next n)) → Each P m (number form rule next)
  first {m = zero} h p s = absurd (omega arith)
  first {m = suc m} h p s = each p (λ n ok. rw (less m) at (s n ok))
    where
      less : (k : ℕ) → suc k - 1 ≡ k
      less k = omega arith

  -- a greater bound
  pub each_more : {m k : ℕ} {grammar : Grammar} → m ≤ k → Each P m grammar → Each P k grammar
  each_more h end = end
  each_more {k = k} h (each {m = m} p s) = first (omega arith) p (λ n ok. each_more (omega arith) (s n ok))

  -- a weaker property
  pub each_map : {Q : Form → Rule → Type 0} {m : ℕ} {grammar : Grammar}
      → ((form : Form) (rule : Rule) → P form rule → Q form rule) → Each P m grammar → Each Q m grammar
  each_map f end = end
  each_map f (each {form = form} {rule = rule} p s) = each (f form rule p) (λ n ok. each_map f (s n ok))

  -- a walk over any source asks for no more numbers, refused or not
  pub most_asked : {m : ℕ} {grammar : Grammar} → Each P m grammar → (source : Source) (at : ℕ) → asked grammar source at ≤ m
  unfolding asked asked_behind
  most_asked end source at = omega arith
  most_asked (each {m} {form} {rule} {next} p s) source at =
      behind (checked rule at (source form at)) refl (λ n ok after. most_asked (s n ok) source after)
    where
      behind : (item : Item) → checked rule at (source form at) ≡ item
          → ((n : ℕ) → rule n ≡ 0 → (after : ℕ) → asked (next n) source after ≤ m)
          → suc (asked_behind item (λ n after. asked (next n) source after)) ≤ suc m
      behind (value n after) i again = omega (arith, again n (checked_value rule at n after (source form at) i).1 after)
      behind (refused r) i again = omega arith

-- a number that is not refused lies within its limits
pub within_limits : (low high n : ℕ) → within low high n ≡ 0 → (low ≤ n) × (n ≤ high)
unfolding within
within_limits low high n e =
    ⊎_elim
    (λ (h : n < low). let z : ◌≡◌ {A = ℕ} outside_limits 0 = rw (lt-leb low n h) at e in absurd (omega arith))
    (λ (h : low ≤ n).
    ⊎_elim
    (λ (k : high < n). let z : ◌≡◌ {A = ℕ} outside_limits 0 = rw (le-leb low n h, lt-leb n high k) at e in absurd (omega arith))
    (λ (k : n ≤ high). (h, k))
    (lt_or_le high n))
    (lt_or_le n low)

-- and the other way round
pub within_inside : (low high n : ℕ) → low ≤ n → n ≤ high → within low high n ≡ 0
unfolding within
within_inside low high n p q = rw (le-leb low n p, le-leb n high q)
