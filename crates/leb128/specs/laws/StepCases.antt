-- One step of a walk, case by case.
use Rattle.std.specs.Prelude.{ℕ, ◌≡◌, refl, List, ◌∷◌}
use Rattle.std.proofs.Common.{sym, ◌∙◌, ap, ⊎_elim, arith, eq-eqb, ne_eqb}
use Rattle.leb128.specs.Grammar.{Rule, both}
use Rattle.leb128.specs.Source.{Item, refusal}
use Rattle.leb128.specs.Source.Item.{value}
use Rattle.leb128.specs.Walk.{Walk, checked, led, followed}
use Rattle.leb128.specs.Walk.Walk.{whole}
use Rattle.leb128.specs.laws.Cases.{eq_or_ne}

-- a value that is checked, and one that is refused
pub checked_good : (rule : Rule) (at n after : ℕ) → rule n ≡ 0 → checked rule at (value n after) ≡ value n after
unfolding checked
checked_good rule at n after ok = rw (eq-eqb (rule n) 0 ok)

-- a value that breaks the rule
pub checked_broken : (rule : Rule) (at n after : ℕ) → (rule n ≡ 0 → ⊥)
    → checked rule at (value n after) ≡ Item.refused (refusal (rule n) at)
unfolding checked
checked_broken rule at n after broken = rw (ne_eqb (rule n) 0 broken)

-- a refusal is no value
item_not : {n after : ℕ} {r : _} → Item.refused r ≡ value n after → ⊥
item_not e = let z : ◌≡◌ {A = ℕ} 0 1 = cc in omega arith

-- a refusal is no whole walk
walk_not : {last : ℕ} {ns : List ℕ} {r : _} → Walk.refused r ≡ whole last ns → ⊥
walk_not e = let z : ◌≡◌ {A = ℕ} 0 1 = cc in omega arith

-- what passed a check was there, and meets the rule
pub checked_value : (rule : Rule) (at n after : ℕ) (item : Item) → checked rule at item ≡ value n after
    → (item ≡ value n after) × (rule n ≡ 0)
unfolding checked
checked_value rule at n after (value m q) e =
    ⊎_elim
    (λ (ok : rule m ≡ 0).
    let f : value m q ≡ value n after = sym (checked_good rule at m q ok) ∙ e in
    let is-n : m ≡ n = cc in
    (f, rw is-n at ok))
    (λ (broken : rule m ≡ 0 → ⊥). absurd (item_not (sym (checked_broken rule at m q broken) ∙ e)))
    (eq_or_ne (rule m) 0)
checked_value rule at n after (Item.refused r) e = absurd (item_not e)

-- one check after another is the check by both rules
pub checked_both : (first second : Rule) (at : ℕ) (item : Item)
    → checked second at (checked first at item) ≡ checked (both first second) at item
unfolding checked both
checked_both first second at (value n after) =
    ⊎_elim
    (λ (ok : first n ≡ 0). rw (eq-eqb (first n) 0 ok))
    (λ (broken : first n ≡ 0 → ⊥). rw (ne_eqb (first n) 0 broken, ne_eqb (first n) 0 broken))
    (eq_or_ne (first n) 0)
checked_both first second at (Item.refused r) = refl

-- the numbers of a walk that a number leads
pub led_whole : (n : ℕ) (walk : Walk) (last : ℕ) (ns : List ℕ) → led n walk ≡ whole last ns
    → (ms : List ℕ) × (walk ≡ whole last ms) × (ns ≡ n ∷ ms)
unfolding led
led_whole n (whole at ms) last ns e =
    let is_last : at ≡ last = cc in
    let are : ns ≡ n ∷ ms = cc in
    (ms, ap (λ (k : ℕ). whole k ms) is_last, are)
led_whole n (Walk.refused r) last ns e = absurd (walk_not e)

-- walks that go on alike
pub followed_same : (item : Item) (one other : ℕ → ℕ → Walk)
    → ((n after : ℕ) → item ≡ value n after → one n after ≡ other n after) → followed item one ≡ followed item other
unfolding followed
followed_same (value n after) one other h = ap (led n) (h n after refl)
followed_same (Item.refused r) one other h = refl
