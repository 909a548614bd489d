-- What is awaited of a coordinate file follows its grammar: a number in its range, and behind it what is awaited then.
use Prim.Native.Nat.{ℕ, zero, suc, ◌+◌, ◌-◌, ◌≤◌, ◌<◌}
use mathlib.Core.Path.{◌≡◌, refl, ◌∙◌}
use mathlib.Core.Bool.{true, false}
use mathlib.Core.Logic.{⊎_elim}
use native.Mathlib.Omega.{arith}
use borrow.Author.Tests.{ltb-false, ne_eqb}
use Rattle.leb128.specs.Grammar.{Form, Grammar, plain, within}
use Rattle.leb128.specs.Grammar.Grammar.{number, done}
use Rattle.leb128.specs.laws.Cases.{test}
use Rattle.sheet.specs.Limits.{max_nodes, max_coordinate, max_coordinate_numbers}
use Rattle.sheet.specs.inside.Cursor.{Sound}
use Rattle.sheet.specs.inside.Awaited.{nodes_from, layers_from, rest, Steady, more, range_of, behind, InRange}
use Rattle.sheet.specs.declared.Awaited.{Awaited}
use Rattle.sheet.specs.declared.Awaited.TheVariants.{Layers, Nodes}
use Rattle.leb128.specs.laws.EachNumber.{within_limits}
use Rattle.sheet.specs.inside.Order.{Next, AwaitedLeft}
use Rattle.sheet.specs.declared.Range.{Range}

-- the nodes of a layer, of which there is one
layer_from : (n : ℕ) (next : Grammar) → 1 ≤ n
    → number plain (within 0 max_coordinate) (λ place. nodes_from (n - 1) place (place + 1) next) ≡ nodes_from n 0 0 next
unfolding nodes_from
layer_from zero next h = absurd (omega arith)
layer_from (suc n) next h = let e : suc n - 1 ≡ n = omega arith in rw e

-- the base of a range
abbrev pub base_of : Range → ℕ
base_of range = range.base

-- how many numbers may yet come
abbrev pub left : Awaited → ℕ
left Layers = max_coordinate_numbers
left (Nodes layers room nodes base low) = layers + nodes + room

-- the grammar says next what is awaited, and goes on with what is awaited then
pub record Expects (s : Awaited) : Type 0 where
  pub next : ℕ → Grammar
  pub is : rest s ≡ number (Form.above (range_of s).base) (within (range_of s).low (range_of s).high) next
  pub then : (n : ℕ) → InRange s n → next n ≡ rest (behind s n)
  pub sound : Sound (range_of s)
  pub high : (range_of s).high ≤ max_coordinate
  pub steady : (n : ℕ) → InRange s n → Steady (behind s n)
  pub fewer : (n : ℕ) → InRange s n → left (behind s n) < left s

-- where a number comes next
pub expects : (s : Awaited) → Steady s → more s ≡ true → Expects s
unfolding rest nodes_from layers_from
expects Layers steady h =
    record {
      next = λ n. layers_from n max_nodes;
      is = refl;
      then = λ n ok. refl;
      sound = record { reached = omega arith; small = omega arith };
      high = omega arith;
      steady = λ n ok. (omega arith, omega arith);
      fewer = λ n ok. omega (arith, ok);
    }
expects (Nodes zero room zero base low) steady h = let z : ◌≡◌ {A = ℕ} 0 1 = cc in absurd (omega arith)
expects (Nodes (suc l) room zero base low) steady h =
    let e : suc l - 1 ≡ l = omega arith in
    record {
      next = λ n. number plain (within 0 max_coordinate) λ place. nodes_from (n - 1) place (place + 1) (layers_from l (room - n));
      is = refl;
      then = λ n ok. rw e (layer_from n (layers_from l (room - n)) ok.0);
      sound = record { reached = omega arith; small = omega arith };
      high = omega arith;
      steady = λ n ok. (omega arith, omega arith);
      fewer = λ n ok. omega (arith, ok);
    }
expects (Nodes layers room (suc m) base low) steady h =
    let some : suc m ≡ 0 → ⊥ = λ z. omega arith in
    let f = ne_eqb (suc m) 0 some in
    let e : suc m - 1 ≡ m = omega arith in
    record {
      next = λ place. nodes_from m place (place + 1) (layers_from layers room);
      is = rw f;
      then = λ place ok. rw (f, e);
      sound = rw f (record { reached = steady.0; small = omega (arith, steady) });
      high = rw f (omega arith);
      steady = λ n ok. rw f (omega arith, rw f at ok.1);
      fewer = λ n ok. rw f (omega arith);
    }

-- true is not false
true_not : true ≡ false → ⊥
true_not e = let z : ◌≡◌ {A = ℕ} 0 1 = cc in omega arith

-- where none does, the grammar is at its end
pub at_end : (s : Awaited) → more s ≡ false → rest s ≡ done
unfolding rest nodes_from layers_from
at_end Layers h = absurd (true_not h)
at_end (Nodes zero room zero base low) h = refl
at_end (Nodes (suc l) room zero base low) h = absurd (omega (arith, ltb-false 0 (suc l) h))
at_end (Nodes layers room (suc m) base low) h =
    let some : suc m ≡ 0 → ⊥ = λ z. omega arith in
    absurd (true_not (rw (ne_eqb (suc m) 0 some) at h))

-- so where it is not, a number comes next
pub not_end : (s : Awaited) → (rest s ≡ done → ⊥) → more s ≡ true
not_end s h = ⊎_elim (λ (t : more s ≡ true). t) (λ (t : more s ≡ false). absurd (h (at_end s t))) (test (more s))

-- where the grammar of what is awaited goes on, a number of the range comes next
pub awaited_goes : (s : Awaited) (grammar : Grammar) → AwaitedLeft s grammar → (grammar ≡ done → ⊥)
    → Next {S = Awaited} (λ s. (range_of s).base) behind AwaitedLeft (λ s n. (more s ≡ true) × InRange s n) s grammar
awaited_goes s grammar left h =
    let m = not_end s (λ (e : rest s ≡ done). h (left.1 ∙ e)) in
    let x = expects s left.0 m in
    let inside : (n : ℕ) → within (range_of s).low (range_of s).high n ≡ 0 → InRange s n = λ n ok. within_limits (range_of s).low (range_of s).high n ok in
    record {
      rule = within (range_of s).low (range_of s).high;
      next = x.next;
      is = left.1 ∙ x.is;
      small = x.sound.small;
      held = λ n ok. (omega (arith, inside n ok, x.sound.reached), omega (arith, inside n ok, x.high), omega (arith, inside n ok, x.high));
      fits = λ n ok. (m, inside n ok);
      then = λ n ok. (x.steady n (inside n ok), x.then n (inside n ok));
    }
