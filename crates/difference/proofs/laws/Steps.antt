-- One step of raising, and steps put together: each keeps the values at most every solution's, by what its constraint
-- asks of a solution.
use Rattle.network.specs.Net.{at, Net}
use Rattle.network.specs.laws.SumsTo.{at_set}
use Rattle.difference.specs.inside.Constraints.{Solution, Ready, Relaxing, Risen, Grew, None}
use Rattle.difference.specs.inside.Steps.{RelaxMeans, Told, Stepped}
use Rattle.difference.specs.declared.Stuck.{Stuck}
use Rattle.std.specs.Prelude.{Result, Ok, Err, IsErr, ◌||◌}
use mathlib.Core.Path.{◌≡◌, refl, sym, ap, ◌∙◌}
use mathlib.Core.Logic.{◌⊎◌, inl, inr, ⊎_elim}
use mathlib.Core.Bool.{Bool, true, false, true≢false}
use mathlib.Core.List.{List}
use Prim.Native.Nat.{ℕ, ◌+◌, ◌-◌, ◌≤◌, ◌<◌}
use native.Mathlib.Nat.{le_refl}
use native.Mathlib.Decide.{ℕ_discrete}
use native.Mathlib.Omega.{arith}
use lib.ListN.{length, set, length-set}
use lib.Seq.{get_or-set_same}
use Rattle.difference.proofs.laws.Bounds.{bounded}
use Rattle.difference.specs.Limits.{value_limit}

-- values that stay
pub risen_same : {N : Net} {v : List ℕ} → Ready N v → Risen N v v
risen_same r = record { ready = r; size = refl; up = λ u. le_refl _ }

-- a step that does nothing
pub nothing : {M : (ℕ → ℕ) → (ℕ → ℕ) → Type 0} {N : Net} {v : List ℕ} → Ready N v → M (at v) (at v) → Stepped M N v v (Ok false)
nothing r m = record { risen = risen_same r; told = (refl, m) }

module _ {N : Net} {v : List ℕ} (r : Ready N v) (from to a b : ℕ) (from_in : from < length v) (to_in : to < length v)
    (asks : (q : ℕ → ℕ) → Solution N (length v) q → q from + a ≤ q to + b) where
  -- the values with `to` raised
  raised : at v to + b < at v from + a → to + 1 < length v → at v from + a ≤ value_limit + b
      → Risen N v (set v to (at v from + a - b))
  raised more inner top = record {
    ready = record {
      wf = rw length-set r.wf;
      ground = rw length-set (⊎_elim (λ e. absurd (omega (arith, e.0))) (λ e. e.1 ∙ r.ground) (stored (length v - 1)));
      small = λ u. ⊎_elim (λ e. omega (arith, e.1)) (λ e. omega (arith, e.1, r.small u)) (stored u);
      under = rw length-set (λ q s u u-in. under q s u u-in (stored u));
    };
    size = length-set v to (at v from + a - b);
    up = λ u. ⊎_elim (λ e. omega (arith, ap (at v) e.0, e.1)) (λ e. omega (arith, e.1)) (stored u);
  }
    where
      x : ℕ
      x = at v from + a - b

      stored : (u : ℕ) → ((u ≡ to) × (at (set v to x) u ≡ x)) ⊎ ((u ≡ to → ⊥) × (at (set v to x) u ≡ at v u))
      stored u = at_set v to x u to_in

      under : (q : ℕ → ℕ) → Solution N (length v) q → (u : ℕ) → u < length v
          → ((u ≡ to) × (at (set v to x) u ≡ x)) ⊎ ((u ≡ to → ⊥) × (at (set v to x) u ≡ at v u))
          → at (set v to x) u ≤ q u
      under q s u u-in (inl e) = omega (arith, e.1, ap q e.0, asks q s, r.under q s from from_in)
      under q s u u-in (inr e) = omega (arith, e.1, r.under q s u u-in)

  -- a value that would pass the limit, or the ground's, shows that there is no solution
  stuck : at v to + b < at v from + a → (to + 1 < length v → value_limit + b < at v from + a) → None N (length v)
  stuck more past q s = go (ℕ_discrete to (length v - 1))
    where
      go : Dec (to ≡ length v - 1) → ⊥
      go (yes e) = omega (arith, ap q e, s.ground, asks q s, r.under q s from from_in, more)
      go (no ne) =
          let d = bounded r.wf q s in
          omega (arith, past (omega arith), asks d.q d.solution, r.under d.q d.solution from from_in, d.small to to_in, r.wf.nodes)

-- what a constraint's step tells, where it is asked of every solution
pub relaxed : {N : Net} {v : List ℕ} (r : Ready N v) (asked : Bool) {from to a b : ℕ} (s : Relaxing v from to a b)
    → (asked ≡ true → (q : ℕ → ℕ) → Solution N (length v) q → q from + a ≤ q to + b)
    → (v' : List ℕ) (f : Result Bool Stuck) → RelaxMeans asked from to a b v v' f
    → Stepped (λ f g. asked ≡ true → f from + a ≤ g to + b) N v v' f
relaxed r asked s asks v' (Ok false) m = rw m.0 (nothing r m.1)
relaxed {v = v} r asked {from} {to} {a} {b} s asks v' (Ok true) m = rw m.1 (record {
  risen = raised r from to a b s.from_in s.to_in (asks m.0) m.2 m.3 m.4;
  told = (record { node = to; node_in = s.to_in; rose = omega (arith, here) }, λ is. omega (arith, here));
})
  where
    here : at (set v to (at v from + a - b)) to ≡ at v from + a - b
    here = get_or-set_same v to (at v from + a - b) 0 s.to_in
relaxed r asked {from} {to} {a} {b} s asks v' (Err e) m = rw m.1 (record { risen = risen_same r; told = stuck r from to a b s.from_in s.to_in (asks m.0) m.2 m.3 })

-- constraints that hold still where the values that force were smaller and the values that are raised greater
pub record Monotone (M : (ℕ → ℕ) → (ℕ → ℕ) → Type 0) : Type 0 where
  pub mono : {f f' g g' : ℕ → ℕ} → ((u : ℕ) → f' u ≤ f u) → ((u : ℕ) → g u ≤ g' u) → M f g → M f' g'

-- no value fell in two steps
pub risen_trans : {N : Net} {v₀ v₁ v₂ : List ℕ} → Risen N v₀ v₁ → Risen N v₁ v₂ → Risen N v₀ v₂
risen_trans s t = record { ready = t.ready; size = t.size ∙ s.size; up = λ u. omega (arith, s.up u, t.up u) }

-- a step over other constraints that follow
pub stepped_map : {M M' : (ℕ → ℕ) → (ℕ → ℕ) → Type 0} {N : Net} {v₀ v : List ℕ} → (M (at v₀) (at v) → M' (at v₀) (at v))
    → (r : Result Bool Stuck) → Stepped M N v₀ v r → Stepped M' N v₀ v r
stepped_map f (Ok false) s = record { risen = s.risen; told = (s.told.0, f s.told.1) }
stepped_map f (Ok true) s = record { risen = s.risen; told = (s.told.0, f s.told.1) }
stepped_map f (Err e) s = record { risen = s.risen; told = s.told }

-- a stuck step, over any other constraints, after one that is not
pub stuck_after : {M M' : (ℕ → ℕ) → (ℕ → ℕ) → Type 0} {N : Net} {v₀ v₁ v₂ : List ℕ} {r : Result Bool Stuck} {e : Stuck} → Risen N v₀ v₁
    → Stepped M N v₁ v₂ r → r ≡ Err e → (r' : Result Bool Stuck) → IsErr r' → Stepped M' N v₀ v₂ r'
stuck_after s t is (Ok rose) failed = absurd (true≢false (sym failed))
stuck_after s t is (Err e) failed = record { risen = risen_trans s t.risen; told = rw (← s.size) (rw is at t.told) }

-- a value that rose in the second step
grew_before : {N : Net} {v₀ v₁ v₂ : List ℕ} → Risen N v₀ v₁ → Grew v₁ v₂ → Grew v₀ v₂
grew_before s g = record { node = g.node; node_in = omega (arith, g.node_in, s.size); rose = omega (arith, g.rose, s.up g.node) }

-- a value that rose in the first
grew_after : {N : Net} {v₀ v₁ v₂ : List ℕ} → Grew v₀ v₁ → Risen N v₁ v₂ → Grew v₀ v₂
grew_after g t = record { node = g.node; node_in = g.node_in; rose = omega (arith, g.rose, t.up g.node) }

module _ {M M' : (ℕ → ℕ) → (ℕ → ℕ) → Type 0} {N : Net} {v₀ v₁ v₂ : List ℕ} (m : Monotone M) (m' : Monotone M') where
  -- what two steps tell together
  pub joined : (r₁ r₂ : Bool) → Stepped M N v₀ v₁ (Ok r₁) → Stepped M' N v₁ v₂ (Ok r₂) → Stepped (λ f g. M f g × M' f g) N v₀ v₂ (Ok (r₁ || r₂))
  joined r₁ r₂ s t = record { risen = risen_trans s.risen t.risen; told = tells r₁ r₂ s.told t.told }
    where
      later : M (at v₀) (at v₁) → M (at v₀) (at v₂)
      later = m.mono (λ u. le_refl _) t.risen.up

      earlier : M' (at v₁) (at v₂) → M' (at v₀) (at v₂)
      earlier = m'.mono s.risen.up (λ u. le_refl _)

      tells : (r₁ r₂ : Bool) → Told M N v₀ v₁ (Ok r₁) → Told M' N v₁ v₂ (Ok r₂) → Told (λ f g. M f g × M' f g) N v₀ v₂ (Ok (r₁ || r₂))
      tells false false a b = (b.0 ∙ a.0, (later a.1, earlier b.1))
      tells false true a b = (grew_before s.risen b.0, (later a.1, earlier b.1))
      tells true false a b = (grew_after a.0 t.risen, (later a.1, earlier b.1))
      tells true true a b = (grew_after a.0 t.risen, (later a.1, earlier b.1))
