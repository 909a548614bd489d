-- The constraints of one arc, and of all arcs in one pass: each arc takes `Passing` one further, in whichever direction.
use Rattle.network.specs.Net.{Net, arcs, tail, head, kink, low, high}
use Rattle.difference.specs.inside.Constraints.{MetHigh, MetLow, Met, AllMet, Ready, Relaxing}
use Rattle.difference.specs.inside.Steps.{RelaxMeans, Stepped}
use Rattle.difference.specs.declared.Stuck.{Stuck}
use Rattle.std.specs.Prelude.{Result, Ok, ◌||◌, true, false, cond}
use mathlib.Core.Path.{◌≡◌, sym, ◌∙◌}
use mathlib.Core.Bool.{Bool}
use lib.Dec.{eqb}
use borrow.Author.Tests.{eq-eqb, eqb-true}
use mathlib.Core.List.{List}
use Prim.Native.Nat.{ℕ, ◌+◌, ◌-◌, ◌≤◌, ◌<◌}
use native.Mathlib.Omega.{arith}
use native.Mathlib.Decide.{ℕ_discrete}
use Rattle.difference.proofs.laws.Steps.{Monotone, relaxed, nothing, stepped_map, joined}
use Rattle.network.specs.Packed.{kink_zero, high_none, low_none}

module _ {N : Net} {v : List ℕ} {i : ℕ} (r : Ready N v) (l : i < arcs N) {t h k : ℕ} (et : t ≡ tail N i) (eh : h ≡ head N i) (ek : k ≡ kink N i) where
  -- what the step of the tail needs
  pub tail_relaxing : Relaxing v h t kink_zero k
  tail_relaxing = record {
    from_in = omega (arith, (r.wf.arc_in i l).head_in);
    to_in = omega (arith, (r.wf.arc_in i l).tail_in);
    from_small = r.small h;
    to_small = r.small t;
    a_in = omega arith;
    b_in = omega (arith, (r.wf.arc_in i l).kink_high);
    few = r.wf.nodes;
  }

  -- what the step of the head needs
  pub head_relaxing : Relaxing v t h k kink_zero
  head_relaxing = record {
    from_in = omega (arith, (r.wf.arc_in i l).tail_in);
    to_in = omega (arith, (r.wf.arc_in i l).head_in);
    from_small = r.small t;
    to_small = r.small h;
    a_in = omega (arith, (r.wf.arc_in i l).kink_high);
    b_in = omega arith;
    few = r.wf.nodes;
  }

  -- the constraint of an unlimited high
  pub tail_raised : {x : ℕ} → x ≡ high N i → (v' : List ℕ) (f : Result Bool Stuck) → RelaxMeans (eqb x high_none) h t kink_zero k v v' f
      → Stepped (MetHigh N i) N v v' f
  tail_raised {x} is v' f m =
      stepped_map (λ met hard. rw (eh, et, ek) at (met (eq-eqb x high_none (is ∙ hard)))) f
      (relaxed r (eqb x high_none) tail_relaxing (λ asked q s. rw (eh, et, ek) ((s.meets i l).0 (sym is ∙ eqb-true x high_none asked))) v' f m)

  -- the constraint of an unlimited low
  pub head_raised : {x : ℕ} → x ≡ low N i → (v' : List ℕ) (f : Result Bool Stuck) → RelaxMeans (eqb x low_none) t h k kink_zero v v' f
      → Stepped (MetLow N i) N v v' f
  head_raised {x} is v' f m =
      stepped_map (λ met hard. rw (eh, et, ek) at (met (eq-eqb x low_none (is ∙ hard)))) f
      (relaxed r (eqb x low_none) head_relaxing (λ asked q s. rw (eh, et, ek) ((s.meets i l).1 (sym is ∙ eqb-true x low_none asked))) v' f m)

-- a met constraint stays met
high_mono : (N : Net) (i : ℕ) → Monotone (MetHigh N i)
high_mono N i = record { mono = λ less more m hard. omega (arith, m hard, less (head N i), more (tail N i)) }

-- the same of the other
low_mono : (N : Net) (i : ℕ) → Monotone (MetLow N i)
low_mono N i = record { mono = λ less more m hard. omega (arith, m hard, less (tail N i), more (head N i)) }

-- and of both
met_mono : (N : Net) (i : ℕ) → Monotone (Met N i)
met_mono N i = record { mono = λ less more m. ((high_mono N i).mono less more m.0, (low_mono N i).mono less more m.1) }

-- both constraints of an arc
pub arc_raised : {N : Net} (i : ℕ) {v₀ v₁ v₂ : List ℕ} (r₁ r₂ : Bool) → Stepped (MetHigh N i) N v₀ v₁ (Ok r₁)
    → Stepped (MetLow N i) N v₁ v₂ (Ok r₂) → Stepped (Met N i) N v₀ v₂ (Ok (r₁ || r₂))
arc_raised {N} i r₁ r₂ s t = joined (high_mono N i) (low_mono N i) r₁ r₂ s t

-- the constraints of the arcs from a on, before b
abbrev pub Done : Net → ℕ → ℕ → (ℕ → ℕ) → (ℕ → ℕ) → Type 0
Done N a b f g = (j : ℕ) → a ≤ j → j < b → Met N j f g

-- and of all arcs so far
done_mono : (N : Net) (a b : ℕ) → Monotone (Done N a b)
done_mono N a b = record { mono = λ less more m j from to. (met_mono N j).mono less more (m j from to) }

-- in a pass over v₀, of which k arcs are done: on from the first arc, or back from the last
pub record Passing (N : Net) (on : Bool) (k : ℕ) (v₀ v : List ℕ) (rose : Bool) : Type 0 where
  pub stepped : Stepped (Done N (cond on 0 (arcs N - k)) (cond on k (arcs N))) N v₀ v (Ok rose)

-- before the first arc
pub start : {N : Net} {v₀ : List ℕ} → Ready N v₀ → (on : Bool) → Passing N on 0 v₀ v₀ false
start r true = record { stepped = nothing r (λ j from to. absurd (omega arith)) }
start r false = record { stepped = nothing r (λ j from to. absurd (omega arith)) }

module _ {N : Net} {k i : ℕ} {v₀ v v' : List ℕ} {rose step : Bool} (below : k < arcs N) (s : Stepped (Met N i) N v v' (Ok step)) where
  -- an arc more: of the arcs that are done then, each other one was done before
  more : {a b a' b' : ℕ} → Stepped (Done N a b) N v₀ v (Ok rose) → ((j : ℕ) → a' ≤ j → j < b' → (j ≡ i → ⊥) → (a ≤ j) × (j < b))
      → Stepped (Done N a' b') N v₀ v' (Ok (rose || step))
  more {a} {b} p others =
      stepped_map
      (λ m j from to. elim (ℕ_discrete j i) [ yes same ↦ rw same m.1 | no other ↦ m.0 j (others j from to other).0 (others j from to other).1 ])
      (Ok (rose || step)) (joined (done_mono N a b) (met_mono N i) rose step p s)

  -- so one arc more is done
  pub goes_on : (on : Bool) → Passing N on k v₀ v rose → i ≡ cond on k (arcs N - 1 - k) → Passing N on (k + 1) v₀ v' (rose || step)
  goes_on true p place = record { stepped = more p.stepped (λ j from to other. (omega arith, omega arith)) }
  goes_on false p place = record { stepped = more p.stepped (λ j from to other. (omega arith, omega arith)) }

-- after the last arc
pub whole : {N : Net} (on : Bool) {v₀ v : List ℕ} {rose : Bool} → Passing N on (arcs N) v₀ v rose → Stepped (AllMet N) N v₀ v (Ok rose)
whole true {rose = rose} p = stepped_map (λ m j l. m j (omega arith) l) (Ok rose) p.stepped
whole false {rose = rose} p = stepped_map (λ m j l. m j (omega arith) l) (Ok rose) p.stepped
