-- Potentials are legal on packed arcs exactly where they meet the arcs' constraints in natural numbers: an arc is off its
-- kink by a difference whose two parts are the two sides of its constraint.
use Rattle.std.specs.Prelude.{ℕ, zero, suc, ◌+◌, ◌≤◌, ◌≡◌, refl, Bool, true, false, cond, List, T, eqb, ℤ, negsuc, ◌-ℤ◌}
use Rattle.std.proofs.Common.{subst, eq-eqb, ne_eqb}
use Rattle.std.proofs.Math.Decide.{ℕ_discrete}
use native.Mathlib.Omega.{arith}
use Rattle.std.proofs.Math.IntN.{pos}
use Rattle.std.proofs.Math.ListN.{get_or-map}
use Rattle.network.specs.Network.{unlimited, limit, finite, Arc, potential, integers, past_kink, legal_at, legal}
use Rattle.network.specs.Packed.{kink_zero, flow_zero, low_none, high_none, low_of, high_of, arc_at}
use Rattle.network.specs.Net.{at, Net, tail, head, kink, low, high, HardHigh, HardLow, stands, asks}
use Rattle.network.specs.laws.IntegerParts.{less_parts, minus_parts, min_parts}
use Rattle.network.specs.Integers.{down, up}

-- a test that is not false passes
test_true : (b : Bool) → (b ≡ false → ⊥) → T b
test_true true f = tt
test_true false f = f refl

-- a limit by its number: none, or one
limited : (none n : ℕ) → finite (cond (eqb n none) unlimited (limit (pos n -ℤ pos flow_zero))) ≡ false → n ≡ none
limited none n e = go (ℕ_discrete n none)
  where
    go : Dec (n ≡ none) → n ≡ none
    go (yes same) = same
    go (no ne) = absurd (truth (rw (ne_eqb n none ne) at e))
      where
        truth : finite (limit (pos n -ℤ pos flow_zero)) ≡ false → ⊥
        truth f = subst (λ (b : Bool). T b) f tt

-- the number for no high limit reads so
pub high_hard : (n : ℕ) → n ≡ high_none → finite (high_of n) ≡ false
unfolding high_of
high_hard n e = rw (eq-eqb n high_none e)

-- and no other does
pub hard_high : (n : ℕ) → finite (high_of n) ≡ false → n ≡ high_none
unfolding high_of
hard_high n e = limited high_none n e

-- the number for no low limit reads so
pub low_hard : (n : ℕ) → n ≡ low_none → finite (low_of n) ≡ false
unfolding low_of
low_hard n e = rw (eq-eqb n low_none e)

-- and no other does
pub hard_low : (n : ℕ) → finite (low_of n) ≡ false → n ≡ low_none
unfolding low_of
hard_low n e = limited low_none n e

-- an arc with no high limit is not right of its kink
pub legal_high : (a : Arc) (d : ℤ) → T (legal_at a d) → finite a.high ≡ false → up d ≡ 0
unfolding up
legal_high a (pos zero) t e = refl
legal_high a (pos (suc n)) t e = absurd (subst (λ (b : Bool). T b) e t)
legal_high a (negsuc n) t e = refl

-- an arc with no low limit is not left of its kink
pub legal_low : (a : Arc) (d : ℤ) → T (legal_at a d) → finite a.low ≡ false → down d ≡ 0
unfolding down
legal_low a (pos zero) t e = refl
legal_low a (pos (suc n)) t e = refl
legal_low a (negsuc n) t e = absurd (subst (λ (b : Bool). T b) e t)

-- and that is all that a legal arc asks
is_legal : (a : Arc) (d : ℤ) → (finite a.high ≡ false → up d ≡ 0) → (finite a.low ≡ false → down d ≡ 0) → T (legal_at a d)
unfolding up down
is_legal a (pos zero) f g = tt
is_legal a (pos (suc n)) f g = test_true (finite a.high) (λ e. let z : suc n ≡ 0 = f e in omega arith)
is_legal a (negsuc n) f g = test_true (finite a.low) (λ e. let z : suc n ≡ 0 = g e in omega arith)

-- the constraints of arc i at natural potentials
pub record Meets (N : Net) (p : ℕ → ℕ) (i : ℕ) : Type 0 where
  pub not_right : HardHigh N i → stands N p i ≤ asks N p i
  pub not_left : HardLow N i → asks N p i ≤ stands N p i

module _ (N : Net) (p : List ℕ) (i : ℕ) where
  -- a natural potential as an integer
  natural : (u : ℕ) → potential (integers p) u ≡ pos (at p u)
  natural u = get_or-map pos p u 0

  -- how far right of its kink, in natural numbers
  past_kink_parts : up (past_kink (integers p) (arc_at N.list i)) + asks N (at p) i
      ≡ down (past_kink (integers p) (arc_at N.list i)) + stands N (at p) i
  unfolding up down
  past_kink_parts =
      rw (natural (head N i), natural (tail N i))
      (omega (
        arith,
        minus_parts (pos (at p (head N i)) -ℤ pos (at p (tail N i))) (pos (kink N i) -ℤ pos kink_zero),
        less_parts (at p (head N i)) (at p (tail N i)),
        less_parts (kink N i) kink_zero,
      ))

  -- a legal arc meets its constraints
  pub legal_meets : T (legal (integers p) (arc_at N.list i)) → Meets N (at p) i
  legal_meets t =
      let d : ℤ = past_kink (integers p) (arc_at N.list i) in
      record {
        not_right = λ hard. omega (arith, past_kink_parts, legal_high (arc_at N.list i) d t (high_hard (high N i) hard));
        not_left = λ hard. omega (arith, past_kink_parts, legal_low (arc_at N.list i) d t (low_hard (low N i) hard));
      }

  -- an arc that meets its constraints is legal
  pub meets_legal : Meets N (at p) i → T (legal (integers p) (arc_at N.list i))
  meets_legal m =
      let d : ℤ = past_kink (integers p) (arc_at N.list i) in
      is_legal (arc_at N.list i) d
      (λ e. omega (arith, past_kink_parts, m.not_right (hard_high (high N i) e), min_parts d))
      (λ e. omega (arith, past_kink_parts, m.not_left (hard_low (low N i) e), min_parts d))
