-- On which side of its kink a packed arc is, and what its stored limits say: sides by carrying the integers to natural numbers,
-- limits by cases.
use Prim.Native.Nat.{ℕ, zero, suc, ◌+◌, ◌*◌, ◌<◌}
use mathlib.Core.Path.{◌≡◌, refl, sym, ◌∙◌, ap, ap₂}
use mathlib.Core.Bool.{Bool, true, false, cond, not, ◌&&◌}
use mathlib.Core.List.{List, [], ◌∷◌}
use native.Mathlib.Omega.{arith}
use lib.Dec.{eqb}
use lib.IntN.{ℤ, pos, negsuc, neg_ℤ, ◌-ℤ◌}
use lib.ListN.{get_or}
use lib.Signed.{le_z}
use borrow.Author.Tests.{eq-eqb, ne_eqb}
use Rattle.network.specs.Network.{unlimited, limit, Arc, potential, integers, past_kink, finite, at_least, at_most, legal, legal_at}
use Rattle.network.specs.Flows.{allowed}
use Rattle.network.specs.Packed.{tail_at, head_at, kink_at, low_at, high_at, stride, kink_zero, flow_zero, low_none, high_none, low_of}
use Rattle.network.specs.Packed.{high_of, arc_at, flow_at}
use Rattle.network.specs.laws.IntegerParts.{sum_parts, up_neg, down_neg}
use Rattle.network.specs.Integers.{down, up}
use Rattle.drawing.specs.Drawing.{coordinate}
use Rattle.leb128.specs.Words.{Small}

-- number k of arc i
abbrev number : List ℕ → ℕ → ℕ → ℕ
number a i k = get_or a (stride * i + k) 0

-- the coordinate of the head, with what is added to a kink
abbrev head_side : List ℕ → List ℕ → ℕ → ℕ
head_side a p i = coordinate p (number a i head_at) + kink_zero

-- the coordinate of the tail, with the stored kink: the arc is the difference of the two past its kink
abbrev tail_side : List ℕ → List ℕ → ℕ → ℕ
tail_side a p i = coordinate p (number a i tail_at) + number a i kink_at

-- a natural number as a potential
potential_is : (p : List ℕ) (v : ℕ) → potential (integers p) v ≡ pos (coordinate p v)
potential_is [] zero = refl
potential_is [] (suc v) = refl
potential_is (x ∷ p) zero = refl
potential_is (x ∷ p) (suc v) = potential_is p v

-- a difference of differences, in parts
difference : (a b k : ℕ)
    → up ((pos a -ℤ pos b) -ℤ (pos k -ℤ pos kink_zero)) + (b + k) ≡ down ((pos a -ℤ pos b) -ℤ (pos k -ℤ pos kink_zero)) + (a + kink_zero)
unfolding up down
difference a b k =
    let z : ℤ = pos k -ℤ pos kink_zero in
    omega (
      arith,
      sum_parts (pos a -ℤ pos b) (neg_ℤ z),
      sum_parts (pos a) (neg_ℤ (pos b)),
      sum_parts (pos k) (neg_ℤ (pos kink_zero)),
      up_neg (pos b),
      down_neg (pos b),
      up_neg (pos kink_zero),
      down_neg (pos kink_zero),
      up_neg z,
      down_neg z,
    )

-- the two sides, and how far the arc is past its kink
sides : (a p : List ℕ) (i : ℕ)
    → up (past_kink (integers p) (arc_at a i)) + tail_side a p i ≡ down (past_kink (integers p) (arc_at a i)) + head_side a p i
sides a p i =
    rw (potential_is p (number a i head_at), potential_is p (number a i tail_at))
    (difference (coordinate p (number a i head_at)) (coordinate p (number a i tail_at)) (number a i kink_at))

-- right of the kink
right : (a : Arc) (d : ℤ) → down d < up d → legal_at a d ≡ finite a.high
unfolding up down
right a (pos zero) h = absurd (omega arith)
right a (pos (suc n)) h = refl
right a (negsuc n) h = absurd (omega arith)

-- left of the kink
left : (a : Arc) (d : ℤ) → up d < down d → legal_at a d ≡ finite a.low
unfolding up down
left a (pos n) h = absurd (omega arith)
left a (negsuc n) h = refl

-- on the kink
on : (a : Arc) (d : ℤ) → up d ≡ down d → legal_at a d ≡ true
unfolding up down
on a (pos zero) h = refl
on a (pos (suc n)) h = absurd (omega arith)
on a (negsuc n) h = absurd (omega arith)

-- a limit is finite where its number is not that of none
set_finite : (b : Bool) (z : ℤ) → not b ≡ finite (cond b unlimited (limit z))
set_finite true z = refl
set_finite false z = refl

-- the code's two sides: h of the head, t of the tail
pub record SidesAre (a p : List ℕ) (i h t : ℕ) : Type 0 where
  pub head : h ≡ head_side a p i
  pub tail : t ≡ tail_side a p i

-- the same, from what the code reads
pub sides_are : (a p : List ℕ) (i : ℕ) {u v k x y : ℕ} → u ≡ number a i head_at → Small x (coordinate p u)
    → v ≡ number a i tail_at → Small y (coordinate p v) → k ≡ number a i kink_at → SidesAre a p i (x + kink_zero) (y + k)
sides_are a p i u x v y k = record {
  head = ap (λ (n : ℕ). n + kink_zero) (x.is ∙ ap (coordinate p) u);
  tail = ap₂ ◌+◌ (y.is ∙ ap (coordinate p) v) k;
}

module _ {a p : List ℕ} {i h t : ℕ} (s : SidesAre a p i h t) where
  -- right of the kink the high limit decides
  pub legal_right : {n : ℕ} → n ≡ number a i high_at → t < h → not (eqb n high_none) ≡ legal (integers p) (arc_at a i)
  unfolding high_of
  legal_right w l =
      ap (λ (n : ℕ). not (eqb n high_none)) w
      ∙ set_finite (eqb (number a i high_at) high_none) (pos (number a i high_at) -ℤ pos flow_zero)
      ∙ sym (right (arc_at a i) (past_kink (integers p) (arc_at a i)) (omega (arith, sides a p i)))

  -- left of it the low limit
  pub legal_left : {n : ℕ} → n ≡ number a i low_at → h < t → not (eqb n low_none) ≡ legal (integers p) (arc_at a i)
  unfolding low_of
  legal_left w l =
      ap (λ (n : ℕ). not (eqb n low_none)) w
      ∙ set_finite (eqb (number a i low_at) low_none) (pos (number a i low_at) -ℤ pos flow_zero)
      ∙ sym (left (arc_at a i) (past_kink (integers p) (arc_at a i)) (omega (arith, sides a p i)))

  -- on it every arc is legal
  pub legal_on : h ≡ t → true ≡ legal (integers p) (arc_at a i)
  legal_on e = sym (on (arc_at a i) (past_kink (integers p) (arc_at a i)) (omega (arith, sides a p i)))

-- no low limit
pub low_open : (n : ℕ) (y : ℤ) → n ≡ low_none → true ≡ at_least y (low_of n)
unfolding low_of
low_open n y e = rw (eq-eqb n low_none e)

-- a low limit
pub low_set : (n : ℕ) (y : ℤ) → (n ≡ low_none → ⊥) → le_z (pos n -ℤ pos flow_zero) y ≡ at_least y (low_of n)
unfolding low_of
low_set n y h = rw (ne_eqb n low_none h)

-- no high limit
pub high_open : (n : ℕ) (y : ℤ) → n ≡ high_none → true ≡ at_most y (high_of n)
unfolding high_of
high_open n y e = rw (eq-eqb n high_none e)

-- a high limit
pub high_set : (n : ℕ) (y : ℤ) → (n ≡ high_none → ⊥) → le_z y (pos n -ℤ pos flow_zero) ≡ at_most y (high_of n)
unfolding high_of
high_set n y h = rw (ne_eqb n high_none h)

module _ (a : List ℕ) (y : List ℤ) (i : ℕ) {x : ℤ} {n : ℕ} {b : Bool} (is : x ≡ get_or y i (pos 0)) (low : n ≡ number a i low_at)
    (test : b ≡ at_least x (low_of n)) where
  -- what the test of the low limit says of the flow
  at_low : b ≡ at_least (get_or y i (pos 0)) (low_of (number a i low_at))
  at_low = test ∙ ap₂ (λ (y : ℤ) (n : ℕ). at_least y (low_of n)) is low

  -- where it fails, the flow is not allowed
  pub below_low : b ≡ false → false ≡ allowed (flow_at a y i)
  below_low t =
      sym
      (ap (λ (c : Bool). c && at_most (get_or y i (pos 0)) (high_of (number a i high_at))) (sym at_low ∙ t))

  -- where it passes, the test of the high limit decides
  pub above_low : b ≡ true → {x : ℤ} {n : ℕ} {r : Bool} → x ≡ get_or y i (pos 0) → n ≡ number a i high_at
      → r ≡ at_most x (high_of n)
      → r ≡ allowed (flow_at a y i)
  above_low t same high e =
      e ∙ ap₂ (λ (y : ℤ) (n : ℕ). at_most y (high_of n)) same high
      ∙ sym (ap (λ (c : Bool). c && at_most (get_or y i (pos 0)) (high_of (number a i high_at))) (sym at_low ∙ t))
