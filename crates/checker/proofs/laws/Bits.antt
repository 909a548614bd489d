-- What the machine reads back from a signed number's bits is the number, where it fits: by bounds on sizes.
use Prim.Native.Nat.{ℕ, ◌+◌, ◌-◌, ◌*◌, ◌≤◌, ◌<◌, ◌^◌}
use mathlib.Core.Path.{◌≡◌, sym, ◌∙◌, ap, ap₂, subst}
use Rattle.std.proofs.lemmas.Int.{ints}
use native.Mathlib.Nat.{mul-le-mul}
use native.Mathlib.Omega.{arith}
use lib.Dec.{T, eqb, eqb→eq, eqb_refl}
use lib.IntN.{ℤ, pos, nat_abs, neg_ℤ, ◌*ℤ◌, ◌-ℤ◌}
use lib.Signed.{mag, nat_abs-le}
use mir.Facts.{to_z-of_z}
use mir.Syntax.{Width, w32, w64}
use mir.Val.{SFits, hbits, to_z, of_z}
use Rattle.network.specs.Integers.{eqZ, down, up}
use Rattle.network.specs.Packed.{kink_zero}
use Rattle.network.specs.laws.IntegerParts.{sum_parts, min_parts, up_neg, down_neg}
use Rattle.network.specs.laws.Integers.{eqZ→eq, eq→eqZ}
use Rattle.network.specs.laws.Sizes.{size_parts, size_neg, size_add, size_mul, size_fits, fits_size}
use Rattle.network.specs.laws.Tests.{test_ext}
use Rattle.checker.specs.inside.Sizes.{i64_limit, amount_size, term_size}

-- a number read back from its bits, where its size is small
pub read : (z : ℤ) → nat_abs z < i64_limit → to_z w64 (of_z w64 z) ≡ z
read z h = to_z-of_z {w = w64} (size_fits h)

-- a difference of small numbers
pub read_less : (a b : ℤ) → nat_abs a + nat_abs b < i64_limit → to_z w64 (of_z w64 (a -ℤ b)) ≡ a -ℤ b
read_less a b h = read (a -ℤ b) (omega (arith, size_add a (neg_ℤ b), size_neg b))

-- an element of a signed slice
pub element : (w : Width) (z : ℤ) → mag z < 2 ^ hbits w → to_z w (of_z w z) ≡ z
element w z h = to_z-of_z (record { sfits = h })

-- an amount is no larger than 2^31
pub amount_small : (z : ℤ) → mag z < 2 ^ hbits w32 → nat_abs z ≤ amount_size
amount_small z h = nat_abs-le z h

-- the size of a difference of natural numbers
pub difference_size : (n m : ℕ) → nat_abs (pos n -ℤ pos m) ≤ (n - m) + (m - n)
unfolding up down
difference_size n m =
    omega (arith, size_parts (pos n -ℤ pos m), sum_parts (pos n) (neg_ℤ (pos m)), min_parts (pos n -ℤ pos m), up_neg (pos m), down_neg (pos m))

-- an amount times a kink is small
pub term_small : {a : ℤ} (b : ℤ) → SFits w32 a → nat_abs b ≤ kink_zero → nat_abs (a *ℤ b) ≤ term_size
term_small {a} b f g = small (nat_abs a) (nat_abs b) (nat_abs (a *ℤ b)) (size_mul a b) (fits_size f) g
  where
    small : (a b c : ℕ) → c ≡ a * b → a ≤ amount_size → b ≤ kink_zero → c ≤ term_size
    small a b c e f g = omega (arith, mul-le-mul f g)

-- a flow times its kink, as the machine has it: r is the amount y, and k the kink m, with a number added
module _ {r : ℤ} {k m : ℕ} (y : ℤ) (f : SFits w32 y) (e : r ≡ to_z w32 (of_z w32 y)) (g : k ≡ m) (h : m < 2 * kink_zero) where
  -- the kink is small
  kink_small : nat_abs (pos m -ℤ pos kink_zero) ≤ kink_zero
  kink_small = omega (arith, difference_size m kink_zero)

  -- the two numbers
  factors : to_z w64 (of_z w64 r) *ℤ to_z w64 (of_z w64 (to_z w64 k -ℤ pos kink_zero)) ≡ y *ℤ (pos m -ℤ pos kink_zero)
  factors =
      let amount : to_z w64 (of_z w64 r) ≡ y = omega (arith, ints) in
      let kink : to_z w64 (of_z w64 (to_z w64 k -ℤ pos kink_zero)) ≡ pos m -ℤ pos kink_zero = omega (arith, ints) in
      ap₂ ◌*ℤ◌ amount kink

  -- their product fits
  pub product_fits : SFits w64 (to_z w64 (of_z w64 r) *ℤ to_z w64 (of_z w64 (to_z w64 k -ℤ pos kink_zero)))
  product_fits = rw factors (size_fits (omega (arith, term_small (pos m -ℤ pos kink_zero) f kink_small)))

  -- and is a small number
  pub product_is : (to_z w64 (of_z w64 (to_z w64 (of_z w64 r) *ℤ to_z w64 (of_z w64 (to_z w64 k -ℤ pos kink_zero)))) ≡ y *ℤ (pos m -ℤ pos kink_zero))
      × (nat_abs (to_z w64 (of_z w64 (to_z w64 (of_z w64 r) *ℤ to_z w64 (of_z w64 (to_z w64 k -ℤ pos kink_zero))))) ≤ term_size)
  product_is =
      let same = to_z-of_z {w = w64} product_fits ∙ factors in
      (same, omega (arith, ap nat_abs same, term_small (pos m -ℤ pos kink_zero) f kink_small))

-- a test of bits is one of numbers
pub bits_same : (a b : ℤ) → SFits w64 a → SFits w64 b → eqb (of_z w64 a) (of_z w64 b) ≡ eqZ a b
bits_same a b f g = test_ext (eqb (of_z w64 a) (of_z w64 b)) (eqZ a b)
    (λ t. eq→eqZ a b (sym (to_z-of_z f) ∙ ap (to_z w64) (eqb→eq (of_z w64 a) (of_z w64 b) t) ∙ to_z-of_z g))
    (λ t. subst (λ (x : ℤ). T (eqb (of_z w64 a) (of_z w64 x))) (eqZ→eq a b t) (eqb_refl (of_z w64 a)))
