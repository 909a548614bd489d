-- The size of an integer, `nat_abs`, for showing that sums and products fit a width.
use Rattle.std.specs.Prelude.{zero, suc, ◌+◌, ◌*◌, ◌≤◌, ◌<◌, ◌^◌, ◌≡◌, refl, ℤ, pos, negsuc, neg_ℤ, ◌+ℤ◌, ◌*ℤ◌, nat_abs}
use Rattle.std.proofs.Common.{arith}
use Rattle.std.specs.Int.Signed.{mag, nat_abs-le}
use Rattle.std.specs.Int.{Width}
use mir.Val.{SFits, hbits}
use Rattle.network.specs.laws.IntegerParts.{sum_parts, min_parts}
use Rattle.network.specs.Integers.{down, up}

-- the size in the parts
pub size_parts : (a : ℤ) → nat_abs a ≡ up a + down a
unfolding up down
size_parts (pos n) = omega arith
size_parts (negsuc n) = omega arith

-- a negation has the same size
pub size_neg : (a : ℤ) → nat_abs (neg_ℤ a) ≡ nat_abs a
size_neg (pos zero) = refl
size_neg (pos (suc n)) = refl
size_neg (negsuc n) = refl

-- a sum is no larger than both together
pub size_add : (a b : ℤ) → nat_abs (a +ℤ b) ≤ nat_abs a + nat_abs b
size_add a b = omega (arith, sum_parts a b, min_parts (a +ℤ b), size_parts (a +ℤ b), size_parts a, size_parts b)

-- the size of a product
pub size_mul : (a b : ℤ) → nat_abs (a *ℤ b) ≡ nat_abs a * nat_abs b
size_mul (pos a) (pos b) = refl
size_mul (pos a) (negsuc b) = size_neg (pos (a * suc b))
size_mul (negsuc a) (pos b) = size_neg (pos (suc a * b))
size_mul (negsuc a) (negsuc b) = refl

-- a width's own measure is no larger
mag_le : (a : ℤ) → mag a ≤ nat_abs a
mag_le (pos n) = omega arith
mag_le (negsuc n) = omega arith

-- a small integer fits
pub size_fits : {w : Width} {a : ℤ} → nat_abs a < 2 ^ hbits w → SFits w a
size_fits {w} {a} h = record { sfits = omega (arith, mag_le a) }

-- an integer that fits is small
pub fits_size : {w : Width} {a : ℤ} → SFits w a → nat_abs a ≤ 2 ^ hbits w
fits_size {w} {a} f = nat_abs-le a f.sfits
