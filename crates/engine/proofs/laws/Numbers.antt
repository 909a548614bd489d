-- A stored flow, read back, is a small number.
use Prim.Native.Nat.{ℕ, ◌≤◌}
use native.Mathlib.Omega.{arith}
use lib.IntN.{nat_abs}
use Rattle.network.specs.Packed.{flow_zero, high_none}
use Rattle.network.specs.laws.IntegerParts.{min_parts, less_parts}
use Rattle.network.specs.laws.Sizes.{size_parts}
use Rattle.engine.specs.inside.Results.{number_of}

-- its size is at most 2^28
pub number_size : (x : ℕ) → x ≤ high_none → nat_abs (number_of x) ≤ flow_zero
number_size x h = omega (arith, size_parts (number_of x), min_parts (number_of x), less_parts x flow_zero)
