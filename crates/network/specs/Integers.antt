-- Integers: equality as a test, an integer as a difference of natural numbers, and how far one lies above another.
use Rattle.std.specs.Prelude.{ℕ, suc, ◌+◌, ◌-◌, Bool, false, eqb, ℤ, pos, negsuc}

-- the same integer
abbrev pub eqZ : ℤ → ℤ → Bool
eqZ (pos a) (pos b) = eqb a b
eqZ (pos a) (negsuc b) = false
eqZ (negsuc a) (pos b) = false
eqZ (negsuc a) (negsuc b) = eqb a b

-- how far above 0
unfoldable pub up : ℤ → ℕ
up (pos n) = n
up (negsuc n) = 0

-- how far below 0
unfoldable pub down : ℤ → ℕ
down (pos n) = 0
down (negsuc n) = suc n

-- b − a, where a ≤ b
unfoldable pub gap : ℤ → ℤ → ℕ
gap a b = up b + down a - (up a + down b)
