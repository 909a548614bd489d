-- Numbers in decimal digits, always the fewest.
use Rattle.std.specs.Prelude.{ℕ, zero, suc, ◌/◌, List}
use Rattle.io.specs.Digits.{last_digits}

-- how many digits n has, none of them for 0; n is at most k
unfoldable pub digit_count : ℕ → ℕ → ℕ
digit_count zero n = 0
digit_count (suc k) zero = 0
digit_count (suc k) (suc n) = suc (digit_count k (suc n / 10))

-- n in decimal digits, in ASCII: the last one, and before it those of what stands there
unfoldable pub decimal : ℕ → List ℕ
decimal n = last_digits 10 (suc (digit_count n (n / 10))) n
