-- A number's decimal digits are the fewest that hold it; so a greater number has no fewer.
use Rattle.std.specs.Prelude.{ℕ, zero, suc, ◌+◌, ◌-◌, ◌/◌, ◌^◌, ◌≤◌, ◌<◌, ◌≡◌, refl, length}
use Rattle.std.proofs.Common.{◌∙◌, ap, ⊎_elim, le_antisymm, pow-suc, arith, length-append}
use Rattle.std.proofs.Math.Nat.{pow-le-pow_right}
use Rattle.io.specs.Digits.{last_digits, IsDigitCount}
use Rattle.leb128.specs.laws.Cases.{lt_or_le}
use Rattle.report.specs.Decimal.{digit_count, decimal}

-- k digits are k characters
pub digits_length : (b k n : ℕ) → length (last_digits b k n) ≡ k
digits_length b zero n = refl
digits_length b (suc k) n =
    length-append (last_digits b k (n / b)) _ ∙ ap (λ (m : ℕ). m + 1) (digits_length b k (n / b)) ∙ omega arith

-- a power of ten is not 0
one_le : (c : ℕ) → 1 ≤ 10 ^ c
one_le c = pow-le-pow_right {n = 10} (omega arith) {i = 0} {j = c} (omega arith)

-- a digit more: what stands before the last digit has c digits
ten_times : (n c : ℕ) → 0 < n → (0 < c → 10 ^ (c - 1) ≤ n / 10) → 10 ^ c ≤ n
ten_times n zero h low = omega arith
ten_times n (suc c) h low =
    let less : suc c - 1 ≡ c = omega arith in
    let small : 10 ^ c ≤ n / 10 = rw less at (low (omega arith)) in
    rw (pow-suc 10 c) (omega arith)

-- a number is below the power of ten that its digits give, and not below the one before
count_holds : (k n : ℕ) → n ≤ k → (n < 10 ^ digit_count k n) × (0 < digit_count k n → 10 ^ (digit_count k n - 1) ≤ n)
unfolding digit_count
count_holds zero zero h = (omega arith, λ i. absurd (omega arith))
count_holds (suc k) zero h = (omega arith, λ i. absurd (omega arith))
count_holds zero (suc n) h = absurd (omega arith)
count_holds (suc k) (suc n) h =
    let f = count_holds k (suc n / 10) (omega arith) in
    let c : ℕ = digit_count k (suc n / 10) in
    let less : suc c - 1 ≡ c = omega arith in
    (rw (pow-suc 10 c) (omega (arith, f.0)), λ i. rw less (ten_times (suc n) c (omega arith) f.1))

-- how many digits a number is written with
abbrev size : ℕ → ℕ
size n = suc (digit_count n (n / 10))

-- they are the fewest that hold it
pub decimal_fewest : (n : ℕ) → IsDigitCount 10 1 n (suc (digit_count n (n / 10)))
decimal_fewest n =
    let f = count_holds n (n / 10) (omega arith) in
    let c : ℕ = digit_count n (n / 10) in
    let less : suc c - 1 ≡ c = omega arith in (
      omega arith,
      rw (pow-suc 10 c) (omega (arith, f.0)),
      λ i. rw less (ten_times n c (omega (arith, f.1 (omega arith), one_le (c - 1))) f.1),
    )

-- a greater number has no fewer digits
fewest_le : {n m a b : ℕ} → n ≤ m → IsDigitCount 10 1 n a → IsDigitCount 10 1 m b → a ≤ b
fewest_le {n} {m} {a} {b} h f g =
    ⊎_elim
    (λ (i : b < a).
    let more : 10 ^ b ≤ 10 ^ (a - 1) = pow-le-pow_right (omega arith) (omega arith) in
    absurd (omega (arith, f.2 (omega (arith, g.0)), g.1)))
    (λ (i : a ≤ b). i)
    (lt_or_le b a)

-- the fewest digits that hold a number are its decimal digits
pub digits_decimal : {n k : ℕ} → IsDigitCount 10 1 n k → last_digits 10 k n ≡ decimal n
unfolding decimal
digits_decimal {n} {k} f =
    let same : k ≡ size n = le_antisymm (fewest_le (omega arith) f (decimal_fewest n)) (fewest_le (omega arith) (decimal_fewest n) f) in
    ap (λ (j : ℕ). last_digits 10 j n) same

-- a greater number is no shorter
pub decimal_le : {n m : ℕ} → n ≤ m → length (decimal n) ≤ length (decimal m)
unfolding decimal
decimal_le {n} {m} h =
    omega (arith, fewest_le h (decimal_fewest n) (decimal_fewest m), digits_length 10 (size n) n, digits_length 10 (size m) m)
