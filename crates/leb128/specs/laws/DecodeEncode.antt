-- The laws of the number form, for every count of bytes allowed: decoding an encoded number gives it back and stops
-- right behind it, and encoding a decoded number gives its bytes again.
use Rattle.std.specs.Prelude.{ℕ, zero, suc, ◌+◌, ◌-◌, ◌*◌, ◌/◌, ◌%◌, ◌^◌, ◌<◌, ◌≤◌, ◌≡◌, refl, true, false, List, [], ◌∷◌, ◌++◌, length, ltb}
use Rattle.std.proofs.Common.{sym, ◌∙◌, ap, ⊎_elim, arith, pow-suc, div-lt_iff_lt-mul, lit<, lt-ltb, le-ltb, ne_eqb}
use Rattle.std.proofs.Math.Nat.{one-le-pow}
use Rattle.leb128.specs.Number.{Decoded, encode, decode, grouped, AreBytes, Encoded}
use Rattle.leb128.specs.Number.Decoded.{number, ended, overlong}
use Rattle.leb128.specs.laws.Cases.{test, lt_or_le, eq_or_ne}

-- the definitions, case by case
pub encode_last : (k n : ℕ) → n < 128 → encode (suc k) n ≡ n ∷ []
unfolding encode
encode_last k n h = rw (lt-ltb n 128 h)

-- a group that goes on
pub encode_more : (k n : ℕ) → 128 ≤ n → encode (suc k) n ≡ (n % 128 + 128) ∷ encode k (n / 128)
unfolding encode
encode_more k n h = rw (le-ltb n 128 h)

-- a last byte
pub decode_last : (k b : ℕ) (bytes : List ℕ) → b < 128 → decode (suc k) (b ∷ bytes) ≡ number b 1
unfolding decode
decode_last k b bytes h = rw (lt-ltb b 128 h)

-- a byte that goes on
pub decode_more : (k b : ℕ) (bytes : List ℕ) → 128 ≤ b → decode (suc k) (b ∷ bytes) ≡ grouped (b - 128) (decode k bytes)
unfolding decode
decode_more k b bytes h = rw (le-ltb b 128 h)

-- groups above are shifted by one group
pub grouped_number : (low high size : ℕ) → 0 < high → grouped low (number high size) ≡ number (low + 128 * high) (suc size)
unfolding grouped
grouped_number low high size h = rw (ne_eqb high 0 (omega arith))

-- a needless last byte
pub grouped_zero : (low size : ℕ) → grouped low (number 0 size) ≡ overlong
unfolding grouped
grouped_zero low size = refl

-- decoding an encoded number
last_back : (k n : ℕ) (rest : List ℕ) → n < 128 → decode (suc k) (encode (suc k) n ++ rest) ≡ number n (length (encode (suc k) n))
last_back k n rest h = rw (encode_last k n h) (decode_last k n rest h)

-- decoding a group that goes on
more_back : (k n : ℕ) (rest : List ℕ) → 128 ≤ n
    → decode k (encode k (n / 128) ++ rest) ≡ number (n / 128) (length (encode k (n / 128)))
    → decode (suc k) (encode (suc k) n ++ rest) ≡ number n (length (encode (suc k) n))
more_back k n rest h again =
    rw (encode_more k n h)
    (decode_more k (n % 128 + 128) (encode k (n / 128) ++ rest) (omega arith)
    ∙ (rw again (grouped_number (n % 128 + 128 - 128) (n / 128) (length (encode k (n / 128))) (omega arith)
    ∙ ap (λ (m : ℕ). number m (suc (length (encode k (n / 128))))) (omega arith))))

-- decoding gives an encoded number back, and stops right behind it
pub decode_encode : (k n : ℕ) (rest : List ℕ) → n < 128 ^ suc k
    → decode (suc k) (encode (suc k) n ++ rest) ≡ number n (length (encode (suc k) n))
decode_encode zero n rest h = last_back zero n rest h
decode_encode (suc k) n rest h =
    ⊎_elim
    (λ (short : n < 128). last_back (suc k) n rest short)
    (λ (long : 128 ≤ n). more_back (suc k) n rest long (decode_encode k (n / 128) rest ((div-lt_iff_lt-mul (lit< tt)).1 (rw pow-suc at h))))
    (lt_or_le n 128)

-- the same, where some byte is allowed
pub decode_back : (k n : ℕ) (rest : List ℕ) → 0 < k → n < 128 ^ k → decode k (encode k n ++ rest) ≡ number n (length (encode k n))
decode_back zero n rest pos h = absurd (omega arith)
decode_back (suc k) n rest pos h = decode_encode k n rest h

-- no more bytes than are allowed
pub encode_most : (k n : ℕ) → length (encode k n) ≤ k
unfolding encode
encode_most zero n = omega arith
encode_most (suc k) n =
    ⊎_elim
    (λ (short : n < 128). rw (encode_last k n short) (omega arith))
    (λ (long : 128 ≤ n). rw (encode_more k n long) (omega (arith, encode_most k (n / 128))))
    (lt_or_le n 128)

-- an end is no number
pub ended_not : (n size : ℕ) → ended ≡ number n size → ⊥
ended_not n size e = let z : ◌≡◌ {A = ℕ} 0 1 = cc in omega arith

-- a number that is too long is none
pub overlong_not : (n size : ℕ) → overlong ≡ number n size → ⊥
overlong_not n size e = let z : ◌≡◌ {A = ℕ} 0 1 = cc in omega arith

-- encoding a last byte
last_bytes : (k b : ℕ) (bytes : List ℕ) → b < 128 → Encoded (suc k) b 1 (b ∷ bytes)
last_bytes k b bytes h =
    record {
      below = rw pow-suc (omega (arith, one-le-pow k 128 (lit< tt)));
      size_is = rw (encode_last k b h);
      bytes_are = rw (encode_last k b h);
    }

-- encoding a byte that goes on
more_bytes : (k b n size : ℕ) (bytes : List ℕ) → 128 ≤ b → b < 256 → 0 < n → Encoded k n size bytes
    → Encoded (suc k) (b - 128 + 128 * n) (suc size) (b ∷ bytes)
more_bytes k b n size bytes low high pos r =
    let m : ℕ = b - 128 + 128 * n in
    let is-low : m % 128 + 128 ≡ b = omega arith in
    let is-high : m / 128 ≡ n = omega arith in
    let shape : encode (suc k) m ≡ b ∷ encode k n = encode_more k m (omega arith) ∙ rw (is-low, is-high) in
    record {
      below = rw pow-suc (omega (arith, r.below));
      size_is = ap length shape ∙ ap suc r.size_is;
      bytes_are = rw shape (ap (λ (l : List ℕ). b ∷ l) r.bytes_are);
    }

-- encoding gives a decoded number's bytes again
pub encode_decode : (k n size : ℕ) (bytes : List ℕ) → AreBytes bytes → decode k bytes ≡ number n size → Encoded k n size bytes
unfolding decode grouped
encode_decode zero n size bytes h e = absurd (overlong_not n size e)
encode_decode (suc k) n size [] h e = absurd (ended_not n size e)
encode_decode (suc k) n size (b ∷ bytes) h e =
    ⊎_elim
    (λ (short : b < 128).
    let q : number b 1 ≡ number n size = sym (decode_last k b bytes short) ∙ e in
    let is-n : n ≡ b = cc in
    let is-size : size ≡ 1 = cc in
    rw (is-n, is-size) (last_bytes k b bytes short))
    (λ (long : 128 ≤ b). go (encode_decode k) (decode k bytes) refl (sym (decode_more k b bytes long) ∙ e) long)
    (lt_or_le b 128)
  where
    go : ((n size : ℕ) (bytes : List ℕ) → AreBytes bytes → decode k bytes ≡ number n size → Encoded k n size bytes)
        → (d : Decoded) → decode k bytes ≡ d → grouped (b - 128) d ≡ number n size → 128 ≤ b
        → Encoded (suc k) n size (b ∷ bytes)
    go again (number high s) q e low =
        ⊎_elim
        (λ (z : high ≡ 0). absurd (overlong_not n size (sym (grouped_zero (b - 128) s) ∙ (rw z at e))))
        (λ (z : high ≡ 0 → ⊥).
        let pos : 0 < high = omega arith in
        let w : number (b - 128 + 128 * high) (suc s) ≡ number n size = sym (grouped_number (b - 128) high s pos) ∙ e in
        let is-n : n ≡ b - 128 + 128 * high = cc in
        let is-size : size ≡ suc s = cc in
        rw (is-n, is-size) (more_bytes k b high s bytes low (h 0) pos (again high s bytes (λ i. h (suc i)) q)))
        (eq_or_ne high 0)
    go again ended q e low = absurd (ended_not n size e)
    go again overlong q e low = absurd (overlong_not n size e)

-- a number takes a byte at least, and no more than are allowed
pub decode_size : (k n size : ℕ) (bytes : List ℕ) → decode k bytes ≡ number n size → (0 < size) × (size ≤ k)
unfolding decode grouped
decode_size zero n size bytes e = absurd (overlong_not n size e)
decode_size (suc k) n size [] e = absurd (ended_not n size e)
decode_size (suc k) n size (b ∷ bytes) e =
    ⊎_elim
    (λ (t : ltb b 128 ≡ true). let q : number b 1 ≡ number n size = rw t at e in let s : 1 ≡ size = cc in (omega arith, omega arith))
    (λ (t : ltb b 128 ≡ false). go (λ m s. decode_size k m s bytes) (decode k bytes) refl (rw t at e))
    (test (ltb b 128))
  where
    go : ((m s : ℕ) → decode k bytes ≡ number m s → (0 < s) × (s ≤ k)) → (d : Decoded) → decode k bytes ≡ d
        → grouped (b - 128) d ≡ number n size → (0 < size) × (size ≤ suc k)
    go again (number high s) q e =
        ⊎_elim
        (λ (z : high ≡ 0). absurd (overlong_not n size (sym (grouped_zero (b - 128) s) ∙ (rw z at e))))
        (λ (z : high ≡ 0 → ⊥).
        let w : number (b - 128 + 128 * high) (suc s) ≡ number n size = sym (grouped_number (b - 128) high s (omega arith)) ∙ e in
        let is-size : suc s ≡ size = cc in (omega arith, omega (arith, again high s q)))
        (eq_or_ne high 0)
    go again ended q e = absurd (ended_not n size e)
    go again overlong q e = absurd (overlong_not n size e)
