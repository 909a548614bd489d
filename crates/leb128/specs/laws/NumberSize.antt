-- The size of a number is the length of its bytes, with a form or without: what has more bytes than are allowed fills them.
use Rattle.std.specs.Prelude.{ℕ, zero, suc, ◌*◌, ◌/◌, ◌^◌, ◌≤◌, ◌<◌, ◌≡◌, refl, length}
use Rattle.std.proofs.Common.{sym, ap, ⊎_elim, arith, pow-suc, le-div_iff_mul-le, lit<, lt-ltb, le-ltb}
use Rattle.std.proofs.Math.Nat.{one-le-pow}
use Rattle.leb128.specs.Limits.{number_bytes, number_limit}
use Rattle.leb128.specs.Number.{encode}
use Rattle.leb128.specs.Place.{number_size}
use Rattle.leb128.specs.laws.Cases.{lt_or_le}
use Rattle.leb128.specs.laws.DecodeEncode.{encode_more}

-- a number that k bytes do not hold has k bytes
encode_beyond : (k n : ℕ) → 128 ^ k ≤ n → length (encode k n) ≡ k
unfolding encode
encode_beyond zero n h = refl
encode_beyond (suc k) n h =
    let g : 128 ^ k * 128 ≤ n = rw pow-suc at h in
    rw (encode_more k n (omega (arith, one-le-pow k 128 (lit< tt))))
    (ap suc (encode_beyond k (n / 128) ((le-div_iff_mul-le (lit< tt)).1 g)))

-- the size of any number
pub number_size_is : (n : ℕ) → number_size n ≡ length (encode number_bytes n)
unfolding number_size
number_size_is n =
    ⊎_elim
    (λ (h : n < number_limit). rw (lt-ltb n number_limit h))
    (λ (h : number_limit ≤ n). rw (le-ltb n number_limit h) (sym (encode_beyond number_bytes n h)))
    (lt_or_le n number_limit)
