-- What stands at a position of a list or of bytes, and where it ends.
use Rattle.std.specs.Prelude.{ℕ, ◌+◌, ◌<◌, ◌≤◌, ◌≡◌, refl, List, ◌++◌, length, get_or, drop}
use Rattle.std.proofs.Common.{ap, arith, length-drop, lt-ltb, le-ltb}
use Rattle.std.proofs.lemmas.List.{drop-append-le}
use Rattle.std.proofs.Math.Seq.{drop-append_seam, drop-drop, get_or-drop}
use Rattle.leb128.specs.Refusals.{input_ended}
use Rattle.leb128.specs.Limits.{number_bytes, number_limit}
use Rattle.leb128.specs.Number.{Decoded, encode, decode, AreBytes}
use Rattle.leb128.specs.Number.Decoded.{number, ended, overlong}
use Rattle.leb128.specs.Source.{refusal, decoded_item, byte_item, list_item}
use Rattle.leb128.specs.Source.Item.{value, refused}
use Rattle.leb128.specs.laws.DecodeEncode.{decode_size, decode_back, encode_decode}
use Rattle.leb128.specs.laws.DecodeFront.{decode_front, decode_not_ended}

module _ (numbers : List ℕ) (at : ℕ) where
  -- behind the list
  pub list_ended : length numbers ≤ at → list_item numbers at ≡ refused (refusal input_ended (length numbers))
  unfolding list_item
  list_ended h = rw (le-ltb at (length numbers) h)

  -- in the list
  pub list_value : at < length numbers → list_item numbers at ≡ value (get_or numbers at 0) (at + 1)
  unfolding list_item
  list_value h = rw (lt-ltb at (length numbers) h)

-- a value in the bytes was decoded there
value_decoded : (bytes : List ℕ) (at n after : ℕ) (d : Decoded) → decoded_item bytes at d ≡ value n after
    → (size : ℕ) × (d ≡ number n size) × (after ≡ at + size)
unfolding decoded_item
value_decoded bytes at n after (number m size) e =
    let is-n : m ≡ n = cc in
    let is-after : after ≡ at + size = cc in
    (size, ap (λ (k : ℕ). number k size) is-n, is-after)
value_decoded bytes at n after ended e = let z : ◌≡◌ {A = ℕ} 0 1 = cc in absurd (omega arith)
value_decoded bytes at n after overlong e = let z : ◌≡◌ {A = ℕ} 0 1 = cc in absurd (omega arith)

module _ (bytes : List ℕ) (at n after : ℕ) (there : byte_item bytes at ≡ value n after) where
  -- the next position lies ahead, by no more bytes than are allowed
  pub ahead : (at < after) × (after ≤ at + number_bytes)
  unfolding byte_item
  ahead =
      let d = value_decoded bytes at n after (decode number_bytes (drop at bytes)) there in
      let s = decode_size number_bytes n d.0 (drop at bytes) d.1 in
      (omega (arith, s, d.2), omega (arith, s, d.2))

  -- the number has a form
  pub has_form : AreBytes bytes → n < number_limit
  unfolding byte_item
  has_form h =
      let d = value_decoded bytes at n after (decode number_bytes (drop at bytes)) there in
      (encode_decode number_bytes n d.0 (drop at bytes) (λ i. rw get_or-drop (h (at + i))) d.1).below

  -- the bytes that were passed are the number's
  pub passed : AreBytes bytes → drop at bytes ≡ encode number_bytes n ++ drop after bytes
  unfolding byte_item
  passed h =
      let d = value_decoded bytes at n after (decode number_bytes (drop at bytes)) there in
      let r = encode_decode number_bytes n d.0 (drop at bytes) (λ i. rw get_or-drop (h (at + i))) d.1 in
      rw (d.2, ← drop-drop d.0 at bytes) r.bytes_are

-- a number's bytes behind a front
pub encoded_item : (front rest : List ℕ) (n : ℕ) → n < number_limit
    → byte_item (front ++ (encode number_bytes n ++ rest)) (length front) ≡ value n (length front + length (encode number_bytes n))
unfolding byte_item decoded_item
encoded_item front rest n h =
    rw (drop-append_seam front (encode number_bytes n ++ rest), decode_back number_bytes n rest (omega arith) h)

-- what follows a front does not matter, if as many bytes of the front are left as a number may take
pub front_item : (front rest : List ℕ) (at : ℕ) → at + number_bytes ≤ length front
    → byte_item (front ++ rest) at ≡ byte_item front at
unfolding byte_item decoded_item
front_item front rest at h =
    let enough : number_bytes ≤ length (drop at front) = omega (arith, length-drop at front) in
    rw (drop-append-le at front rest (omega arith), decode_front number_bytes (drop at front) rest enough)
    (alike (decode number_bytes (drop at front)) (decode_not_ended number_bytes (drop at front) enough))
  where
    alike : (d : Decoded) → (d ≡ ended → ⊥) → decoded_item (front ++ rest) at d ≡ decoded_item front at d
    alike (number n size) k = refl
    alike ended k = absurd (k refl)
    alike overlong k = refl
