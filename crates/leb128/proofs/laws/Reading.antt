-- The number reader's loop: the groups read so far are a value below their weight, and what follows is collected onto it.
use Prim.Native.Nat.{ℕ, suc, ◌+◌, ◌-◌, ◌*◌, ◌^◌, ◌<◌, ◌≤◌}
use mathlib.Core.Path.{◌≡◌, refl, sym, ◌∙◌, ap}
use mathlib.Core.Bool.{Bool, true, false, cond, ◌&&◌}
use mathlib.Core.Logic.{⊎_elim}
use mathlib.Core.List.{List, ◌∷◌}
use native.Mathlib.Omega.{arith}
use native.Mathlib.Nat.{pow-suc, mul-suc, pow-le-pow_right, mul-le-mul_left, mul-add, mul_assoc, add_assoc}
use native.Mathlib.Numerals.{add-one}
use lib.ListN.{length, get_or, drop, drop_of_length-le}
use lib.Seq.{drop-cons}
use lib.Dec.{eqb, ltb, lit<}
use borrow.Author.Tests.{lt-ltb, le-ltb, ne_eqb}
use Rattle.leb128.specs.Limits.{number_bytes, number_limit}
use Rattle.leb128.specs.Refusals.{input_ended, number_form}
use Rattle.leb128.specs.Number.{Decoded, decode, grouped}
use Rattle.leb128.specs.Number.Decoded.{number, ended, overlong}
use Rattle.leb128.specs.Source.{Item, refusal, decoded_item, byte_item}
use Rattle.leb128.specs.Source.Item.{value, refused}
use Rattle.leb128.specs.laws.Cases.{eq_or_ne}
use Rattle.leb128.specs.laws.DecodeEncode.{decode_last, decode_more}

-- the item at a position, where what follows the value v of weight w at next is decoded
pub collected : List ℕ → ℕ → ℕ → ℕ → ℕ → Decoded → Item
collected bytes at v w next (number high size) =
    cond (eqb high 0 && ltb at next) (refused (refusal number_form at)) (value (v + w * high) (next + size))
collected bytes at v w next ended = refused (refusal input_ended (length bytes))
collected bytes at v w next overlong = refused (refusal number_form at)

-- a conjunction with false
and_false : (b : Bool) → (b && false) ≡ false
and_false true = refl
and_false false = refl

-- at the start nothing is collected
collected_none : (bytes : List ℕ) (at : ℕ) (d : Decoded) → decoded_item bytes at d ≡ collected bytes at 0 1 at d
unfolding collected decoded_item
collected_none bytes at (number n size) = let e : n ≡ 0 + 1 * n = omega arith in rw (le-ltb at at (omega arith), and_false (eqb n 0)) (ap (λ (m : ℕ). value m (at + size)) e)
collected_none bytes at ended = refl
collected_none bytes at overlong = refl

-- what lies above a group weighs 128 times as much
weighted : (v w low high : ℕ) → v + w * (low + 128 * high) ≡ v + w * low + w * 128 * high
weighted v w low high = rw (mul-add w low (128 * high), ← mul_assoc w 128 high) (sym (add_assoc v (w * low) (w * 128 * high)))

-- a group that is read goes from the rest to the value
collected_group : (bytes : List ℕ) (at v w next low : ℕ) (d : Decoded) → at ≤ next
    → collected bytes at v w next (grouped low d) ≡ collected bytes at (v + w * low) (w * 128) (next + 1) d
unfolding collected grouped
collected_group bytes at v w next low (number high size) h =
    ⊎_elim
    (λ (z : high ≡ 0). rw (z, lt-ltb at (next + 1) (omega arith)))
    (λ (z : high ≡ 0 → ⊥).
    let s : next + suc size ≡ next + 1 + size = omega arith in
    rw (ne_eqb high 0 z, ne_eqb (low + 128 * high) 0 (omega arith), weighted v w low high, s))
    (eq_or_ne high 0)
collected_group bytes at v w next low ended h = refl
collected_group bytes at v w next low overlong h = refl

-- the state of the loop: i bytes are read, and each says that another follows
pub record Reading (bytes : List ℕ) (at v w i : ℕ) : Type 0 where
  pub turns : i ≤ number_bytes
  pub inside : 0 < i → at + i ≤ length bytes
  pub power : w ≡ 128 ^ i
  pub below : v < w
  pub same : byte_item bytes at ≡ collected bytes at v w (at + i) (decode (number_bytes - i) (drop (at + i) bytes))

-- the loop begins with nothing read
pub reading_begin : (bytes : List ℕ) (at : ℕ) → Reading bytes at 0 1 0
unfolding byte_item
reading_begin bytes at =
    let e : at + 0 ≡ at = omega arith in
    record {
      turns = omega arith;
      inside = λ (h : 0 < 0). absurd (omega arith);
      power = refl;
      below = omega arith;
      same = rw e (collected_none bytes at (decode number_bytes (drop at bytes)));
    }

module _ {bytes : List ℕ} {at v w i : ℕ} (state : Reading bytes at v w i) where
  -- no byte more is allowed
  pub reading_long : number_bytes ≤ i → refused (refusal number_form at) ≡ byte_item bytes at
  unfolding collected decode
  reading_long h = let e : number_bytes - i ≡ 0 = omega arith in sym (rw e at state.same)

  module _ (more : i < number_bytes) where
    -- one byte more is allowed
    one_more : number_bytes - i ≡ suc (number_bytes - (i + 1))
    one_more = omega arith

    -- what is to be decoded at the next byte
    here : byte_item bytes at ≡ collected bytes at v w (at + i) (decode (suc (number_bytes - (i + 1))) (drop (at + i) bytes))
    here = state.same ∙ ap (λ (k : ℕ). collected bytes at v w (at + i) (decode k (drop (at + i) bytes))) one_more

    -- the input ends here
    pub reading_ended : length bytes ≤ at + i → refused (refusal input_ended (length bytes)) ≡ byte_item bytes at
    unfolding collected decode
    reading_ended h = sym (rw (drop_of_length-le bytes h) at here)

    -- what the code's sums stay below
    heavier : w * 128 ≡ 128 ^ (i + 1)
    heavier = rw (add-one i, pow-suc, ← state.power)

    -- the next weight is no greater than the limit
    pub weight_most : w * 128 ≤ number_limit
    weight_most = rw heavier (pow-le-pow_right {n = 128} (lit< tt) {i = i + 1} {j = number_bytes} (omega arith))

    -- a group's share of the value stays below the next weight
    group_most : (group : ℕ) → group < 128 → w * group + w ≤ w * 128
    group_most group h = rw (mul_suc' group) at (mul-le-mul_left w h)
      where
        mul_suc' : (k : ℕ) → w * suc k ≡ w * k + w
        mul_suc' k = mul-suc w k

    -- with a group the value stays below the limit
    pub value_most : (group : ℕ) → group < 128 → v + w * group < number_limit
    value_most group h = omega (arith, state.below, weight_most, group_most group h)

    module _ (group : ℕ) (there : at + i < length bytes) (is-group : group ≡ get_or bytes (at + i) 0) where
      -- the group that stands at the next byte
      found : byte_item bytes at ≡ collected bytes at v w (at + i) (decode (suc (number_bytes - (i + 1))) (group ∷ drop (at + i + 1) bytes))
      found = rw (is-group, add-one (at + i), ← drop-cons bytes (at + i) 0 there) here

      module _ (last : group < 128) where
        -- a last group ends the number
        found_last : byte_item bytes at ≡ cond (eqb group 0 && ltb at (at + i)) (refused (refusal number_form at)) (value (v + w * group) (at + i + 1))
        unfolding collected
        found_last = found ∙ rw (decode_last (number_bytes - (i + 1)) group (drop (at + i + 1) bytes) last)

        -- a last byte 00 that is not the only one is refused
        pub reading_needless : group ≡ 0 → 0 < i → refused (refusal number_form at) ≡ byte_item bytes at
        reading_needless z h = sym (rw (z, lt-ltb at (at + i) (omega arith)) at found_last)

        -- the number is whole
        pub reading_value : (group ≡ 0 → 0 < i → ⊥) → value (v + w * group) (at + i + 1) ≡ byte_item bytes at
        reading_value h =
            sym
            (found_last
            ∙ ⊎_elim
            (λ (z : group ≡ 0). rw (z, le-ltb at (at + i) (omega (arith, h z))))
            (λ (z : group ≡ 0 → ⊥). rw (ne_eqb group 0 z))
            (eq_or_ne group 0))

      -- a group that goes on is collected
      pub reading_next : 128 ≤ group → group < 256 → Reading bytes at (v + w * (group - 128)) (w * 128) (i + 1)
      reading_next long byte =
          let e : at + (i + 1) ≡ at + i + 1 = omega arith in
          record {
            turns = omega arith;
            inside = λ (_ : 0 < i + 1). omega arith;
            power = heavier;
            below = omega (arith, state.below, group_most (group - 128) (omega arith));
            same =
                rw e
                (found
                ∙ (ap (collected bytes at v w (at + i)) (decode_more (number_bytes - (i + 1)) group (drop (at + i + 1) bytes) long)
                ∙ collected_group bytes at v w (at + i) (group - 128) (decode (number_bytes - (i + 1)) (drop (at + i + 1) bytes))
                (omega arith)));
          }
