-- The number writer's loops: what is counted or stored so far, and that the rest of the number's form follows.
use Prim.Native.Nat.{ℕ, zero, suc, ◌+◌, ◌-◌, ◌/◌, ◌%◌, ◌^◌, ◌<◌, ◌≤◌}
use mathlib.Core.Path.{◌≡◌, refl, ap}
use mathlib.Core.Logic.{⊎_elim}
use mathlib.Core.List.{List}
use native.Mathlib.Omega.{arith}
use Rattle.std.specs.Prelude.{Result, Ok, Err}
use native.Mathlib.Nat.{pow-suc, div-lt_iff_lt-mul}
use lib.ListN.{length, set}
use lib.Dec.{lit<}
use borrow.Author.Tests.{lt-ltb, le-ltb}
use Rattle.leb128.specs.Limits.{number_bytes, number_limit}
use Rattle.leb128.specs.Number.{encode}
use Rattle.leb128.specs.Place.{Placing, placing, placed, written}
use Rattle.leb128.specs.inside.Storing.{Room, Puts}
use Rattle.leb128.specs.laws.Cases.{lt_or_le}
use Rattle.leb128.specs.laws.DecodeEncode.{encode_last, encode_more}
use Rattle.leb128.specs.laws.Storing.{Left, left_one, left_end}
use Rattle.leb128.specs.declared.Unplaced.{Unplaced}
use Rattle.leb128.specs.declared.Unplaced.TheVariants.{NoForm, NoRoom}

-- the last byte allowed is one byte
last_size : (n : ℕ) → length (encode 1 n) ≡ 1
unfolding encode
last_size n =
    ⊎_elim
    (λ (h : n < 128). rw (encode_last 0 n h))
    (λ (h : 128 ≤ n). rw (encode_more 0 n h))
    (lt_or_le n 128)

-- a number takes a byte at least
some : (k n : ℕ) → 1 ≤ length (encode (suc k) n)
some k n =
    ⊎_elim
    (λ (h : n < 128). rw (encode_last k n h) (omega arith))
    (λ (h : 128 ≤ n). rw (encode_more k n h) (omega arith))
    (lt_or_le n 128)

-- size - 1 groups are counted, and the rest of the number is to be counted
pub record Sizing (n rest size : ℕ) : Type 0 where
  pub begun : 1 ≤ size
  pub turns : size ≤ number_bytes
  pub same : length (encode number_bytes n) + 1 ≡ size + length (encode (suc (number_bytes - size)) rest)

module _ {n rest size : ℕ} (state : Sizing n rest size) where
  -- a last group is one byte
  pub sizing_last : rest < 128 → size ≡ length (encode number_bytes n)
  sizing_last h = omega (arith, state.same, ap length (encode_last (number_bytes - size) rest h))

  -- no byte more is allowed
  pub sizing_end : number_bytes ≤ size → number_bytes ≡ length (encode number_bytes n)
  sizing_end h =
      let e : number_bytes - size ≡ 0 = omega arith in
      let f = rw e at state.same in
      omega (arith, state.turns, f, last_size rest)

  -- a group that goes on is one byte
  pub sizing_next : size < number_bytes → 128 ≤ rest → Sizing n (rest / 128) (size + 1)
  sizing_next h k =
      let e : number_bytes - size ≡ suc (number_bytes - (size + 1)) = omega arith in
      let f = rw e at state.same in
      record {
        begun = omega arith;
        turns = omega arith;
        same = omega (arith, f, ap length (encode_more (suc (number_bytes - (size + 1))) rest k));
      }

-- some bytes are stored, and the rest of the number, in suc more bytes at most, is left to store at next
pub record BytesLeft (old : List ℕ) (at n : ℕ) (new : List ℕ) (rest next : ℕ) : Type 0 where
  pub more : ℕ
  pub below : rest < 128 ^ suc more
  pub left : Left old at (encode number_bytes n) new next (encode (suc more) rest)

module _ {old : List ℕ} {at n : ℕ} {new : List ℕ} {rest next : ℕ} (state : BytesLeft old at n new rest next) where
  -- the next byte has room
  pub bytes_room : Room old at (encode number_bytes n) → next < length new
  bytes_room room = omega (arith, room.fits, state.left.ends, state.left.size, some state.more rest)

  -- the last byte is stored
  pub bytes_end : rest < 128 → Puts old at (encode number_bytes n) (set new next rest) (next + 1)
  bytes_end h = left_end (left_one (rw (encode_last state.more rest h) at state.left))

  -- a byte that is not the last is stored
  pub bytes_next : 128 ≤ rest → BytesLeft old at n (set new next (rest % 128 + 128)) (rest / 128) (next + 1)
  bytes_next h = go state.more state.below state.left
    where
      go : (more : ℕ) → rest < 128 ^ suc more → Left old at (encode number_bytes n) new next (encode (suc more) rest)
          → BytesLeft old at n (set new next (rest % 128 + 128)) (rest / 128) (next + 1)
      go zero b left = absurd (omega arith)
      go (suc more) b left =
          record {
            more = more;
            below = (div-lt_iff_lt-mul (lit< tt)).1 (rw pow-suc at b);
            left = left_one (rw (encode_more (suc more) rest h) at left);
          }

-- the answer and the slice of the contract
abbrev pub WrittenAs : List ℕ → ℕ → ℕ → Result ℕ Unplaced → List ℕ → Type 0
WrittenAs old at n answer new = (placing answer ≡ placed (length old) at n) × (new ≡ written (placed (length old) at n) old at n)

module _ (old : List ℕ) (at n : ℕ) where
  -- a number at the limit or above has no form
  pub no_form : number_limit ≤ n → WrittenAs old at n (Err NoForm) old
  unfolding placing placed written
  no_form h = rw (le-ltb n number_limit h) (refl, refl)

  module _ (form : n < number_limit) where
    -- the slice ends within the number
    pub no_room : length old < at + length (encode number_bytes n) → WrittenAs old at n (Err NoRoom) old
    unfolding placing placed written
    no_room h = rw (lt-ltb n number_limit form, lt-ltb (length old) (at + length (encode number_bytes n)) h) (refl, refl)

    -- the number is written
    pub next_place : (after : ℕ) (new : List ℕ) → at + length (encode number_bytes n) ≤ length old
        → Puts old at (encode number_bytes n) new after → WrittenAs old at n (Ok after) new
    unfolding placing placed written
    next_place after new h p =
        rw (lt-ltb n number_limit form, le-ltb (length old) (at + length (encode number_bytes n)) h)
        (ap Placing.next p.behind, p.stored)
