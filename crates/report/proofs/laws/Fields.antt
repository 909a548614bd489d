-- A text is stored as it is copied; and a number's digits, made apart, are stored with the character behind them.
use Prim.Native.Nat.{ℕ, ◌+◌, ◌-◌, ◌<◌}
use mathlib.Core.Path.{◌≡◌, refl, sym, ◌∙◌}
use mathlib.Core.List.{List, [], ◌∷◌, append_assoc}
use native.Mathlib.Omega.{arith}
use lib.ListN.{length, set, take, drop}
use lib.Seq.{drop-drop}
use borrow.Rule.Slice.PartMut.{put_mid}
use Rattle.std.proofs.lemmas.List.Edits.{sets-eq}
use Rattle.leb128.specs.inside.Storing.{Room, Puts}
use Rattle.leb128.specs.laws.Storing.{puts_then, room_first, room_next}
use Rattle.io.specs.Digits.{last_digits, IsDigitCount}
use Rattle.report.specs.Decimal.{decimal}
use Rattle.report.specs.Text.{field}
use Rattle.report.specs.laws.Fewest.{digits_decimal}

-- a text that is copied into a slice is stored there
pub copied : {text part copy : List ℕ} {at : ℕ} → Room text at part → copy ≡ part
    → Puts text at part (put_mid at (at + length part - at) text copy) (at + length part)
copied {text} {part} {at = at} room e =
    let k : at + length part - at ≡ length part = omega arith in
    record {
      stored = rw (e, k, drop-drop (length part) at text) (sym (sets-eq part text at room.fits ∙ append_assoc (take at text) part (drop (at + length part) text)));
      behind = refl;
    }

-- the first k elements of a list are the fewest digits of n
module _ (n k : ℕ) (made : List ℕ) (fewest : IsDigitCount 10 1 n k) (e : take k made ≡ last_digits 10 k n) where
  -- they are its decimal digits
  digits_are : take k made ≡ decimal n
  digits_are = e ∙ digits_decimal fewest

  -- they have room
  pub digits_room : {slice : List ℕ} {at : ℕ} (stop : ℕ) → Room slice at (field n stop) → Room slice at (take k made)
  unfolding field
  digits_room stop room = rw digits_are (room_first (decimal n) (stop ∷ []) room)

  module _ {old new : List ℕ} {at next : ℕ} (stop : ℕ) (p : Puts old at (take k made) new next) where
    -- they are stored
    stored : Puts old at (decimal n) new next
    stored = rw digits_are at p

    -- the character behind them has room
    pub stop_room : Room old at (field n stop) → next < length new
    unfolding field
    stop_room room = omega (arith, (room_next (stop ∷ []) stored room).fits)

    -- it is stored too
    pub field_stored : Puts old at (field n stop) (set new next stop) (next + 1)
    unfolding field
    field_stored = puts_then stored (record { stored = refl; behind = refl })
