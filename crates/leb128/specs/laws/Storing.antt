-- Lists are stored one behind the other: what is left to store, stored where it belongs, gives the whole.
use Rattle.std.specs.Prelude.{ℕ, suc, ◌+◌, ◌≤◌, ◌<◌, ◌≡◌, refl, List, [], ◌∷◌, ◌++◌, length, get_or, set, drop}
use Rattle.std.proofs.Common.{◌∙◌, ap, arith, add-one, length-append, length-set, length-drop, drop_of_length-le, drop-cons}
use Rattle.std.proofs.lemmas.List.Edits.{sets, sets-eq}
use Rattle.std.proofs.Math.Seq.{length-sets}
use Rattle.leb128.specs.inside.Storing.{Room, Puts}

module _ {A : Type 0} where
  -- two lists, one behind the other
  pub sets_append : (a l : List A) (at : ℕ) (b : List A) → sets (sets l at a) (at + length a) b ≡ sets l at (a ++ b)
  sets_append [] l at b = let e : at + 0 ≡ at = omega arith in rw e
  sets_append (x ∷ a) l at b =
      let e : at + suc (length a) ≡ suc at + length a = omega arith in
      rw e (sets_append a (set l at x) (suc at) b)

  -- a list in front of the old elements
  pub sets_front : (list old : List A) → length list ≤ length old → sets old 0 list ≡ list ++ drop (length list) old
  sets_front list old h =
      let none : 0 + length list ≡ length list = omega arith in
      sets-eq list old 0 (omega arith) ∙ ap (λ (n : ℕ). list ++ drop n old) none

  -- two calls, one behind the other
  pub puts_then : {old middle new a b : List A} {at m next : ℕ} → Puts old at a middle m → Puts middle m b new next
      → Puts old at (a ++ b) new next
  puts_then {old} {middle} {a = a} {b} {at} one two =
      record {
        stored =
            two.stored
            ∙ ap (λ (i : ℕ). sets middle i b) one.behind
            ∙ ap (λ (l : List A). sets l (at + length a) b) one.stored
            ∙ sets_append a old at b;
        behind = omega (arith, one.behind, two.behind, length-append a b);
      }

  -- how long the slice stays
  pub puts_length : {old new list : List A} {at next : ℕ} → Puts old at list new next → length new ≡ length old
  puts_length {old} {list = list} {at} p = ap length p.stored ∙ length-sets old at list

  -- the first of two lists has room
  pub room_first : {slice : List A} {at : ℕ} (a b : List A) → Room slice at (a ++ b) → Room slice at a
  room_first a b room = record { fits = omega (arith, room.fits, length-append a b) }

  -- the second of two lists has room
  pub room_next : {old middle a : List A} {at m : ℕ} (b : List A) → Puts old at a middle m → Room old at (a ++ b) → Room middle m b
  room_next {a = a} b p room = record { fits = omega (arith, room.fits, p.behind, puts_length p, length-append a b) }

  -- of a whole list that is stored from start on, the rest is left to store
  pub record Left (old : List A) (start : ℕ) (whole new : List A) (at : ℕ) (rest : List A) : Type 0 where
    pub completes : sets new at rest ≡ sets old start whole
    pub ends : at + length rest ≡ start + length whole
    pub size : length new ≡ length old

  -- all is left at the start
  pub left_begin : (old : List A) (start : ℕ) (whole : List A) → Left old start whole old start whole
  left_begin old start whole = record { completes = refl; ends = refl; size = refl }

  -- an element is stored
  pub left_one : {old whole new rest : List A} {start at : ℕ} {x : A} → Left old start whole new at (x ∷ rest)
      → Left old start whole (set new at x) (at + 1) rest
  left_one {new = new} {at = at} {x} left =
      record {
        completes = rw (add-one at) left.completes;
        ends = omega (arith, left.ends);
        size = length-set new at x ∙ left.size;
      }

  -- a part has room
  pub left_room : {old whole new : List A} {start at : ℕ} (part rest : List A) → Left old start whole new at (part ++ rest)
      → Room old start whole → Room new at part
  left_room part rest left room = record { fits = omega (arith, room.fits, left.ends, left.size, length-append part rest) }

  -- a part is stored
  pub left_part : {old whole new new' part rest : List A} {start at next : ℕ} → Left old start whole new at (part ++ rest)
      → Puts new at part new' next → Left old start whole new' next rest
  left_part {new' = new'} {rest = rest} {next = next} left p =
      let both = puts_then {new = sets new' next rest} {b = rest} p (record { stored = refl; behind = refl }) in
      record {
        completes = both.stored ∙ left.completes;
        ends = both.behind ∙ left.ends;
        size = puts_length p ∙ left.size;
      }

  -- nothing is left at the end
  pub left_end : {old whole new : List A} {start at : ℕ} → Left old start whole new at [] → Puts old start whole new at
  left_end left = record { stored = left.completes; behind = omega (arith, left.ends) }

  -- the elements of a list from index i on are left to store
  module _ {old whole new : List A} {start at : ℕ} (i : ℕ) (left : Left old start whole new at (drop i whole)) where
    -- the next one has room
    pub copy_room : i < length whole → Room old start whole → at < length new
    copy_room h room = omega (arith, room.fits, left.ends, left.size, length-drop i whole)

    -- the next one is stored; d is any
    pub copy_next : (d : A) {x : A} → i < length whole → x ≡ get_or whole i d
        → Left old start whole (set new at x) (at + 1) (drop (i + 1) whole)
    copy_next d h e = rw (add-one i) (left_one (rw (drop-cons whole i d h, ← e) at left))

    -- none is left
    pub copy_end : length whole ≤ i → Puts old start whole new at
    copy_end h = left_end (rw (drop_of_length-le whole h) at left)
