-- How far a walk reaches: the position behind its numbers and the offset of its refusal are bounded by the count of numbers
-- alone, whatever the length of the input.
use Prim.Native.Nat.{ℕ, ◌+◌, ◌*◌, ◌≤◌, ◌<◌}
use Rattle.std.specs.Prelude.{◌≡◌, Bool, true, false, cond, List, ◌++◌, ltb, take, drop}
use Rattle.std.proofs.Math.Path.{refl}
use Rattle.std.proofs.Math.Logic.{⊎_elim}
use native.Mathlib.Omega.{arith}
use Rattle.std.proofs.Math.ListN.{length}
use Rattle.std.proofs.Common.{length-drop, lt-ltb, le-ltb, eq-eqb, ne_eqb, ltb-true}
use Rattle.leb128.specs.Refusals.{input_ended, other_magic, number_form}
use Rattle.leb128.specs.Limits.{number_bytes}
use Rattle.leb128.specs.Grammar.{Form, Grammar, Rule}
use Rattle.leb128.specs.Grammar.Form.{above}
use Rattle.leb128.specs.Number.{Decoded, decode}
use Rattle.leb128.specs.Source.{Source, Item, refusal, decoded_item, byte_item, raised, in_bytes, in_list}
use Rattle.leb128.specs.Source.Item.{value}
use Rattle.leb128.specs.Walk.{Walk, checked, led, followed, walk}
use Rattle.leb128.specs.Walk.Walk.{whole, refused}
use Rattle.leb128.specs.Format.{Result, same, walk_bytes, walk_list, complete, made, encoded, reading, writing}
use Rattle.leb128.specs.declared.Refusal.{Refusal}
use Rattle.leb128.specs.laws.Cases.{lt_or_le, eq_or_ne}
use Rattle.leb128.specs.laws.DecodeFront.{decode_not_ended}
use Rattle.leb128.specs.laws.ItemCases.{ahead, list_value, list_ended}
use Rattle.leb128.specs.laws.EachNumber.{Each}
use Rattle.leb128.specs.laws.EachNumber.Each.{end, each}

-- what stands at a position ends, or is refused, at most a step behind it
abbrev pub Near : ℕ → Item → Type 0
Near limit (value n after) = after ≤ limit
Near limit (Item.refused r) = r.offset ≤ limit

-- so it is at every position of a source
abbrev pub Steps : ℕ → Source → Type 0
Steps step source = (form : Form) (at : ℕ) → Near (at + step) (source form at)

-- a walk ends, or is refused, at most there
abbrev EndsWithin : ℕ → Walk → Type 0
EndsWithin limit (whole last ns) = last ≤ limit
EndsWithin limit (refused r) = r.offset ≤ limit

-- a list takes a step for each number
list_steps : (numbers : List ℕ) → Steps 1 (in_list numbers)
unfolding in_list
list_steps numbers form at =
    ⊎_elim
    (λ (h : at < length numbers). rw (list_value numbers at h) (omega arith))
    (λ (h : length numbers ≤ at). rw (list_ended numbers at h) (omega arith))
    (lt_or_le at (length numbers))

-- bytes take as many steps as a number has bytes
pub byte_steps : (bytes : List ℕ) → Steps number_bytes (in_bytes bytes)
unfolding in_bytes raised byte_item decoded_item
byte_steps bytes form at = go form (byte_item bytes at) refl
  where
    shown : (d : Decoded) → decode number_bytes (drop at bytes) ≡ d → (r : Refusal)
        → decoded_item bytes at d ≡ Item.refused r → r.offset ≤ at + number_bytes
    shown (Decoded.number n size) i r e = let z : ◌≡◌ {A = ℕ} 0 1 = cc in absurd (omega arith)
    shown Decoded.ended i r e =
        let is-r : r ≡ refusal input_ended (length bytes) = cc in
        rw is-r
        (⊎_elim
        (λ (h : length bytes < at + number_bytes). omega arith)
        (λ (h : at + number_bytes ≤ length bytes). absurd (decode_not_ended number_bytes (drop at bytes)
        (omega (arith, length-drop at bytes)) i))
        (lt_or_le (length bytes) (at + number_bytes)))
    shown Decoded.overlong i r e = let is-r : r ≡ refusal number_form at = cc in rw is-r (omega arith)

    go : (form : Form) (item : Item) → byte_item bytes at ≡ item → Near (at + number_bytes) (raised form item)
    go (above base) (value n after) i = (ahead bytes at n after i).1
    go (above base) (Item.refused r) i = shown (decode number_bytes (drop at bytes)) refl r i

-- a number before a walk
led_within : (limit n : ℕ) (w : Walk) → EndsWithin limit w → EndsWithin limit (led n w)
unfolding led
led_within limit n (whole last ns) h = h
led_within limit n (refused r) h = h

module _ {P : Form → Rule → Type 0} (step : ℕ) (source : Source) (steps : Steps step source) where
  -- a walk of at most m numbers takes a step for each
  walk_within : {m : ℕ} {grammar : Grammar} → Each P m grammar → (at limit : ℕ) → at + step * m ≤ limit
      → EndsWithin limit (walk grammar source at)
  unfolding walk followed checked
  walk_within end at limit h = omega arith
  walk_within (each {m} {form} {rule} {next} p s) at limit h =
      go (source form at) (steps form at) (λ n ok after k. walk_within (s n ok) after limit k)
    where
      go : (item : Item) → Near (at + step) item
          → ((n : ℕ) → rule n ≡ 0 → (after : ℕ) → after + step * m ≤ limit → EndsWithin limit (walk (next n) source after))
          → EndsWithin limit (followed (checked rule at item) (λ n after. walk (next n) source after))
      go (value n after) near again =
          ⊎_elim
          (λ (ok : rule n ≡ 0). rw (eq-eqb (rule n) 0 ok)
          (led_within limit n (walk (next n) source after) (again n ok after (omega arith))))
          (λ (broken : rule n ≡ 0 → ⊥). rw (ne_eqb (rule n) 0 broken) (omega arith))
          (eq_or_ne (rule n) 0)
      go (Item.refused r) near again = omega arith

-- what follows a walk is refused where it ends
complete_within : (limit stop : ℕ) (w : Walk) → EndsWithin limit w → EndsWithin limit (complete stop w)
unfolding complete
complete_within limit stop (whole last ns) h =
    ⊎_elim
    (λ (k : last < stop). rw (lt-ltb last stop k) h)
    (λ (k : stop ≤ last). rw (le-ltb last stop k) h)
    (lt_or_le last stop)
complete_within limit stop (refused r) h = h

-- what is made of a walk is refused where it is
made_within : (limit : ℕ) (f : List ℕ → List ℕ) (w : Walk) (r : Refusal) → EndsWithin limit w → made f w ≡ Result.refused r
    → r.offset ≤ limit
unfolding made
made_within limit f (whole last ns) r h e = let z : ◌≡◌ {A = ℕ} 0 1 = cc in absurd (omega arith)
made_within limit f (refused s) r h e = let is-r : s ≡ r = cc in rw is-r at h

-- a magic that is cut off or another one
opened_within : (limit : ℕ) (magic bytes : List ℕ) (short same : Bool) (w : Walk) → ltb (length bytes) (length magic) ≡ short
    → length magic ≤ limit → EndsWithin limit w
    → EndsWithin limit (cond short (refused (refusal input_ended (length bytes))) (cond same w (refused (refusal other_magic 0))))
opened_within limit magic bytes true same w e k h = omega (arith, ltb-true (length bytes) (length magic) e)
opened_within limit magic bytes false true w e k h = h
opened_within limit magic bytes false false w e k h = omega arith

module _ {P : Form → Rule → Type 0} {m : ℕ} {grammar : Grammar} (most : Each P m grammar) where
  -- the reader refuses no further behind the magic than so many numbers reach
  pub reader_offsets : (magic bytes : List ℕ) (r : Refusal) → reading magic grammar bytes ≡ Result.refused r
      → r.offset ≤ length magic + number_bytes * m
  unfolding reading walk_bytes
  reader_offsets magic bytes r e =
      let limit : ℕ = length magic + number_bytes * m in
      made_within limit (λ ns. ns) (complete (length bytes) (walk_bytes magic grammar bytes)) r
      (complete_within limit (length bytes) (walk_bytes magic grammar bytes)
      (opened_within limit magic bytes (ltb (length bytes) (length magic)) (same (take (length magic) bytes) magic)
      (walk grammar (in_bytes bytes) (length magic)) refl (omega arith)
      (walk_within number_bytes (in_bytes bytes) (byte_steps bytes) most (length magic) limit (omega arith)))) e

  -- the writer refuses at one of the first m numbers, or right behind them
  pub writer_offsets : (magic numbers : List ℕ) (r : Refusal) → writing magic grammar numbers ≡ Result.refused r → r.offset ≤ m
  unfolding writing walk_list
  writer_offsets magic numbers r e =
      made_within m (λ ns. magic ++ encoded grammar ns) (complete (length numbers) (walk grammar (in_list numbers) 0)) r
      (complete_within m (length numbers) (walk grammar (in_list numbers) 0)
      (walk_within 1 (in_list numbers) (list_steps numbers) most 0 m (omega arith))) e
