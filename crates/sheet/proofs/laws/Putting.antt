-- The writer's second pass: the bytes of the numbers that are left follow a grammar, and are stored one number after the other.
use Prim.Native.Nat.{ℕ, ◌+◌, ◌-◌, ◌≤◌, ◌<◌}
use mathlib.Core.Path.{◌≡◌, sym, ◌∙◌, ap}
use mathlib.Core.List.{List, [], ◌∷◌, ◌++◌}
use native.Mathlib.Omega.{arith}
use native.Mathlib.Numerals.{add-one}
use lib.ListN.{length, get_or, drop, drop_of_length-le, length-drop}
use lib.Seq.{sets, drop-cons}
use borrow.Author.Tests.{lt-ltb, le-ltb}
use Rattle.leb128.specs.Limits.{number_bytes, number_limit}
use Rattle.leb128.specs.Number.{encode}
use Rattle.std.specs.Prelude.{Result, Ok, Err}
use Rattle.leb128.specs.declared.Unplaced.{Unplaced}
use Rattle.leb128.specs.declared.Unplaced.TheVariants.{NoForm, NoRoom}
use Rattle.leb128.specs.Grammar.{Grammar, Rule, Accepts}
use Rattle.leb128.specs.Grammar.Form.{above}
use Rattle.leb128.specs.Grammar.Grammar.{number, done}
use Rattle.leb128.specs.Grammar.Accepts.{nil, one}
use Rattle.leb128.specs.Format.{held, encoded}
use Rattle.leb128.specs.Place.{Placing, placing, placed, written}
use Rattle.leb128.specs.inside.Storing.{Room, Puts}
use Rattle.leb128.specs.laws.Storing.{Left, left_begin, left_room, left_part, left_end}
use Rattle.sheet.specs.Limits.{magic_bytes}

-- the answer that stands for a next position
next_answer : (answer : Result ℕ Unplaced) (k : ℕ) → placing answer ≡ Placing.next k → answer ≡ Ok k
unfolding placing
next_answer (Ok m) k e = let same : m ≡ k = cc in ap Ok same
next_answer (Err NoForm) k e = let z : ◌≡◌ {A = ℕ} 0 1 = cc in absurd (omega arith)
next_answer (Err NoRoom) k e = let z : ◌≡◌ {A = ℕ} 0 1 = cc in absurd (omega arith)

-- a number that has its form and its room is written
module _ (old : List ℕ) (at n : ℕ) (form : n < number_limit) (room : Room old at (encode number_bytes n)) where
  -- the number has its form and its room
  placed_next : placed (length old) at n ≡ Placing.next (at + length (encode number_bytes n))
  unfolding placed
  placed_next = rw (lt-ltb n number_limit form, le-ltb (length old) (at + length (encode number_bytes n)) room.fits)

  -- the number writer's answer
  pub put_next_answer : {answer : Result ℕ Unplaced} → placing answer ≡ placed (length old) at n → answer ≡ Ok (at + length (encode number_bytes n))
  put_next_answer {answer} e = next_answer answer (at + length (encode number_bytes n)) (e ∙ placed_next)

  -- the number writer's answer and slice
  pub put_done : {answer : Result ℕ Unplaced} {next : ℕ} {new : List ℕ} → answer ≡ Ok next
      → (placing answer ≡ placed (length old) at n) × (new ≡ written (placed (length old) at n) old at n)
      → Puts old at (encode number_bytes n) new next
  unfolding written
  put_done {answer} {next} e w =
      let f : ◌≡◌ {A = Result ℕ Unplaced} (Ok next) (Ok (at + length (encode number_bytes n))) = sym e ∙ put_next_answer w.0 in
      record { stored = rw placed_next at w.1; behind = cc }

-- of the numbers of a good list those from i on are left, by a grammar, and their bytes are left to store
pub record PutLeft (numbers old whole new : List ℕ) (at i : ℕ) (grammar : Grammar) : Type 0 where
  pub good : Accepts grammar (drop i numbers)
  pub left : Left old magic_bytes whole new at (encoded grammar (drop i numbers))

-- all are left at the start
pub put_begin : {numbers : List ℕ} {grammar : Grammar} (old : List ℕ) → Accepts grammar numbers
    → PutLeft numbers old (encoded grammar numbers) old magic_bytes 0 grammar
put_begin {numbers} {grammar} old a = record { good = a; left = left_begin old magic_bytes (encoded grammar numbers) }

module _ {numbers old whole new : List ℕ} {at i : ℕ} {grammar : Grammar} (p : PutLeft numbers old whole new at i grammar) where
  -- none is left
  pub put_end : length numbers ≤ i → new ≡ sets old magic_bytes whole
  unfolding encoded
  put_end h = go (rw (drop_of_length-le numbers h) at p.good) (rw (drop_of_length-le numbers h) at p.left)
    where
      go : {g : Grammar} → Accepts g [] → Left old magic_bytes whole new at (encoded g []) → new ≡ sets old magic_bytes whole
      go nil left = (left_end left).stored

  -- where one is left, the grammar is not at its end
  pub put_more : i < length numbers → grammar ≡ done → ⊥
  put_more h e = go (drop i numbers) (rw e at p.good) (length-drop i numbers)
    where
      go : (ns : List ℕ) → Accepts done ns → length ns ≡ length numbers - i → ⊥
      go [] nil s = omega arith
      go (_ ∷ _) x4 s = elim x4 [ ]

-- the next number, above a base
module _ {numbers old whole new : List ℕ} {at i base : ℕ} {rule : Rule} {next : ℕ → Grammar}
    (p : PutLeft numbers old whole new at i (number (above base) rule next)) (h : i < length numbers) where
  -- the number and those behind it
  parts : drop i numbers ≡ get_or numbers i 0 ∷ drop (i + 1) numbers
  parts = rw add-one (drop-cons numbers i 0 h)

  -- the number's bytes, and those behind
  bytes : Left old magic_bytes whole new at
      (encode number_bytes (get_or numbers i 0 - base) ++ encoded (next (get_or numbers i 0)) (drop (i + 1) numbers))
  unfolding encoded held
  bytes = rw parts at p.left

  -- it meets its rule, and the others are good behind it
  pub put_good : (rule (get_or numbers i 0) ≡ 0) × Accepts (next (get_or numbers i 0)) (drop (i + 1) numbers)
  put_good = go (rw parts at p.good)
    where
      go : {n : ℕ} {ns : List ℕ} → Accepts (number (above base) rule next) (n ∷ ns) → (rule n ≡ 0) × Accepts (next n) ns
      go (one ok rest) = (ok, rest)

  -- it has room
  pub put_room : Room old magic_bytes whole → Room new at (encode number_bytes (get_or numbers i 0 - base))
  put_room = left_room (encode number_bytes (get_or numbers i 0 - base)) _ bytes

  -- it is written
  pub put_next : {new' : List ℕ} {after : ℕ} → Puts new at (encode number_bytes (get_or numbers i 0 - base)) new' after
      → PutLeft numbers old whole new' after (i + 1) (next (get_or numbers i 0))
  put_next s = record { good = put_good.1; left = left_part bytes s }
