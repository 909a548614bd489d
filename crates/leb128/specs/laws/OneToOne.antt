-- Good bytes and good number lists of any format correspond one to one: what is written is read back as the list, and
-- what is read is written again as the bytes.
use Prim.Native.Nat.{ℕ, suc, ◌+◌, ◌-◌, ◌≤◌, ◌<◌}
use Rattle.std.specs.Prelude.{◌≡◌, length, get_or, take, drop}
use Rattle.std.proofs.Math.Path.{refl}
use Rattle.std.proofs.Common.{sym, ◌∙◌, ap, arith, add-one, length-drop, take-append-drop, drop_of_length-le, drop-cons}
use mathlib.Core.List.{List, ◌∷◌, ◌++◌, append_assoc, append-nil}
use Rattle.std.proofs.Math.ListN.{length-append}
use Rattle.std.proofs.Math.Seq.{take-append_seam}
use borrow.Author.Tests.{le-ltb}
use Rattle.leb128.specs.Limits.{number_bytes, number_limit}
use Rattle.leb128.specs.Number.{encode, AreBytes}
use Rattle.leb128.specs.Grammar.{Form, Grammar, Rule, Accepts}
use Rattle.leb128.specs.Grammar.Form.{above}
use Rattle.leb128.specs.Source.{Item, raised, byte_item, in_bytes, in_list}
use Rattle.leb128.specs.Source.Item.{value}
use Rattle.leb128.specs.Format.{complete, walk_bytes, walk_list, held, encoded, made, reading, writing}
use Rattle.leb128.specs.Format.Result.{elements}
use Rattle.leb128.specs.laws.ItemCases.{list_value, encoded_item, passed}
use Rattle.leb128.specs.laws.EachNumber.{Each}
use Rattle.leb128.specs.laws.EachNumber.Each.{end, each}
use Rattle.leb128.specs.laws.AcceptedNumbers.{Chain, chain_walk, chain_accepts}
use Rattle.leb128.specs.Grammar.Accepts.{nil, one}
use Rattle.leb128.specs.laws.AcceptedNumbers.Chain.{none, more}
use Rattle.leb128.specs.laws.GoodFormat.{same_self, good_reading, good_writing}

-- the form can hold the number
abbrev pub FormHolds : Form → ℕ → Type 0
FormHolds (above base) n = (base ≤ n) × (n - base < number_limit)

-- the form can hold each number that meets the rule
abbrev pub Fits : Form → Rule → Type 0
Fits form rule = (n : ℕ) → rule n ≡ 0 → FormHolds form n

-- the numbers of a list stand in it
list_chain : {grammar : Grammar} {ns : List ℕ} (numbers : List ℕ) (at : ℕ) → Accepts grammar ns → ns ≡ drop at numbers
    → at ≤ length numbers → Chain (in_list numbers) grammar at ns (length numbers)
unfolding in_list
list_chain numbers at nil e h =
    let is-end : length numbers ≡ at = omega (arith, ap length e ∙ length-drop at numbers) in
    rw is-end none
list_chain numbers at (one {form = form} {n = n} {ns = ns} ok rest) e h =
    let there : at < length numbers = omega (arith, ap length e ∙ length-drop at numbers) in
    let both : n ∷ ns ≡ get_or numbers at 0 ∷ drop (suc at) numbers = e ∙ drop-cons numbers at 0 there in
    let is-n : n ≡ get_or numbers at 0 = cc in
    let are : ns ≡ drop (suc at) numbers = cc in
    more {form = form} {at = at} {after = at + 1} {n = n} ok (rw is-n (list_value numbers at there)) (list_chain numbers (at + 1) rest (rw add-one are) (omega arith))

-- a number that is held behind a front stands there
held_item : (form : Form) (front rest : List ℕ) (n : ℕ) → FormHolds form n
    → in_bytes (front ++ (held form n ++ rest)) form (length front) ≡ value n (length front + length (held form n))
unfolding in_bytes held raised
held_item (above base) front rest n h =
    let e : base + (n - base) ≡ n = omega arith in
    rw (encoded_item front rest (n - base) h.1) (ap (λ (k : ℕ). value k (length front + length (encode number_bytes (n - base)))) e)

-- accepted numbers stand in their bytes
bytes_chain : {m : ℕ} {grammar : Grammar} {ns : List ℕ} (front : List ℕ) → Each Fits m grammar → Accepts grammar ns
    → Chain (in_bytes (front ++ encoded grammar ns)) grammar (length front) ns (length (front ++ encoded grammar ns))
unfolding encoded
bytes_chain front end nil = rw append-nil none
bytes_chain front (each {form = form} {next = next} fits s) (one {n = n} {ns = ns} ok rest) =
    more ok (held_item form front (encoded (next n) ns) n (fits n ok))
    (rw (append_assoc front (held form n) (encoded (next n) ns), length-append front (held form n)) at (bytes_chain (front ++ held form n) (s n ok) rest))

-- the bytes that a chain passes are its numbers'
one_number : (form : Form) (bytes : List ℕ) (at n after : ℕ) → AreBytes bytes → in_bytes bytes form at ≡ value n after
    → drop at bytes ≡ held form n ++ drop after bytes
unfolding in_bytes raised held
one_number (above base) bytes at n after h e = go (byte_item bytes at) refl e
  where
    go : (item : Item) → byte_item bytes at ≡ item → raised (above base) item ≡ value n after
        → drop at bytes ≡ held (above base) n ++ drop after bytes
    go (value m q) i e =
        let is-after : q ≡ after = cc in
        let is-n : base + m ≡ n = cc in
        let is_m : m ≡ n - base = omega arith in
        rw (← is-after, ← is_m) (passed bytes at m q i h)
    go (Item.refused r) i e = let z : ◌≡◌ {A = ℕ} 0 1 = cc in absurd (omega arith)

-- the bytes that a chain passes
chain_bytes : (bytes : List ℕ) {grammar : Grammar} {ns : List ℕ} {at last : ℕ} → AreBytes bytes
    → Chain (in_bytes bytes) grammar at ns last → drop at bytes ≡ encoded grammar ns ++ drop last bytes
unfolding encoded
chain_bytes bytes h none = refl
chain_bytes bytes h (more {form} {rule} {next} {at} {after} {last} {n} {ns} ok i chain) =
    one_number form bytes at n after h i
    ∙ (ap (λ (l : List ℕ). held form n ++ l) (chain_bytes bytes h chain)
    ∙ sym (append_assoc (held form n) (encoded (next n) ns) (drop last bytes)))

module _ (magic : List ℕ) (grammar : Grammar) where
  -- every list that the grammar accepts is written
  pub accepted_written : (numbers : List ℕ) → Accepts grammar numbers
      → writing magic grammar numbers ≡ elements (magic ++ encoded grammar numbers)
  unfolding writing walk_list complete made
  accepted_written numbers a =
      rw
      (chain_walk (list_chain numbers 0 a refl (omega arith)), le-ltb (length numbers) (length numbers) (omega arith))

  -- what is written is read back as the list
  pub read_written : {m : ℕ} → Each Fits m grammar → (numbers bytes : List ℕ)
      → writing magic grammar numbers ≡ elements bytes → reading magic grammar bytes ≡ elements numbers
  unfolding reading walk_bytes complete made
  read_written fits numbers bytes e =
      let g = good_writing magic grammar numbers bytes e in
      let all : List ℕ = magic ++ encoded grammar numbers in
      rw (g.1, le-ltb (length all) (length magic) (omega (arith, length-append magic (encoded grammar numbers))), take-append_seam magic (encoded grammar numbers), same_self magic, chain_walk (bytes_chain magic fits g.0), le-ltb (length all) (length all) (omega arith))

  -- what is read is written again as the bytes
  pub write_read : (bytes numbers : List ℕ) → AreBytes bytes → reading magic grammar bytes ≡ elements numbers
      → writing magic grammar numbers ≡ elements bytes
  write_read bytes numbers h e =
      let g = good_reading magic grammar bytes numbers e in
      let chain = g.good.chain in
      let rest : drop (length magic) bytes ≡ encoded grammar numbers = chain_bytes bytes h chain ∙ rw (drop_of_length-le bytes g.ends, append-nil) in
      let all : magic ++ encoded grammar numbers ≡ bytes = ap (λ (l : List ℕ). l ++ encoded grammar numbers) (sym g.good.opens) ∙ (ap (λ (l : List ℕ). take (length magic) bytes ++ l) (sym rest) ∙ take-append-drop (length magic) bytes) in
      accepted_written numbers (chain_accepts chain) ∙ ap elements all
