-- What a good reading or writing tells: the magic, the walk and the end; and what the answer and the slice are.
use Rattle.std.specs.Prelude.{ℕ, suc, ◌+◌, ◌≤◌, ◌<◌, ◌≡◌, refl, true, false, List, [], ◌∷◌, ◌++◌, get_or, take, drop, eqb}
use Rattle.std.proofs.Math.Path.{sym}
use Rattle.std.proofs.Common.{◌∙◌, ap, arith, drop_of_length-le, drop-cons, lt-ltb, le-ltb, eq-eqb, eqb-true}
use Rattle.std.proofs.Math.Logic.{⊎_elim}
use Rattle.std.proofs.Math.ListN.{length}
use Rattle.leb128.specs.Refusals.{slice_short}
use Rattle.leb128.specs.Grammar.{Grammar, Accepts}
use Rattle.leb128.specs.Source.{Item, refusal, in_bytes, in_list}
use Rattle.leb128.specs.Source.Item.{value}
use Rattle.leb128.specs.Walk.{Walk, walk}
use Rattle.leb128.specs.Walk.Walk.{whole, refused}
use Rattle.leb128.specs.Format.{Result, Outcome, same, complete, walk_bytes, walk_list, encoded, made, reading, writing}
use Rattle.leb128.specs.Format.{answered, filled}
use Rattle.leb128.specs.Format.Result.{elements}
use Rattle.leb128.specs.declared.Refusal.{Refusal}
use Rattle.leb128.specs.laws.Cases.{test, lt_or_le}
use Rattle.leb128.specs.laws.ItemCases.{list_value, list_ended}
use Rattle.leb128.specs.laws.AcceptedNumbers.{Chain, walk_chain, chain_accepts}
use Rattle.leb128.specs.laws.AcceptedNumbers.Chain.{none, more}

-- a refusal is no whole walk
pub refused_not : {r : Refusal} {last : ℕ} {ns : List ℕ} → refused r ≡ whole last ns → ⊥
refused_not e = let z : ◌≡◌ {A = ℕ} 0 1 = cc in omega arith

-- lists of numbers that are told to be the same are
pub same_lists : (xs ys : List ℕ) → same xs ys ≡ true → xs ≡ ys
unfolding same
same_lists [] [] e = refl
same_lists [] (y ∷ ys) e = let z : ◌≡◌ {A = ℕ} 0 1 = cc in absurd (omega arith)
same_lists (x ∷ xs) [] e = let z : ◌≡◌ {A = ℕ} 0 1 = cc in absurd (omega arith)
same_lists (x ∷ xs) (y ∷ ys) e =
    ⊎_elim
    (λ (t : eqb x y ≡ true).
    let rest = same_lists xs ys (rw t at e) in
    let head = eqb-true x y t in
    rw (head, rest))
    (λ (t : eqb x y ≡ false).
    let f : false ≡ true = rw t at e in
    let z : ◌≡◌ {A = ℕ} 0 1 = cc in absurd (omega arith))
    (test (eqb x y))

-- a list is the same as itself
pub same_self : (xs : List ℕ) → same xs xs ≡ true
unfolding same
same_self [] = refl
same_self (x ∷ xs) = rw (eq-eqb x x refl, same_self xs)

-- nothing follows a whole walk
pub complete_good : (end : ℕ) (walk : Walk) (last : ℕ) (ns : List ℕ) → complete end walk ≡ whole last ns
    → (walk ≡ whole last ns) × (end ≤ last)
unfolding complete
complete_good end (whole at ms) last ns e =
    ⊎_elim
    (λ (h : at < end). absurd (refused_not (rw (lt-ltb at end h) at e)))
    (λ (h : end ≤ at).
    let f : whole at ms ≡ whole last ns = rw (le-ltb at end h) at e in
    let is_last : at ≡ last = cc in
    (f, omega arith))
    (lt_or_le at end)
complete_good end (refused r) last ns e = absurd (refused_not e)

-- what was made was made of the numbers of a whole walk
pub made_good : (f : List ℕ → List ℕ) (walk : Walk) (es : List ℕ) → made f walk ≡ elements es
    → (last : ℕ) × (ns : List ℕ) × (walk ≡ whole last ns) × (es ≡ f ns)
unfolding made
made_good f (whole last ns) es e = let are : es ≡ f ns = cc in (last, ns, refl, are)
made_good f (refused r) es e = let z : ◌≡◌ {A = ℕ} 0 1 = cc in absurd (omega arith)

module _ (magic : List ℕ) (grammar : Grammar) where
  -- what holds of bytes with a whole walk
  pub record GoodBytes (bytes : List ℕ) (last : ℕ) (ns : List ℕ) : Type 0 where
    pub long : length magic ≤ length bytes
    pub opens : take (length magic) bytes ≡ magic
    pub chain : Chain (in_bytes bytes) grammar (length magic) ns last

  -- bytes with a whole walk are good
  pub good_bytes : (bytes : List ℕ) (last : ℕ) (ns : List ℕ) → walk_bytes magic grammar bytes ≡ whole last ns
      → GoodBytes bytes last ns
  unfolding walk_bytes
  good_bytes bytes last ns e =
      ⊎_elim
      (λ (h : length bytes < length magic). absurd (refused_not (rw (lt-ltb (length bytes) (length magic) h) at e)))
      (λ (h : length magic ≤ length bytes).
      let f = rw (le-ltb (length bytes) (length magic) h) at e in
      ⊎_elim
      (λ (t : same (take (length magic) bytes) magic ≡ true).
      record {
        long = h;
        opens = same_lists (take (length magic) bytes) magic t;
        chain = walk_chain grammar (in_bytes bytes) (length magic) last ns (rw t at f);
      })
      (λ (t : same (take (length magic) bytes) magic ≡ false). absurd (refused_not (rw t at f)))
      (test (same (take (length magic) bytes) magic)))
      (lt_or_le (length bytes) (length magic))

  -- what holds of bytes that are read
  pub record GoodReading (bytes ns : List ℕ) : Type 0 where
    pub last : ℕ
    pub good : GoodBytes bytes last ns
    pub ends : length bytes ≤ last

  -- bytes that are read have a whole walk, and end with it
  pub good_reading : (bytes ns : List ℕ) → reading magic grammar bytes ≡ elements ns → GoodReading bytes ns
  unfolding reading
  good_reading bytes ns e =
      let m = made_good (λ ns. ns) (complete (length bytes) (walk_bytes magic grammar bytes)) ns e in
      let w = complete_good (length bytes) (walk_bytes magic grammar bytes) m.0 m.1 m.2 in
      let are : m.1 ≡ ns = sym m.3 in
      record { last = m.0; good = rw are at (good_bytes bytes m.0 m.1 w.0); ends = w.1 }

-- numbers that reach from a position of a list to its end are the rest of the list
pub chain_list : (numbers : List ℕ) {grammar : Grammar} {ns : List ℕ} {at last : ℕ}
    → Chain (in_list numbers) grammar at ns last → length numbers ≤ last → at ≤ length numbers → ns ≡ drop at numbers
unfolding in_list
chain_list numbers none h k = sym (drop_of_length-le numbers h)
chain_list numbers (more {at = at} {after = after} {n = n} {ns = ns} ok i chain) h k =
    ⊎_elim
    (λ (there : at < length numbers).
    let e : value (get_or numbers at 0) (at + 1) ≡ value n after = sym (list_value numbers at there) ∙ i in
    let is-n : n ≡ get_or numbers at 0 = cc in
    let is-after : after ≡ suc at = after_is (get_or numbers at 0) n at after e in
    let rest = chain_list numbers chain h (omega arith) in
    rw (is-n, drop-cons numbers at 0 there, ← is-after) (ap (λ (l : List ℕ). get_or numbers at 0 ∷ l) rest))
    (λ (gone : length numbers ≤ at). absurd (item_not (sym (list_ended numbers at gone) ∙ i)))
    (lt_or_le at (length numbers))
  where
    after_is : (m n at after : ℕ) → value m (at + 1) ≡ value n after → after ≡ suc at
    after_is m n at after e = let f : at + 1 ≡ after = cc in omega arith

    item_not : {n after : ℕ} {r : Refusal} → Item.refused r ≡ value n after → ⊥
    item_not e = let z : ◌≡◌ {A = ℕ} 0 1 = cc in omega arith

-- a list that is written is what the grammar accepts, and is written as its magic and its bytes
pub good_writing : (magic : List ℕ) (grammar : Grammar) (numbers bytes : List ℕ)
    → writing magic grammar numbers ≡ elements bytes
    → Accepts grammar numbers × (bytes ≡ magic ++ encoded grammar numbers)
unfolding writing walk_list
good_writing magic grammar numbers bytes e =
    let m = made_good (λ ns. magic ++ encoded grammar ns) (complete (length numbers) (walk grammar (in_list numbers) 0)) bytes e in
    let w = complete_good (length numbers) (walk grammar (in_list numbers) 0) m.0 m.1 m.2 in
    let chain = walk_chain grammar (in_list numbers) 0 m.0 m.1 w.0 in
    let are : m.1 ≡ numbers = chain_list numbers chain w.1 (omega arith) in
    (rw are at (chain_accepts chain), m.3 ∙ ap (λ (l : List ℕ). magic ++ encoded grammar l) are)

-- what an answer with a count tells: the elements, how many they are, and that they have room
pub answered_wrote : (room : ℕ) (result : Result) (count : ℕ) → answered room result ≡ Outcome.wrote count
    → (es : List ℕ) × (result ≡ elements es) × (count ≡ length es) × (length es ≤ room)
unfolding answered
answered_wrote room (elements es) count e =
    ⊎_elim
    (λ (h : room < length es).
    let f : Outcome.refused (refusal slice_short 0) ≡ Outcome.wrote count = rw (lt-ltb room (length es) h) at e in
    let z : ◌≡◌ {A = ℕ} 0 1 = cc in absurd (omega arith))
    (λ (h : length es ≤ room).
    let f : Outcome.wrote (length es) ≡ Outcome.wrote count = rw (le-ltb room (length es) h) at e in
    let is-count : count ≡ length es = cc in
    (es, refl, is-count, h))
    (lt_or_le room (length es))
answered_wrote room (Result.refused r) count e = let z : ◌≡◌ {A = ℕ} 0 1 = cc in absurd (omega arith)

-- a refusal leaves the slice as it was
pub filled_refused : (result : Result) (old : List ℕ) (r : Refusal) → answered (length old) result ≡ Outcome.refused r
    → old ≡ filled result old
unfolding answered filled
filled_refused (elements es) old r e =
    ⊎_elim
    (λ (h : length old < length es). rw (lt-ltb (length old) (length es) h))
    (λ (h : length es ≤ length old).
    let f : Outcome.wrote (length es) ≡ Outcome.refused r = rw (le-ltb (length old) (length es) h) at e in
    let z : ◌≡◌ {A = ℕ} 0 1 = cc in absurd (omega arith))
    (lt_or_le (length old) (length es))
filled_refused (Result.refused s) old r e = refl

-- elements that have room are written in front of the old ones
pub filled_elements : {result : Result} {es : List ℕ} (old : List ℕ) → result ≡ elements es → length es ≤ length old
    → filled result old ≡ es ++ drop (length es) old
unfolding filled
filled_elements {es = es} old e h = rw (e, le-ltb (length old) (length es) h)
