-- The reader's second pass: the numbers that are left stand in the bytes by a grammar, and go one by one into the front of the lent
-- slice.
use Prim.Native.Nat.{ℕ, ◌+◌, ◌≤◌, ◌<◌}
use mathlib.Core.Path.{◌≡◌, refl, sym, ◌∙◌, ap}
use mathlib.Core.List.{List, [], ◌∷◌, ◌++◌, append-nil}
use native.Mathlib.Omega.{arith}
use lib.ListN.{length, set, drop, drop_of_length-le}
use Rattle.std.specs.Prelude.{Result, Ok, Err, IsOk}
use Rattle.leb128.specs.Grammar.{Grammar, Rule}
use Rattle.leb128.specs.Grammar.Form.{above}
use Rattle.leb128.specs.Grammar.Grammar.{number, done}
use Rattle.leb128.specs.Source.{Item, item, in_bytes}
use Rattle.leb128.specs.Source.Item.{value}
use Rattle.leb128.specs.Format.Result.{elements}
use Rattle.leb128.specs.laws.AcceptedNumbers.{Chain}
use Rattle.leb128.specs.laws.AcceptedNumbers.Chain.{none, more}
use Rattle.leb128.specs.laws.GoodFormat.{good_reading}
use Rattle.leb128.specs.laws.Storing.{sets_front, Left, left_begin, left_one, left_end}
use Rattle.leb128.specs.declared.Refusal.{Refusal}
use Rattle.sheet.specs.Limits.{magic_bytes}
use Rattle.sheet.specs.inside.Formats.{magic_of, grammar_of, read_format, FormatBytes}
use Rattle.sheet.specs.declared.Format.{Format}
use Rattle.sheet.proofs.laws.WalkStarts.{magic_size}

-- i of count numbers are stored, and those that are left stand in the bytes from a position on, by a grammar
pub record FillLeft (format : Format) (bytes : List ℕ) (count : ℕ) (old new : List ℕ) (at i : ℕ) (grammar : Grammar) : Type 0 where
  pub wanted : List ℕ
  pub reads : read_format format bytes ≡ elements wanted
  pub counted : count ≡ length wanted
  pub rest : List ℕ
  pub last : ℕ
  pub chain : Chain (in_bytes bytes) grammar at rest last
  pub left : Left old 0 wanted new i rest

-- all are left at the start
pub fill_begin : {format : Format} {bytes : List ℕ} {count : ℕ} (old : List ℕ) → FormatBytes format bytes count
    → FillLeft format bytes count old old magic_bytes 0 (grammar_of format)
fill_begin {format} {bytes} old h =
    let g = good_reading (magic_of format) (grammar_of format) bytes h.numbers h.reads in
    record {
      wanted = h.numbers;
      reads = h.reads;
      counted = h.counted;
      rest = h.numbers;
      last = g.last;
      chain = rw (magic_size format) at g.good.chain;
      left = left_begin old 0 h.numbers;
    }

module _ {format : Format} {bytes : List ℕ} {count : ℕ} {old new : List ℕ} {at i : ℕ} {grammar : Grammar}
    (p : FillLeft format bytes count old new at i grammar) where
  -- none is left
  pub fill_end : count ≤ i → length old ≡ count → read_format format bytes ≡ elements new
  fill_end h size = go p.rest p.left
    where
      go : (rest : List ℕ) → Left old 0 p.wanted new i rest → read_format format bytes ≡ elements new
      go [] left =
          let fits : length p.wanted ≤ length old = omega (arith, p.counted) in
          let all : length old ≤ length p.wanted = omega (arith, p.counted) in
          let whole : new ≡ p.wanted ++ drop (length p.wanted) old = (left_end left).stored ∙ sets_front p.wanted old fits in
          let same : new ≡ p.wanted = whole ∙ rw (drop_of_length-le old all, append-nil) in
          p.reads ∙ ap elements (sym same)
      go (x ∷ rest) left = absurd (omega (arith, left.ends, p.counted))

  -- where one is left, the grammar is not at its end
  pub fill_more : i < count → grammar ≡ done → ⊥
  fill_more h e = go p.rest (rw e at p.chain) p.left
    where
      go : {last : ℕ} (rest : List ℕ) → Chain (in_bytes bytes) done at rest last → Left old 0 p.wanted new i rest → ⊥
      go [] none left = omega (arith, left.ends, p.counted)
      go {last = last} (_ ∷ _) x4 left = elim x4 [ ]

-- the next number, above a base
module _ {format : Format} {bytes : List ℕ} {count : ℕ} {old new : List ℕ} {at i base : ℕ} {rule : Rule} {next : ℕ → Grammar}
    (p : FillLeft format bytes count old new at i (number (above base) rule next)) (found : Result (ℕ × ℕ) Refusal)
    (is_found : item found ≡ in_bytes bytes (above base) at) where
  -- the number that is found meets its rule, and is stored
  pub fill_next : {n after : ℕ} → found ≡ Ok (n, after)
      → (rule n ≡ 0) × FillLeft format bytes count old (set new i n) after (i + 1) (next n)
  fill_next {n} {after} e = go p.rest p.chain p.left
    where
      go : (rest : List ℕ) → Chain (in_bytes bytes) (number (above base) rule next) at rest p.last
          → Left old 0 p.wanted new i rest → (rule n ≡ 0) × FillLeft format bytes count old (set new i n) after (i + 1) (next n)
      go [] x'' left = elim x'' [ ]
      go (m ∷ ms) (more {after = q} ok there chain) left =
          let f : value m q ≡ value n after = sym there ∙ sym is_found ∙ ap item e in
          let is-n : m ≡ n = cc in
          let is-after : q ≡ after = cc in
          rw (← is-n, ← is-after) (
            ok,
            record {
              wanted = p.wanted;
              reads = p.reads;
              counted = p.counted;
              rest = ms;
              last = p.last;
              chain = chain;
              left = left_one left;
            },
          )

  -- no number of good bytes is refused
  fill_never : {r : Refusal} → found ≡ Err r → ⊥
  fill_never {r} e = go p.rest p.chain
    where
      go : (rest : List ℕ) → Chain (in_bytes bytes) (number (above base) rule next) at rest p.last → ⊥
      go [] x' = elim x' [ ]
      go (m ∷ ms) (more {after = q} ok there chain) =
          let f : Item.refused r ≡ value m q = sym (ap item e) ∙ is_found ∙ there in
          let z : ◌≡◌ {A = ℕ} 0 1 = cc in omega arith

  -- a number is found
  pub fill_found : IsOk found
  fill_found = go found refl
    where
      go : (f : Result (ℕ × ℕ) Refusal) → found ≡ f → IsOk f
      go (Ok n) e = refl
      go (Err r) e = absurd (fill_never e)
