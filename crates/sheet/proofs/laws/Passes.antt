-- The second passes, in any format: whatever the grammar says next, the state says how the bytes hold it.
use Prim.Native.Nat.{ℕ, ◌+◌, ◌-◌, ◌≤◌, ◌<◌}
use mathlib.Core.Path.{◌≡◌}
use mathlib.Core.List.{List}
use native.Mathlib.Omega.{arith}
use lib.ListN.{length, get_or, set}
use Rattle.std.specs.Prelude.{Result, Ok, IsOk}
use Rattle.leb128.specs.Limits.{number_bytes, number_limit, list_limit}
use Rattle.leb128.specs.Number.{encode}
use Rattle.leb128.specs.Grammar.{Grammar, Accepts}
use Rattle.leb128.specs.Grammar.Form.{above}
use Rattle.leb128.specs.Grammar.Grammar.{number, done}
use Rattle.leb128.specs.Source.{item, in_bytes}
use Rattle.leb128.specs.Format.{encoded}
use Rattle.leb128.specs.inside.Storing.{Room, Puts}
use Rattle.leb128.specs.declared.Refusal.{Refusal}
use Rattle.sheet.specs.Limits.{magic_bytes}
use Rattle.sheet.specs.inside.Formats.{grammar_of, FormatBytes}
use Rattle.sheet.specs.inside.Order.{Next}
use Rattle.sheet.specs.declared.Format.{Format}
use Rattle.sheet.proofs.laws.FillingNumbers.{FillLeft, fill_begin, fill_more, fill_next, fill_found}
use Rattle.sheet.proofs.laws.Putting.{PutLeft, put_begin, put_more, put_good, put_room, put_next}

-- the numbers that are left to read follow a grammar that the state leads to
pub record FillOn {S : Type 0} (Leads : S → Grammar → Type 0) (format : Format) (bytes : List ℕ) (count : ℕ) (old new : List ℕ) (at i : ℕ) (s : S) : Type 0 where
  pub grammar : Grammar
  pub leads : Leads s grammar
  pub left : FillLeft format bytes count old new at i grammar

-- all are left at the start
pub fill_start : {S : Type 0} (Leads : S → Grammar → Type 0) {format : Format} {bytes : List ℕ} {count : ℕ} (old : List ℕ) (s : S)
    → FormatBytes format bytes count → Leads s (grammar_of format) → FillOn Leads format bytes count old old magic_bytes 0 s
fill_start Leads {format} old s h leads = record { grammar = grammar_of format; leads = leads; left = fill_begin old h }

-- the numbers that are left to write do
pub record PutOn {S : Type 0} (Leads : S → Grammar → Type 0) (numbers old whole new : List ℕ) (at i : ℕ) (s : S) : Type 0 where
  pub grammar : Grammar
  pub leads : Leads s grammar
  pub left : PutLeft numbers old whole new at i grammar

-- all are left at the start
pub put_start : {S : Type 0} (Leads : S → Grammar → Type 0) {numbers : List ℕ} {grammar : Grammar} (old : List ℕ) (s : S)
    → Accepts grammar numbers → Leads s grammar → PutOn Leads numbers old (encoded grammar numbers) old magic_bytes 0 s
put_start Leads {grammar = grammar} old s a leads = record { grammar = grammar; leads = leads; left = put_begin old a }

module _ {S : Type 0} {base_of : S → ℕ} {after : S → ℕ → S} {Leads : S → Grammar → Type 0} {Fits : S → ℕ → Type 0}
    (goes : (s : S) (g : Grammar) → Leads s g → (g ≡ done → ⊥) → Next base_of after Leads Fits s g) where
  module _ {format : Format} {bytes : List ℕ} {count : ℕ} {old new : List ℕ} {at i : ℕ} {s : S}
      (p : FillOn Leads format bytes count old new at i s) (h : i < count) where
    -- what the grammar says next
    fill_told : Next base_of after Leads Fits s p.grammar
    fill_told = goes s p.grammar p.leads (fill_more p.left h)

    -- the base is small
    pub fill_base : {base : ℕ} → base ≡ base_of s → base < list_limit
    fill_base is_base = omega (arith, is_base, fill_told.small)

    module _ {base : ℕ} (is_base : base ≡ base_of s) (found : Result (ℕ × ℕ) Refusal) (is_found : item found ≡ in_bytes bytes (above base) at) where
      -- a number is found
      pub fill_is_found : IsOk found
      fill_is_found = fill_found (rw fill_told.is at p.left) found (rw is_base at is_found)

      module _ {n next : ℕ} (e : found ≡ Ok (n, next)) where
        -- it meets its rule, and is stored
        stored : (fill_told.rule n ≡ 0) × FillLeft format bytes count old (set new i n) next (i + 1) (fill_told.next n)
        stored = fill_next (rw fill_told.is at p.left) found (rw is_base at is_found) e

        -- it is small
        pub fill_small : n < list_limit
        fill_small = (fill_told.held n stored.0).2

        -- it may come next
        pub fill_fits : Fits s n
        fill_fits = fill_told.fits n stored.0

        -- the others are left
        pub fill_on : FillOn Leads format bytes count old (set new i n) next (i + 1) (after s n)
        fill_on = record { grammar = fill_told.next n; leads = fill_told.then n stored.0; left = stored.1 }

  module _ {numbers old whole new : List ℕ} {at i : ℕ} {s : S} (p : PutOn Leads numbers old whole new at i s) (h : i < length numbers) where
    -- what the grammar says next
    put_told : Next base_of after Leads Fits s p.grammar
    put_told = goes s p.grammar p.leads (put_more p.left h)

    -- what is left, told by it
    put_left : PutLeft numbers old whole new at i (number (above (base_of s)) put_told.rule put_told.next)
    put_left = rw put_told.is at p.left

    -- the number meets its rule
    ok : put_told.rule (get_or numbers i 0) ≡ 0
    ok = (put_good put_left h).0

    -- it may come next
    pub put_fits : Fits s (get_or numbers i 0)
    put_fits = put_told.fits (get_or numbers i 0) ok

    module _ {base : ℕ} (is_base : base ≡ base_of s) where
      -- the base is not above it
      pub put_reached : base ≤ get_or numbers i 0
      put_reached = omega (arith, is_base, (put_told.held (get_or numbers i 0) ok).0)

      -- what it lies above the base has a form
      pub put_form : get_or numbers i 0 - base < number_limit
      put_form = rw is_base (put_told.held (get_or numbers i 0) ok).1

      -- and room
      pub put_has_room : Room old magic_bytes whole → Room new at (encode number_bytes (get_or numbers i 0 - base))
      put_has_room room = rw is_base (put_room put_left h room)

      -- it is written
      pub put_on : {new' : List ℕ} {next : ℕ} → Puts new at (encode number_bytes (get_or numbers i 0 - base)) new' next
          → PutOn Leads numbers old whole new' next (i + 1) (after s (get_or numbers i 0))
      put_on t =
          record {
            grammar = put_told.next (get_or numbers i 0);
            leads = put_told.then (get_or numbers i 0) ok;
            left = put_next put_left h (rw is_base at t);
          }
