-- The refusals that reading and writing a format give: those of the source and of the rules, what follows, and for bytes the
-- magic, for an answer the slice.
use Rattle.std.specs.Prelude.{ℕ, ◌<◌, ◌≤◌, Bool, true, false, cond, ◌&&◌, ◌⊎◌, List, ◌++◌, ltb, take, drop}
use Rattle.std.proofs.Math.Path.{◌≡◌, refl, sym, ap}
use Rattle.std.proofs.Common.{◌∙◌, arith, lt-ltb, le-ltb}
use Rattle.std.proofs.Math.Logic.{inl, inr, ⊎_elim}
use Rattle.std.proofs.Math.Dec.{leb}
use Rattle.std.proofs.Math.ListN.{length}
use Rattle.leb128.specs.Refusals.{input_ended, other_magic, number_form, outside_limits, something_follows, slice_short}
use Rattle.leb128.specs.Grammar.{Form, Grammar, Rule, within}
use Rattle.leb128.specs.Number.{Decoded, decode}
use Rattle.leb128.specs.Limits.{number_bytes}
use Rattle.leb128.specs.Source.{Source, Item, refusal, decoded_item, byte_item, list_item, raised, in_bytes, in_list}
use Rattle.leb128.specs.Source.Item.{value}
use Rattle.leb128.specs.Walk.{Walk, checked, led, followed, walk}
use Rattle.leb128.specs.Walk.Walk.{whole, refused}
use Rattle.leb128.specs.Format.{Result, Outcome, same, walk_bytes, complete, walk_list, encoded, made, reading, writing, answered}
use Rattle.leb128.specs.declared.Refusal.{Refusal}
use Rattle.leb128.specs.laws.Cases.{test, lt_or_le, eq_or_ne}
use Rattle.leb128.specs.laws.ItemCases.{list_value, list_ended}
use Rattle.leb128.specs.laws.StepCases.{checked_good, checked_broken, checked_value}
use Rattle.leb128.specs.laws.EachNumber.{Each}
use Rattle.leb128.specs.laws.EachNumber.Each.{end, each}

module _ (P : ℕ → Type 0) where
  -- a rule gives refusals of P only
  abbrev pub Gives : Form → Rule → Type 0
  Gives form rule = (n : ℕ) → (rule n ≡ 0) ⊎ P (rule n)

  -- limits give refusal 4 only
  pub within_gives : P outside_limits → (form : Form) (low high : ℕ) → Gives form (within low high)
  unfolding within
  within_gives outside form low high n =
      ⊎_elim
      (λ (t : (leb low n && leb n high) ≡ true). inl (rw t))
      (λ (t : (leb low n && leb n high) ≡ false). inr (rw t outside))
      (test (leb low n && leb n high))

  -- what is made of a walk is refused where it is
  made_refused : (f : List ℕ → List ℕ) (w : Walk) (r : Refusal) → (w ≡ refused r → P r.number)
      → made f w ≡ Result.refused r → P r.number
  unfolding made
  made_refused f (whole last ns) r h e = let z : ◌≡◌ {A = ℕ} 0 1 = cc in absurd (omega arith)
  made_refused f (refused t) r h e = let is-r : t ≡ r = cc in h (ap refused is-r)

  -- what is answered for a result is refused where it is, or for a short slice
  pub answer_refused : P slice_short → (room : ℕ) (result : Result) (r : Refusal) → (result ≡ Result.refused r → P r.number)
      → answered room result ≡ Outcome.refused r → P r.number
  unfolding answered
  answer_refused short room (Result.elements es) r h e =
      ⊎_elim
      (λ (k : room < length es).
      let g : Outcome.refused (refusal slice_short 0) ≡ Outcome.refused r = rw (lt-ltb room (length es) k) at e in
      let is-r : r ≡ refusal slice_short 0 = cc in
      rw is-r short)
      (λ (k : length es ≤ room).
      let g : Outcome.wrote (length es) ≡ Outcome.refused r = rw (le-ltb room (length es) k) at e in
      let z : ◌≡◌ {A = ℕ} 0 1 = cc in absurd (omega arith))
      (lt_or_le room (length es))
  answer_refused short room (Result.refused t) r h e = let is-r : t ≡ r = cc in h (ap Result.refused is-r)

  -- a source gives refusals of P only
  abbrev Refuses : Source → Type 0
  Refuses source = (form : Form) (at : ℕ) (r : Refusal) → source form at ≡ Item.refused r → P r.number

  module _ (ended : P input_ended) where
    -- a list refuses its end only
    list_refused : (numbers : List ℕ) (at : ℕ) (r : Refusal) → list_item numbers at ≡ Item.refused r → P r.number
    list_refused numbers at r e =
        ⊎_elim
        (λ (h : at < length numbers).
        let f : value _ _ ≡ Item.refused r = sym (list_value numbers at h) ∙ e in
        let z : ◌≡◌ {A = ℕ} 0 1 = cc in absurd (omega arith))
        (λ (h : length numbers ≤ at).
        let f : Item.refused (refusal input_ended (length numbers)) ≡ Item.refused r = sym (list_ended numbers at h) ∙ e in
        let is-r : r ≡ refusal input_ended (length numbers) = cc in
        rw is-r ended)
        (lt_or_le at (length numbers))

    -- so does the source
    list_source : (numbers : List ℕ) → Refuses (in_list numbers)
    unfolding in_list
    list_source numbers form at r e = list_refused numbers at r e

    module _ (form-broken : P number_form) where
      -- bytes refuse their end and a number that is not in its form
      decoded_refused : (bytes : List ℕ) (at : ℕ) (d : Decoded) (r : Refusal) → decoded_item bytes at d ≡ Item.refused r
          → P r.number
      unfolding decoded_item
      decoded_refused bytes at (Decoded.number n size) r e = let z : ◌≡◌ {A = ℕ} 0 1 = cc in absurd (omega arith)
      decoded_refused bytes at Decoded.ended r e = let is-r : r ≡ refusal input_ended (length bytes) = cc in rw is-r ended
      decoded_refused bytes at Decoded.overlong r e = let is-r : r ≡ refusal number_form at = cc in rw is-r form-broken

      -- in any form
      raised_refused : (form : Form) (item : Item) (r : Refusal) → (item ≡ Item.refused r → P r.number)
          → raised form item ≡ Item.refused r → P r.number
      unfolding raised
      raised_refused (Form.above base) (value n after) r h e = let z : ◌≡◌ {A = ℕ} 0 1 = cc in absurd (omega arith)
      raised_refused (Form.above base) (Item.refused s) r h e = h e

      -- so does the source
      byte_source : (bytes : List ℕ) → Refuses (in_bytes bytes)
      unfolding in_bytes byte_item
      byte_source bytes form at r e =
          raised_refused form (byte_item bytes at) r (decoded_refused bytes at (decode number_bytes (drop at bytes)) r)
          e

    -- a check refuses by the source or by the rule
    checked_refused : (form : Form) (rule : Rule) (at : ℕ) (item : Item) (r : Refusal) → Gives form rule
        → (item ≡ Item.refused r → P r.number) → checked rule at item ≡ Item.refused r → P r.number
    unfolding checked
    checked_refused form rule at (value n after) r gives h e =
        ⊎_elim
        (λ (ok : rule n ≡ 0).
        let f : value n after ≡ Item.refused r = sym (checked_good rule at n after ok) ∙ e in
        let z : ◌≡◌ {A = ℕ} 0 1 = cc in absurd (omega arith))
        (λ (broken : rule n ≡ 0 → ⊥).
        let f : Item.refused (refusal (rule n) at) ≡ Item.refused r = sym (checked_broken rule at n after broken) ∙ e in
        let is-r : r ≡ refusal (rule n) at = cc in
        rw is-r (⊎_elim (λ (z : rule n ≡ 0). absurd (broken z)) (λ (p : P (rule n)). p) (gives n)))
        (eq_or_ne (rule n) 0)
    checked_refused form rule at (Item.refused s) r gives h e = h e

    -- a walk refuses by its source or by a rule
    walk_refused : {m : ℕ} {grammar : Grammar} → Each Gives m grammar → (source : Source) → Refuses source
        → (at : ℕ) (r : Refusal) → walk grammar source at ≡ refused r → P r.number
    unfolding walk followed led
    walk_refused end source h at r e = let z : ◌≡◌ {A = ℕ} 0 1 = cc in absurd (omega arith)
    walk_refused (each {form = form} {rule = rule} {next = next} gives s) source h at r e =
        go (λ n ok after. walk_refused (s n ok) source h after r) (checked rule at (source form at)) refl e
      where
        go : ((n : ℕ) → rule n ≡ 0 → (after : ℕ) → walk (next n) source after ≡ refused r → P r.number)
            → (item : Item) → checked rule at (source form at) ≡ item
            → followed item (λ n after. walk (next n) source after) ≡ refused r → P r.number
        go again (value n after) i e =
            again n (checked_value rule at n after (source form at) i).1 after
            (led_refused n (walk (next n) source after) e)
          where
            led_refused : (n : ℕ) (w : Walk) → led n w ≡ refused r → w ≡ refused r
            led_refused n (whole last ns) e = let z : ◌≡◌ {A = ℕ} 0 1 = cc in absurd (omega arith)
            led_refused n (refused t) e = e
        go again (Item.refused t) i e =
            let is-r : t ≡ r = cc in
            checked_refused form rule at (source form at) r gives (h form at r) (i ∙ ap Item.refused is-r)

    module _ (follows : P something_follows) where
      -- what follows is refused
      complete_refused : (stop : ℕ) (w : Walk) (r : Refusal) → (w ≡ refused r → P r.number)
          → complete stop w ≡ refused r → P r.number
      unfolding complete
      complete_refused stop (whole last ns) r h e =
          ⊎_elim
          (λ (k : last < stop).
          let f : refused (refusal something_follows last) ≡ refused r = rw (lt-ltb last stop k) at e in
          let is-r : r ≡ refusal something_follows last = cc in
          rw is-r follows)
          (λ (k : stop ≤ last).
          let f : whole last ns ≡ refused r = rw (le-ltb last stop k) at e in
          let z : ◌≡◌ {A = ℕ} 0 1 = cc in absurd (omega arith))
          (lt_or_le last stop)
      complete_refused stop (refused t) r h e = h e

      module _ (other : P other_magic) (form-broken : P number_form) where
        -- bytes that are too short or open otherwise are refused
        opened_refused : (short same : Bool) (n : ℕ) (w : Walk) (r : Refusal) → (w ≡ refused r → P r.number)
            → cond short (refused (refusal input_ended n)) (cond same w (refused (refusal other_magic 0))) ≡ refused r → P r.number
        opened_refused true same n w r h e = let is-r : r ≡ refusal input_ended n = cc in rw is-r ended
        opened_refused false true n w r h e = h e
        opened_refused false false n w r h e = let is-r : r ≡ refusal other_magic 0 = cc in rw is-r other

        -- what the reader of a format refuses
        pub reader_gives : {m : ℕ} {grammar : Grammar} → Each Gives m grammar → (magic bytes : List ℕ) (r : Refusal)
            → reading magic grammar bytes ≡ Result.refused r → P r.number
        unfolding reading walk_bytes
        reader_gives {grammar = grammar} gives magic bytes r e =
            made_refused (λ ns. ns) (complete (length bytes) (walk_bytes magic grammar bytes)) r
            (complete_refused (length bytes) (walk_bytes magic grammar bytes) r
            (opened_refused (ltb (length bytes) (length magic)) (same (take (length magic) bytes) magic) (length bytes)
            (walk grammar (in_bytes bytes) (length magic)) r
            (walk_refused gives (in_bytes bytes) (byte_source form-broken bytes) (length magic) r))) e

      module _ (short : P slice_short) where
        -- what the writer of a format refuses
        pub writer_gives : {m : ℕ} {grammar : Grammar} → Each Gives m grammar
            → (magic numbers : List ℕ) (room : ℕ) (r : Refusal)
            → answered room (writing magic grammar numbers) ≡ Outcome.refused r → P r.number
        unfolding writing walk_list
        writer_gives {grammar = grammar} gives magic numbers room r e =
            answer_refused short room (writing magic grammar numbers) r
            (made_refused (λ ns. magic ++ encoded grammar ns) (complete (length numbers) (walk grammar (in_list numbers) 0)) r
            (complete_refused (length numbers) (walk grammar (in_list numbers) 0) r
            (walk_refused gives (in_list numbers) (list_source numbers) 0 r))) e

-- a rule whose refusals are among others gives those
pub gives_more : {P Q : ℕ → Type 0} → ((n : ℕ) → P n → Q n) → (form : Form) (rule : Rule) → Gives P form rule → Gives Q form rule
gives_more {P} f form rule g n = ⊎_elim (λ (z : rule n ≡ 0). inl z) (λ (p : P (rule n)). inr (f (rule n) p)) (g n)
