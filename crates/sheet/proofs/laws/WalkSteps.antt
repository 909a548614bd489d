-- One step of the walk: the number reader's answer, tested by a rule, is what the grammar says of a number there.
use Prim.Native.Nat.{ℕ, ◌+◌, ◌-◌, ◌<◌, ◌≤◌}
use mathlib.Core.Path.{◌≡◌, refl, sym, ◌∙◌, ap, subst}
use mathlib.Core.Bool.{Bool, true, false}
use mathlib.Core.Logic.{⊎_elim}
use mathlib.Core.List.{List, []}
use native.Mathlib.Omega.{arith}
use native.Mathlib.Nat.{add-zero}
use lib.ListN.{length, length-append}
use Rattle.leb128.specs.Limits.{number_bytes}
use Rattle.leb128.specs.Number.{encode}
use Rattle.leb128.specs.Grammar.{Form, Grammar, Rule, plain, within}
use Rattle.leb128.specs.Grammar.Form.{above}
use Rattle.leb128.specs.Grammar.Grammar.{number, done}
use Rattle.leb128.specs.Source.{Item, refusal, raised, byte_item, list_item, in_bytes, in_list}
use Rattle.leb128.specs.Source.Item.{value}
use Rattle.leb128.specs.Walk.{Walk, checked, led, followed, walk}
use Rattle.leb128.specs.Format.{held, encoded as bytes_of}
use Rattle.leb128.specs.laws.Cases.{lt_or_le}
use Rattle.leb128.specs.laws.DecodeEncode.{encode_most}
use Rattle.leb128.specs.laws.ItemCases.{list_value, list_ended, ahead}
use Rattle.leb128.specs.laws.StepCases.{checked_good, checked_broken, checked_value, checked_both}
use Rattle.leb128.specs.laws.EachNumber.{within_limits}
use Rattle.leb128.specs.declared.Refusal.{Refusal}
use Rattle.sheet.specs.Limits.{max_separation}
use Rattle.sheet.specs.Grammar.{crossed, maximum_rule}
use Rattle.sheet.specs.Refusals.{separations_crossed}
use Rattle.sheet.specs.inside.Cursor.{Measure, encoded, source, weight, weigh, step_of, counted, Counted}
use Rattle.sheet.specs.inside.Cursor.{resumed, Passes, measured, walk_from, onward, OfValue, Reads, tested, Ranged, Limited, Maximum}
use Rattle.sheet.specs.declared.Cursor.{Cursor}
use Rattle.sheet.specs.declared.Range.{Range}
use Rattle.sheet.specs.declared.Input.{Input}
use Rattle.sheet.specs.declared.Input.TheVariants.{Bytes, Numbers}
use Rattle.std.specs.Prelude.{Ok, Err}
use Rattle.sheet.specs.inside.Cursor.{Step}

-- a walk's measure counts its first number before the others
measured_led : (coded : Bool) (count : ℕ) (form : Form) (rule : Rule) (next : ℕ → Grammar) (n : ℕ) (walk : Walk)
    → measured coded count (number form rule next) (led n walk) ≡ measured coded (count + weight coded form n) (next n) walk
unfolding measured led bytes_of held
measured_led true count (above base) rule next n (Walk.whole at ns) = ap (Measure.whole at) (omega arith)
measured_led false count (above base) rule next n (Walk.whole at ns) =
    ap (Measure.whole at) (omega (arith, length-append (encode number_bytes (n - base)) (bytes_of (next n) ns)))
measured_led coded count form rule next n (Walk.refused r) = refl

-- nothing more is counted at the end
pub walk_done : (input : Input) (c : Cursor) → walk_from input c done ≡ Measure.whole c.at c.count
unfolding walk_from walk measured bytes_of
walk_done input c = ap (Measure.whole c.at) (go (encoded input))
  where
    go : (coded : Bool) → c.count + weigh coded done [] ≡ c.count
    go true = add-zero c.count
    go false = add-zero c.count

-- the position behind a number in bytes, in any form
pub raised_ahead : (bytes : List ℕ) (base at n after : ℕ) → in_bytes bytes (above base) at ≡ value n after → at < after
unfolding in_bytes raised
raised_ahead bytes base at n after e = go (byte_item bytes at) refl e
  where
    go : (item : Item) → byte_item bytes at ≡ item → raised (above base) item ≡ value n after → at < after
    go (value m q) i e = let is-after : q ≡ after = cc in omega (arith, ahead bytes at m q i)
    go (Item.refused r) i e = let z : ◌≡◌ {A = ℕ} 0 1 = cc in absurd (omega arith)

-- the position behind a number in a list
pub listed_ahead : (numbers : List ℕ) (at n after : ℕ) → list_item numbers at ≡ value n after → (at < length numbers) × (after ≡ at + 1)
listed_ahead numbers at n after e =
    ⊎_elim
    (λ (there : at < length numbers).
    let w : value _ (at + 1) ≡ value n after = sym (list_value numbers at there) ∙ e in
    let is-after : at + 1 ≡ after = cc in
    (there, sym is-after))
    (λ (gone : length numbers ≤ at).
    let w : Item.refused _ ≡ value n after = sym (list_ended numbers at gone) ∙ e in
    let z : ◌≡◌ {A = ℕ} 0 1 = cc in absurd (omega arith))
    (lt_or_le at (length numbers))

-- the next cursor is counted
counted_next : (input : Input) (form : Form) (at count n after : ℕ) → source input form at ≡ value n after
    → counted (encoded input) at count → counted (encoded input) after (count + weight (encoded input) form n)
unfolding in_list
counted_next (Bytes bytes) (above base) at count n after e h = omega (arith, raised_ahead bytes.now base at n after e)
counted_next (Numbers numbers) (above base) at count n after e h =
    omega (arith, listed_ahead numbers.now at n after e, encode_most number_bytes (n - base))

module _ (input : Input) (c : Cursor) (form : Form) (rule : Rule) (P : ℕ → Type 0) where
  -- what stands at the cursor
  here : Item
  here = source input form c.at

  -- a checked item is read
  reads_item : (item : Item) → checked rule c.at here ≡ item → Counted input c → ((n : ℕ) → rule n ≡ 0 → P n)
      → Reads input c (number form rule) P (step_of input c form item)
  unfolding here walk_from walk onward followed measured
  reads_item (value n after) i h p =
      let v = checked_value rule c.at n after here i in
      record {
        follows = λ next. rw i
            (measured_led (encoded input) c.count form rule next n (walk (next n) (source input) after));
        good = (counted_next input form c.at c.count n after v.0 h, p n v.1);
      }
  reads_item (Item.refused r) i h p = record { follows = λ next. rw i; good = tt }

  -- a step that is tested by the rule reads the number
  pub tested_reads : (step : Step) → step ≡ tested input c form rule → Counted input c → ((n : ℕ) → rule n ≡ 0 → P n)
      → Reads input c (number form rule) P step
  unfolding here
  tested_reads step e h p = rw e (reads_item (checked rule c.at here) refl h p)

-- the item that a step was made of
item_of : (input : Input) (c : Cursor) (form : Form) (item : Item) {n : ℕ} {after : Cursor} → step_of input c form item ≡ Ok (n, after)
    → item ≡ value n after.at
item_of input c form (value m q) e = ap at_of e
  where
    at_of : Step → Item
    at_of (Ok (n, after)) = value n after.at
    at_of (Err r) = Item.refused r
item_of input c form (Item.refused r) e = let z : ◌≡◌ {A = ℕ} 0 1 = cc in absurd (omega arith)

-- the refusal that a step was made of
refused_of : (input : Input) (c : Cursor) (form : Form) (item : Item) {r : Refusal} → step_of input c form item ≡ Err r → item ≡ Item.refused r
refused_of input c form (value m q) e = let z : ◌≡◌ {A = ℕ} 0 1 = cc in absurd (omega arith)
refused_of input c form (Item.refused s) {r} e = let is-r : s ≡ r = cc in ap Item.refused is-r

-- a further test of a step
module _ (input : Input) (c : Cursor) (form : Form) (item : Item) (rule : Rule) (step : Step) (is-step : step ≡ step_of input c form item) where
  -- a refusal stays
  test_refused : {r : Refusal} → step ≡ Err r → step ≡ step_of input c form (checked rule c.at item)
  unfolding checked
  test_refused e =
      let i = refused_of input c form item (sym is-step ∙ e) in
      rw (i, e)

  module _ {n : ℕ} {after : Cursor} (e : step ≡ Ok (n, after)) where
    -- the value that stands there
    there : item ≡ value n after.at
    there = item_of input c form item (sym is-step ∙ e)

    -- a value that meets the rule stays
    test_good : rule n ≡ 0 → Ok (n, after) ≡ step_of input c form (checked rule c.at item)
    test_good ok =
        sym e
        ∙
        (is-step
        ∙
        (ap (step_of input c form) there
        ∙
        (ap (step_of input c form) (sym (checked_good rule c.at n after.at ok))
        ∙ ap (λ (i : Item). step_of input c form (checked rule c.at i)) (sym there))))

    -- a value that breaks the rule is refused
    test_broken : {why : ℕ} (answer : Step) → rule n ≡ why → 0 < why → answer ≡ Err (refusal why c.at)
        → answer ≡ step_of input c form (checked rule c.at item)
    test_broken answer w pos a =
        a ∙ (ap (λ (k : ℕ). Err (refusal k c.at)) (sym w)
        ∙ (ap (step_of input c form) (sym (checked_broken rule c.at n after.at (λ (z : rule n ≡ 0). omega arith)))
        ∙ ap (λ (i : Item). step_of input c form (checked rule c.at i)) (sym there)))

-- the step is tested by its limits
pub ranged_by : {input : Input} {c : Cursor} {range : Range} {step : Step} → Counted input c
    → step ≡ tested input c (above range.base) (within range.low range.high) → Ranged input c range step
ranged_by {input} {c} {range} {step} h e =
    record {
      is = e;
      reads =
          tested_reads input c (above range.base) (within range.low range.high)
          (λ n. (range.low ≤ n) × (n ≤ range.high)) step e h (λ n ok. within_limits range.low range.high n ok);
    }

-- a maximum separation is tested by its limits and then by its minimum
maximum_by : {input : Input} {c : Cursor} {least : ℕ} {step : Step} → Counted input c
    → step ≡ step_of input c plain
    (checked (crossed least) c.at (checked (within 0 max_separation) c.at (source input plain c.at)))
    → Maximum input c least step
maximum_by {input} {c} {least} {step} h e =
    record {
      reads =
          tested_reads input c plain (maximum_rule least) (λ n. Unit) step
          (e ∙ ap (step_of input c plain)
          (checked_both (within 0 max_separation) (crossed least) c.at (source input plain c.at)))
          h (λ n ok. tt);
    }

-- a maximum separation that passes its limits is tested by its minimum
module _ {input : Input} {c : Cursor} {step : Step} (h : Counted input c) (first : Limited input c 0 max_separation step) where
  -- what stands there within its limits
  limits : Item
  limits = checked (within 0 max_separation) c.at (source input plain c.at)

  -- a refusal stays
  pub maximum_refused : {least : ℕ} {r : Refusal} → step ≡ Err r → Maximum input c least (Err r)
  unfolding limits
  maximum_refused {least} e = maximum_by h (sym e ∙ test_refused input c plain limits (crossed least) step first.is e)

  -- a maximum that meets its minimum
  pub maximum_good : {least n : ℕ} {after : Cursor} → step ≡ Ok (n, after) → crossed least n ≡ 0 → Maximum input c least (Ok (n, after))
  unfolding limits
  maximum_good {least} e ok = maximum_by h (test_good input c plain limits (crossed least) step first.is e ok)

  -- one that does not
  pub maximum_crossed : {least n : ℕ} {after : Cursor} {answer : Step} → step ≡ Ok (n, after) → crossed least n ≡ separations_crossed
      → answer ≡ Err (refusal separations_crossed c.at) → Maximum input c least answer
  unfolding limits
  maximum_crossed {least} {answer = answer} e why a =
      maximum_by h (test_broken input c plain limits (crossed least) step first.is e answer why (omega arith) a)

-- two parts, one behind the other
module _ {input : Input} {c : Cursor} {part : (ℕ → Grammar) → Grammar} {P : ℕ → Type 0} {step : Step}
    (first : Reads input c part P step) where
  -- a second part goes on from the first
  pub then_reads : {n : ℕ} {after : Cursor} {Q : ℕ → Type 0} {answer : Step} (others : ℕ → (ℕ → Grammar) → Grammar)
      → step ≡ Ok (n, after) → Reads input after (others n) Q answer
      → Reads input c (λ next. part λ m. others m next) Q answer
  unfolding onward
  then_reads others e second =
      record {
        follows = λ next.
            first.follows (λ m. others m next)
            ∙ (ap (λ (s : Step). onward input s (λ m. others m next)) e ∙ second.follows next);
        good = second.good;
      }

  -- a refused part ends both
  pub stops : {r : Refusal} {Q : ℕ → Type 0} (others : ℕ → (ℕ → Grammar) → Grammar) → step ≡ Err r
      → Reads input c (λ next. part λ m. others m next) Q step
  unfolding onward
  stops others e =
      record {
        follows = λ next.
            first.follows (λ m. others m next)
            ∙ (ap (λ (s : Step). onward input s (λ m. others m next)) e
            ∙ ap (λ (s : Step). onward input s next) (sym e));
        good = rw e tt;
      }

  -- what is known of a value that was read
  pub good_value : {n : ℕ} {after : Cursor} → step ≡ Ok (n, after) → Counted input after × P n
  good_value e = rw e at first.good

  -- a part is passed where its value was read
  pub passed : {n : ℕ} {after : Cursor} → step ≡ Ok (n, after) → Passes input c part (Ok after)
  unfolding onward resumed
  passed e = record { follows = λ next. rw e at (first.follows (λ n. next)); good = (good_value e).0 }

  -- it is refused where its value was
  pub stopped : {r : Refusal} → step ≡ Err r → Passes input c part (Err r)
  unfolding onward resumed
  stopped e = record { follows = λ next. rw e at (first.follows (λ n. next)); good = tt }

  -- nothing need be said of the value
  pub any_value : Reads input c part (λ n. Unit) step
  any_value = record { follows = first.follows; good = go step first.good }
    where
      go : (s : Step) → OfValue s (λ n c. Counted input c × P n) → OfValue s (λ n c. Counted input c × Unit)
      go (Ok (n, after)) g = (g.0, tt)
      go (Err r) g = tt

-- a limit may be told in another way
pub relimit : {input : Input} {c : Cursor} {low high high' : ℕ} {r : Step} → high ≡ high'
    → Limited input c low high r → Limited input c low high' r
relimit {input} {c} {low} {r = r} e h = subst (λ (k : ℕ). Limited input c low k r) e h
