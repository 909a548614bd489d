-- What is found at a cursor, tested by its range and counted: the step that reads a number of the range.
use Prim.Native.Nat.{ℕ, ◌+◌, ◌-◌, ◌^◌, ◌<◌}
use mathlib.Core.Path.{◌≡◌, sym, ◌∙◌, ap}
use mathlib.Core.List.{List}
use native.Mathlib.Omega.{arith}
use Rattle.leb128.specs.Limits.{number_bytes}
use Rattle.leb128.specs.Refusals.{outside_limits}
use Rattle.leb128.specs.Grammar.{Form, within}
use Rattle.leb128.specs.Grammar.Form.{above}
use Rattle.leb128.specs.Source.{Item, item, refusal, raised, byte_item, in_bytes, in_list}
use Rattle.leb128.specs.Source.Item.{value}
use Rattle.leb128.specs.Walk.{checked}
use Rattle.leb128.specs.laws.DecodeEncode.{encode_most}
use Rattle.leb128.specs.laws.StepCases.{checked_good, checked_broken}
use Rattle.leb128.specs.declared.Refusal.{Refusal}
use Rattle.sheet.specs.inside.Cursor.{Roomy, encoded, source, excess_weight, weight, step_of, counted, Counted, Ranged}
use Rattle.sheet.specs.declared.Cursor.{Cursor}
use Rattle.sheet.specs.declared.Range.{Range}
use Rattle.sheet.specs.declared.Input.{Input}
use Rattle.sheet.specs.declared.Input.TheVariants.{Bytes, Numbers}
use Rattle.std.specs.Prelude.{Result, Ok, Err}
use Rattle.sheet.specs.inside.Cursor.{Step}
use Rattle.sheet.proofs.laws.WalkSteps.{raised_ahead, listed_ahead, ranged_by}

-- what the bytes hold, above a base
module _ (bytes : List ℕ) (at base : ℕ) where
  -- a number
  pub above_value : {n after : ℕ} → byte_item bytes at ≡ value n after → value (base + n) after ≡ in_bytes bytes (above base) at
  unfolding in_bytes raised
  above_value e = rw e

  -- a refusal
  pub above_refused : {r : Refusal} → byte_item bytes at ≡ Item.refused r → Item.refused r ≡ in_bytes bytes (above base) at
  unfolding in_bytes raised
  above_refused e = rw e

-- what is counted fits there
count_fits : (input : Input) (form : Form) (at count n after : ℕ) → source input form at ≡ value n after
    → counted (encoded input) at count → after < 2 ^ 64 → Roomy input → count + weight (encoded input) form n < 2 ^ 64
unfolding in_list
count_fits (Bytes bytes) (above base) at count n after e h small few = omega (arith, raised_ahead bytes.now base at n after e)
count_fits (Numbers numbers) (above base) at count n after e h small few =
    omega (arith, listed_ahead numbers.now at n after e, encode_most number_bytes (n - base))

-- what was found at a cursor, tested by its range
module _ (input : Input) (c : Cursor) (range : Range) {found : Result (ℕ × ℕ) Refusal} (h : Counted input c)
    (is_found : item found ≡ source input (above range.base) c.at) where
  -- a refusal stays
  pub found_refused : {r : Refusal} → found ≡ Err r → Ranged input c range (Err r)
  unfolding checked
  found_refused e = ranged_by h (rw (sym is_found ∙ ap item e))

  module _ {n after : ℕ} (e : found ≡ Ok (n, after)) where
    -- the value that stands there
    stands : source input (above range.base) c.at ≡ value n after
    stands = sym is_found ∙ ap item e

    -- a value outside its limits is refused
    pub found_outside : {answer : Step} → within range.low range.high n ≡ outside_limits
        → answer ≡ Err (refusal outside_limits c.at) → Ranged input c range answer
    found_outside w a =
        ranged_by h
        (a ∙ ap (step_of input c (above range.base))
        (sym
        (ap (checked (within range.low range.high) c.at) stands
        ∙ checked_broken (within range.low range.high) c.at n after (λ (z : within range.low range.high n ≡ 0). omega arith)
        ∙ ap (λ (k : ℕ). Item.refused (refusal k c.at)) w)))

    -- a value within them is counted
    pub found_inside : {count : ℕ} → within range.low range.high n ≡ 0
        → count ≡ c.count + excess_weight (encoded input) (n - range.base)
        → Ranged input c range (Ok (n, record { at = after; count = count }))
    found_inside w k =
        ranged_by h
        (ap (λ (m : ℕ). Ok (n, record { at = after; count = m })) k
        ∙ ap (step_of input c (above range.base))
        (sym
        (ap (checked (within range.low range.high) c.at) stands
        ∙ checked_good (within range.low range.high) c.at n after w)))

    -- and what is counted fits
    pub found_fits : after < 2 ^ 64 → Roomy input
        → c.count + excess_weight (encoded input) (n - range.base) < 2 ^ 64
    found_fits small few = count_fits input (above range.base) c.at c.count n after stands h small few
