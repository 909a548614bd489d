-- What the reader's answer and slice say of the bytes: what was read stands in front of the slice and is good, and where every
-- sheet has room, a refusal is that of the bytes.
use Rattle.std.specs.Prelude.{Result as Answer, Ok, Err}
use Rattle.std.specs.Prelude.{ℕ, ◌≤◌, ◌≡◌, refl, List, ◌++◌, length, take, drop}
use Rattle.std.proofs.Common.{sym, ◌∙◌, arith, length-append, take_at, le-ltb}
use Rattle.std.proofs.Math.Path.{ap}
use Rattle.leb128.specs.Format.{Result, Outcome, outcome, answered, filled}
use Rattle.leb128.specs.Format.Result.{elements}
use Rattle.leb128.specs.Grammar.{Accepts}
use Rattle.leb128.specs.laws.GoodFormat.{answered_wrote, filled_elements}
use Rattle.leb128.specs.declared.Refusal.{Refusal}
use Rattle.sheet.specs.Limits.{max_numbers}
use Rattle.sheet.specs.Grammar.{sheet}
use Rattle.sheet.specs.Reading.{read_sheet}
use Rattle.sheet.specs.laws.Sheets.{read_accepted, most_numbers}

-- where every result has room, a refusal is the result's
answered_refused : (room : ℕ) (result : Result) {r : Refusal}
    → ((es : List ℕ) → result ≡ elements es → length es ≤ room) → answered room result ≡ Outcome.refused r
    → result ≡ Result.refused r
unfolding answered
answered_refused room (elements es) {r} fits e =
    let f : Outcome.wrote (length es) ≡ Outcome.refused r = rw (le-ltb room (length es) (fits es refl)) at e in
    let z : ◌≡◌ {A = ℕ} 0 1 = cc in absurd (omega arith)
answered_refused room (Result.refused s) {r} fits e = let are : s ≡ r = cc in ap Result.refused are

-- what the reader answered and left
module _ {answer : Answer ℕ Refusal} (bytes old new : List ℕ) (e : outcome answer ≡ answered (length old) (read_sheet bytes))
    (f : new ≡ filled (read_sheet bytes) old) where
  module _ {count : ℕ} (is : answer ≡ Ok count) where
    -- the numbers that were read, how many they are, and that they have room
    done : (es : List ℕ) × (read_sheet bytes ≡ elements es) × (count ≡ length es) × (length es ≤ length old)
    unfolding outcome
    done = answered_wrote (length old) (read_sheet bytes) count (sym e ∙ ap outcome is)

    -- they stand in front
    front : new ≡ done.0 ++ drop (length done.0) old
    front = f ∙ filled_elements old done.1 done.3

    -- the numbers have room
    pub read_room : count ≤ length new
    read_room = omega (arith, ap length front ∙ length-append done.0 (drop (length done.0) old), done.2)

    -- the front of the slice is what reading gives
    pub read_is : read_sheet bytes ≡ elements (take count new)
    read_is =
        let numbers : take count new ≡ done.0 = ap (take count) front ∙ take_at done.0 (drop (length done.0) old) count (sym done.2) in
        done.1 ∙ ap elements (sym numbers)

    -- it is a good sheet's
    pub read_good : Accepts sheet (take count new)
    read_good = read_accepted bytes (take count new) read_is

  module _ (room : max_numbers ≤ length old) {r : Refusal} (is : answer ≡ Err r) where
    -- the refusal is that of the bytes
    pub read_refused : read_sheet bytes ≡ Result.refused r
    unfolding outcome
    read_refused =
        answered_refused (length old) (read_sheet bytes) (λ es i. omega (arith, most_numbers es (read_accepted bytes es i)))
        (sym e ∙ ap outcome is)
