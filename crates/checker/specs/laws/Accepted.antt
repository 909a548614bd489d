-- Yes shows that the first places are a drawing of the sheet, and that no drawing has a smaller total.
use Rattle.std.specs.Prelude.{ℕ, ◌≡◌, refl, Bool, true, cond, List, T, ltb, ℤ, length, take}
use Rattle.std.proofs.Common.{sym, subst}
use Rattle.leb128.specs.Refusals.{slice_short}
use Rattle.leb128.specs.Source.{refusal}
use Rattle.leb128.specs.Format.{Result}
use Rattle.leb128.specs.Format.Result.{elements}
use Rattle.leb128.specs.Reply.{Reply}
use Rattle.leb128.specs.laws.ReplyCases.{value_not, value_behind}
use Rattle.leb128.specs.declared.Refusal.{Refusal}
use Rattle.sheet.specs.Reading.{read_sheet}
use Rattle.drawing.specs.Sheet.{sheet_of}
use Rattle.drawing.specs.Drawing.{LeastDrawing}
use Rattle.drawing.specs.Certificate.{certificate_size}
use Rattle.drawing.specs.Judged.{judged}
use Rattle.drawing.proofs.laws.Judged.{judged_least}
use Rattle.checker.specs.Shown.{ShownLeast}
use Rattle.checker.specs.Verdict.{accepted, decided, judge_numbers, check_answer}

-- a value of yes is yes
yes_true : (b : Bool) → Reply.value b ≡ accepted → T b
yes_true b e = let same : b ≡ true = cc in subst T (sym same) tt

-- yes comes from the decision on the first places and list elements
pub decided_yes : (nodes size : ℕ) (decision : List ℕ → List ℤ → Bool) (places : List ℕ) (list : List ℤ)
    → decided nodes size decision places list ≡ accepted → T (decision (take nodes places) (take size list))
unfolding decided
decided_yes nodes size decision places list e =
    let short : Refusal = refusal slice_short 0 in
    let answer : Reply Bool = Reply.value (decision (take nodes places) (take size list)) in
    yes_true (decision (take nodes places) (take size list))
    (value_behind (ltb (length list) size) short answer
    (value_behind (ltb (length places) nodes) short (cond (ltb (length list) size) (Reply.refused short) answer) e))

-- yes on numbers: the first places are a least drawing of their sheet
pub numbers_least : (numbers places : List ℕ) (list : List ℤ) → judge_numbers numbers places list ≡ accepted
    → LeastDrawing (sheet_of numbers) (take (sheet_of numbers).nodes places)
unfolding judge_numbers
numbers_least numbers places list e =
    judged_least numbers (take (sheet_of numbers).nodes places) (take (certificate_size (sheet_of numbers)) list)
    (decided_yes (sheet_of numbers).nodes (certificate_size (sheet_of numbers)) (judged (sheet_of numbers)) places list e)

-- yes, by what reading gives
result_least : (read : Result) (places : List ℕ) (list : List ℤ) → check_answer read places list ≡ accepted
    → ShownLeast read places
unfolding check_answer
result_least (elements numbers) places list e = record { numbers = numbers; reads = refl; least = numbers_least numbers places list e }
result_least (Result.refused r) places list e = absurd (value_not (sym e))

-- the checker's yes shows a least drawing
pub accepted_least : (bytes places : List ℕ) (list : List ℤ) → check_answer (read_sheet bytes) places list ≡ accepted
    → ShownLeast (read_sheet bytes) places
accepted_least bytes = result_least (read_sheet bytes)
