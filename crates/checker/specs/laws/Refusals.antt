-- The checker refuses with 1 to 7 only, never with 8, and at an offset of at most 5,121: its refusals are those of reading
-- and of slices that are too short.
use Rattle.std.specs.Prelude.{ℕ, ◌≡◌, refl, Bool, true, false, cond, List, ltb, ℤ, length, take}
use Rattle.std.proofs.Common.{sym, arith}
use Rattle.leb128.specs.Refusals.{slice_short}
use Rattle.leb128.specs.Source.{refusal}
use Rattle.leb128.specs.Format.{Result}
use Rattle.leb128.specs.Format.Result.{elements}
use Rattle.leb128.specs.Reply.{Reply}
use Rattle.leb128.specs.laws.ReplyCases.{value_not}
use Rattle.leb128.specs.declared.Refusal.{Refusal}
use Rattle.sheet.specs.Reading.{read_sheet}
use Rattle.sheet.specs.laws.Sheets.{reader_refusals}
use Rattle.sheet.specs.Refusals.{RefusalTo}
use Rattle.drawing.specs.Sheet.{sheet_of}
use Rattle.drawing.specs.Certificate.{certificate_size}
use Rattle.drawing.specs.Judged.{judged}
use Rattle.checker.specs.Verdict.{decided, judge_numbers, check_answer}

-- a slice that is too short
slice_given : RefusalTo slice_short (refusal slice_short 0)
slice_given = record { number_in = (omega arith, omega arith); offset_in = omega arith }

-- two tests of length, then a decision
tests_refused : (few short decision : Bool) (r : Refusal)
    → cond few (Reply.refused (refusal slice_short 0)) (cond short (Reply.refused (refusal slice_short 0)) (Reply.value decision))
    ≡ Reply.refused r
    → RefusalTo slice_short r
tests_refused true short decision r e = let is-r : r ≡ refusal slice_short 0 = cc in rw is-r slice_given
tests_refused false true decision r e = let is-r : r ≡ refusal slice_short 0 = cc in rw is-r slice_given
tests_refused false false decision r e = absurd (value_not e)

-- what the checker refuses
pub check_refusals : (bytes places : List ℕ) (list : List ℤ) (r : Refusal) → check_answer (read_sheet bytes) places list ≡ Reply.refused r
    → RefusalTo slice_short r
unfolding check_answer judge_numbers decided
check_refusals bytes places list r e = go (read_sheet bytes) refl e
  where
    go : (read : Result) → read_sheet bytes ≡ read → check_answer read places list ≡ Reply.refused r → RefusalTo slice_short r
    go (elements numbers) i e =
        tests_refused (ltb (length places) (sheet_of numbers).nodes) (ltb (length list) (certificate_size (sheet_of numbers)))
        (judged (sheet_of numbers) (take (sheet_of numbers).nodes places) (take (certificate_size (sheet_of numbers)) list)) r e
    go (Result.refused s) i e =
        let is-r : s ≡ r = cc in
        let g = reader_refusals bytes s i in
        rw (sym is-r) (record { number_in = (g.number_in.0, omega (arith, g.number_in.1)); offset_in = g.offset_in })
