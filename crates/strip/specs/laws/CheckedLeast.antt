-- The word that `strip_check` answers for yes, 1, shows a drawing of least total: no other answer has that word.
use Rattle.std.specs.Prelude.{ℕ, ◌≡◌, refl, Bool, true, false, List, ℤ}
use Rattle.std.proofs.Common.{arith}
use Rattle.leb128.specs.Reply.{Reply}
use Rattle.sheet.specs.Reading.{read_sheet}
use Rattle.checker.specs.Verdict.{check_answer}
use Rattle.checker.specs.Shown.{ShownLeast}
use Rattle.checker.specs.laws.Accepted.{accepted_least}
use Rattle.checker.specs.laws.Refusals.{check_refusals}
use Rattle.strip.specs.Words.{reply_word, judgement_word}

-- where the word is that of yes, the places are a drawing and every drawing of the sheet has at least as large a total
pub yes_word_least : (bytes places : List ℕ) (list : List ℤ)
    → judgement_word (check_answer (read_sheet bytes) places list) ≡ 1 → ShownLeast (read_sheet bytes) places
unfolding reply_word
yes_word_least bytes places list w = go (check_answer (read_sheet bytes) places list) refl w
  where
    go : (j : Reply Bool) → check_answer (read_sheet bytes) places list ≡ j → judgement_word j ≡ 1
        → ShownLeast (read_sheet bytes) places
    go (Reply.value true) e w = accepted_least bytes places list e
    go (Reply.value false) e w = absurd (omega arith)
    go (Reply.refused r) e w = absurd (omega (arith, (check_refusals bytes places list r e).number_in.0))
