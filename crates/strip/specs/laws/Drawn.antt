-- The word of `strip_draw`: the bytes and the lent slices determine it, and `strip_check` answers yes to what a drawing leaves.
use Rattle.std.specs.Prelude.{ℕ, ◌≡◌, List, ℤ}
use Rattle.std.proofs.Common.{sym, ◌∙◌, ap, arith}
use Rattle.leb128.specs.Reply.{Reply}
use Rattle.leb128.specs.Format.{Result}
use Rattle.sheet.specs.Reading.{read_sheet}
use Rattle.checker.specs.Verdict.{check_answer}
use Rattle.engine.specs.Draws.{Drawn, Draws}
use Rattle.engine.specs.laws.Determined.{determined}
use Rattle.engine.specs.laws.Refusals.{draw_refusals}
use Rattle.engine.specs.laws.Accepted.{drawn_accepted}
use Rattle.strip.specs.Words.{number_of, reply_word, drawn_word, judgement_word, DrawsWord}

-- two words for the same input are equal, and so are the places
pub draw_word_determined : (read : Result) (p₀ : List ℕ) (y₀ : List ℤ) (p q : List ℕ) (y z : List ℤ) (v w : ℕ)
    → DrawsWord read p₀ y₀ p y v → DrawsWord read p₀ y₀ q z w → (v ≡ w) × (p ≡ q)
draw_word_determined read p₀ y₀ p q y z v w g h =
    let same = determined read p₀ y₀ p q y z g.0 h.0 g.2 h.2 in
    (g.1 ∙ ap drawn_word same.answer ∙ sym h.1, same.places)

-- where the number is 0, the word of checking what is left is 1: yes
pub drawn_word_accepted : (bytes p₀ : List ℕ) (y₀ : List ℤ) (p : List ℕ) (y : List ℤ) (word : ℕ)
    → DrawsWord (read_sheet bytes) p₀ y₀ p y word → number_of word ≡ 0 → judgement_word (check_answer (read_sheet bytes) p y) ≡ 1
unfolding reply_word
drawn_word_accepted bytes p₀ y₀ p y word w zero = go w.0 w.1 w.2
  where
    go : (d : Drawn) → word ≡ drawn_word d → Draws (read_sheet bytes) p₀ y₀ p y d → judgement_word (check_answer (read_sheet bytes) p y) ≡ 1
    go (Reply.value total) e g =
        ap judgement_word (drawn_accepted (read_sheet bytes) p₀ y₀ p y total g) ∙ omega arith
    go (Reply.refused r) e g =
        absurd (omega (arith, e, zero, (draw_refusals bytes p₀ y₀ p y r g).number_in, (draw_refusals bytes p₀ y₀ p y r g).offset_in))
