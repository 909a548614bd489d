-- The word of `strip_narrowest`: the bytes determine it, and what it tells can be read back, since only one answer meets the
-- contract.
use Rattle.std.specs.Prelude.{ℕ, ◌≡◌, List}
use Rattle.std.proofs.Common.{sym, ◌∙◌, ap, ap₂, subst, arith}
use Rattle.leb128.specs.Reply.{Reply}
use Rattle.leb128.specs.declared.Refusal.{Refusal}
use Rattle.sheet.specs.Reading.{read_sheet}
use Rattle.engine.specs.declared.Narrowest.{Narrowest}
use Rattle.engine.specs.MinimumWidth.{Narrowed, Narrows}
use Rattle.engine.specs.laws.MinimumWidth.{narrowest_determined}
use Rattle.strip.specs.Words.{number_of, Parts, minimum_of, reply_word, narrowed_word, NarrowsWord}
use Rattle.strip.specs.laws.ReadBack.{parts_back}
use Rattle.strip.specs.laws.Values.{narrowing_held}

module _ (bytes : List ℕ) (word : ℕ) (g : NarrowsWord (read_sheet bytes) word) where
  -- it is the word of every answer that meets the contract
  pub narrow_word : (a : Narrowed) → Narrows (read_sheet bytes) a → word ≡ narrowed_word a
  narrow_word a h = g.1 ∙ ap narrowed_word (narrowest_determined (read_sheet bytes) g.0 a g.2 h)

  -- where there is a minimum width, it is the second value, and the total at it is the value
  pub width_back : (n : Narrowest) → Narrows (read_sheet bytes) (Reply.value n) → Parts word n.width 0 n.total
  unfolding reply_word
  width_back n h =
      parts_back n.width 0 n.total (omega arith) (narrowing_held bytes (Reply.value n) h).value_in
      (narrow_word (Reply.value n) h)

  -- where there is none, the refusal is told, and 0 as the second value
  pub refusal_back : (r : Refusal) → Narrows (read_sheet bytes) (Reply.refused r) → Parts word 0 r.number r.offset
  unfolding reply_word
  refusal_back r h =
      let held = narrowing_held bytes (Reply.refused r) h in
      parts_back 0 r.number r.offset held.number_in held.offset_in (narrow_word (Reply.refused r) h)

  -- where the number is 0, what it tells is the minimum width and the total at it
  pub found_minimum : number_of word ≡ 0 → Narrows (read_sheet bytes) (Reply.value (minimum_of word))
  found_minimum zero = go g.0 g.2
    where
      go : (a : Narrowed) → Narrows (read_sheet bytes) a → Narrows (read_sheet bytes) (Reply.value (minimum_of word))
      go (Reply.value n) h =
          let back = width_back n h in
          subst (λ (m : Narrowest). Narrows (read_sheet bytes) (Reply.value m))
          (ap₂ (λ (w t : ℕ). record { width = w; total = t }) (sym back.second_is) (sym back.value_is)) h
      go (Reply.refused r) h =
          absurd (omega (arith, zero, (refusal_back r h).number_is, (narrowing_held bytes (Reply.refused r) h).numbered))

-- the word is determined
pub narrow_word_determined : (bytes : List ℕ) (v w : ℕ) → NarrowsWord (read_sheet bytes) v → NarrowsWord (read_sheet bytes) w → v ≡ w
narrow_word_determined bytes v w g h = narrow_word bytes v g h.0 h.2 ∙ sym h.1
