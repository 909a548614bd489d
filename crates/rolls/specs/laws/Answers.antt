-- The answer on a good sheet, case by case, and what the first width outside its limits shows of the others.
use Rattle.std.specs.Prelude.{ℕ, zero, suc, ◌+◌, ◌≤◌, ◌<◌, ◌≡◌, List, [], ◌∷◌, length, get_or, drop, ltb, position, Some, None}
use Rattle.std.specs.List.{position_or_len}
use Rattle.std.proofs.lemmas.List.Recursion.{is_position_or_len}
use Rattle.std.proofs.Math.Path.{refl}
use Rattle.std.proofs.Common.{sym, ◌∙◌, ap, subst, ⊎_elim, arith, drop_of_length-le, drop-cons}
use Rattle.std.proofs.Math.Decide.{dec_lt}
use borrow.Author.Tests.{lt-ltb, le-ltb, le-leb, lt-leb}
use Rattle.leb128.specs.Refusals.{outside_limits, slice_short}
use Rattle.leb128.specs.Source.{refusal}
use Rattle.leb128.specs.Format.{Outcome}
use Rattle.leb128.specs.Format.Outcome.{wrote}
use Rattle.leb128.specs.declared.Refusal.{Refusal}
use Rattle.leb128.specs.laws.Cases.{lt_or_le}
use Rattle.sheet.specs.Limits.{max_width}
use Rattle.rolls.specs.Limits.{max_widths}
use Rattle.rolls.specs.Refusals.{many_widths}
use Rattle.rolls.specs.Totals.{first_outside, widths_answer}
use Rattle.rolls.specs.inside.Order.{Within}

module _ (ws : List ℕ) (room : ℕ) where
  -- too many widths
  pub answer_many : max_widths < length ws → widths_answer ws room ≡ Outcome.refused (refusal many_widths 0)
  unfolding widths_answer
  answer_many l = rw (lt-ltb max_widths (length ws) l) refl

  module _ (few : length ws ≤ max_widths) where
    -- a width outside its limits
    pub answer_outside : first_outside ws < length ws → widths_answer ws room ≡ Outcome.refused (refusal outside_limits (first_outside ws))
    unfolding widths_answer
    answer_outside l = rw (le-ltb max_widths (length ws) few, lt-ltb (first_outside ws) (length ws) l) refl

    module _ (inside : length ws ≤ first_outside ws) where
      -- fewer totals than widths
      pub answer_short : room < length ws → widths_answer ws room ≡ Outcome.refused (refusal slice_short 0)
      unfolding widths_answer
      answer_short s =
          rw (le-ltb max_widths (length ws) few, le-ltb (first_outside ws) (length ws) inside, lt-ltb room (length ws) s) refl

      -- the totals are written
      pub answer_wrote : length ws ≤ room → widths_answer ws room ≡ wrote (length ws)
      unfolding widths_answer
      answer_wrote s =
          rw (le-ltb max_widths (length ws) few, le-ltb (first_outside ws) (length ws) inside, le-ltb room (length ws) s) refl

  -- there is no other case
  pub answer_cases : (P : Outcome → Type 0) → P (Outcome.refused (refusal many_widths 0))
      → (length ws ≤ max_widths → first_outside ws < length ws → P (Outcome.refused (refusal outside_limits (first_outside ws))))
      → P (Outcome.refused (refusal slice_short 0))
      → (length ws ≤ max_widths → length ws ≤ first_outside ws → P (wrote (length ws))) → P (widths_answer ws room)
  answer_cases P many outside short whole =
      ⊎_elim (λ (l : max_widths < length ws). subst P (sym (answer_many l)) many) (λ (few : length ws ≤ max_widths).
      ⊎_elim (λ (l : first_outside ws < length ws). subst P (sym (answer_outside few l)) (outside few l))
      (λ (inside : length ws ≤ first_outside ws).
      ⊎_elim (λ (l : room < length ws). subst P (sym (answer_short few inside l)) short)
      (λ (l : length ws ≤ room). subst P (sym (answer_wrote few inside l)) (whole few inside))
      (lt_or_le room (length ws)))
      (lt_or_le (first_outside ws) (length ws)))
      (lt_or_le max_widths (length ws))

-- a width inside its limits is passed over
inside_first : (w : ℕ) (ws : List ℕ) → w ≤ max_width → first_outside (w ∷ ws) ≡ suc (first_outside ws)
unfolding first_outside
inside_first w ws h = rw (le-leb w max_width h) refl

-- a width outside them is the first
outside_first : (w : ℕ) (ws : List ℕ) → max_width < w → first_outside (w ∷ ws) ≡ 0
unfolding first_outside
outside_first w ws h = rw (lt-leb w max_width h) refl

-- from an index on, a width outside its limits is the first
pub outside_here : (ws : List ℕ) (i : ℕ) → i < length ws → max_width < get_or ws i 0 → first_outside (drop i ws) ≡ 0
outside_here ws i l h = ap first_outside (drop-cons ws i 0 l) ∙ outside_first (get_or ws i 0) (drop (suc i) ws) h

-- and one inside them is passed over
pub outside_next : (ws : List ℕ) (i : ℕ) → i < length ws → get_or ws i 0 ≤ max_width
    → first_outside (drop i ws) ≡ suc (first_outside (drop (i + 1) ws))
outside_next ws i l h =
    let one : suc i ≡ i + 1 = omega arith in
    ap first_outside (drop-cons ws i 0 l) ∙ inside_first (get_or ws i 0) (drop (suc i) ws) h
    ∙ ap (λ (k : ℕ). suc (first_outside (drop k ws))) one

-- behind the last there is none
pub outside_end : (ws : List ℕ) (i : ℕ) → length ws ≤ i → first_outside (drop i ws) ≡ 0
unfolding first_outside
outside_end ws i l = ap first_outside (drop_of_length-le ws l)

-- so it is the first position past the limit, or the length
first_past : (ws : List ℕ) → first_outside ws ≡ position_or_len (λ w. ltb max_width w) ws
unfolding first_outside
first_past =
    is_position_or_len first_outside (λ w. ltb max_width w) refl
    λ w ws. ⊎_elim (λ (l : max_width < w). outside_first w ws l ∙ rw (lt-ltb max_width w l) refl)
    (λ (l : w ≤ max_width). inside_first w ws l ∙ rw (le-ltb max_width w l) (omega arith)) (lt_or_le max_width w)

-- where that position is found, it is the first width outside
pub some_outside : (ws : List ℕ) {at : ℕ} → Some at ≡ position (λ w. ltb max_width w) ws → (at ≡ first_outside ws) × (at < length ws)
some_outside ws {at} e =
    ⊎_elim
    (λ (l : first_outside ws < length ws). let k = rw (sym (first_past ws), lt-ltb (first_outside ws) (length ws) l) at e in
    let same : at ≡ first_outside ws = cc in (same, omega arith))
    (λ (l : length ws ≤ first_outside ws). let k = rw (sym (first_past ws), le-ltb (first_outside ws) (length ws) l) at e in absurd cc)
    (lt_or_le (first_outside ws) (length ws))

-- where none is found, none is outside
pub no_outside : (ws : List ℕ) → None ≡ position (λ w. ltb max_width w) ws → length ws ≤ first_outside ws
no_outside ws e =
    ⊎_elim
    (λ (l : first_outside ws < length ws). let k = rw (sym (first_past ws), lt-ltb (first_outside ws) (length ws) l) at e in absurd cc)
    (λ (l : length ws ≤ first_outside ws). l) (lt_or_le (first_outside ws) (length ws))

-- if none is outside, the first width is inside, and none behind it is outside
first_inside : (w : ℕ) (ws : List ℕ) → length (w ∷ ws) ≤ first_outside (w ∷ ws) → (w ≤ max_width) × (length ws ≤ first_outside ws)
first_inside w ws h = elim (dec_lt max_width w) [
  | yes past ↦ absurd (omega (arith, outside_first w ws past))
  | no l ↦ let k : w ≤ max_width = omega arith in (k, omega (arith, inside_first w ws k))
]

-- so every width is within its limits
pub none_outside : (ws : List ℕ) → length ws ≤ first_outside ws → Within ws
none_outside [] h i l = absurd (omega arith)
none_outside (w ∷ ws) h zero l = (first_inside w ws h).0
none_outside (w ∷ ws) h (suc i) l = none_outside ws (first_inside w ws h).1 i (omega arith)

-- what is refused is not written
pub refused_not : {A : Type 0} {r : Refusal} {count : ℕ} → Outcome.refused r ≡ wrote count → A
refused_not e = let z : ◌≡◌ {A = ℕ} 0 1 = cc in absurd (omega arith)

-- if totals are written, every width is within its limits
pub wrote_within : (ws : List ℕ) (room count : ℕ) → widths_answer ws room ≡ wrote count → Within ws
wrote_within ws room count =
    answer_cases ws room (λ (o : Outcome). o ≡ wrote count → Within ws)
    (λ e. refused_not e) (λ few l e. refused_not e) (λ e. refused_not e) (λ few inside e. none_outside ws inside)
