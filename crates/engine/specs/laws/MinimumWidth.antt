-- What the contract of the minimum width determines: the answer is one, does not depend on the sheet's own width, and is refused
-- with 1 to 6 and 10 only; and drawing the sheet at that width gives that total, at a smaller one refusal 8.
use Rattle.std.specs.Prelude.{ℕ, ◌≤◌, ◌<◌, ◌≡◌, refl, List, ℤ, length, drop}
use Rattle.std.proofs.Common.{sym, ◌∙◌, ap, ap₂, subst, ⊎_elim, arith}
use Rattle.leb128.specs.Grammar.{Accepts}
use Rattle.leb128.specs.Reply.{Reply}
use Rattle.leb128.specs.Source.{refusal}
use Rattle.leb128.specs.Format.{Result}
use Rattle.leb128.specs.Format.Result.{elements}
use Rattle.leb128.specs.laws.Cases.{lt_or_le}
use Rattle.leb128.specs.laws.ReplyCases.{value_not}
use Rattle.leb128.specs.declared.Refusal.{Refusal}
use Rattle.sheet.specs.Grammar.{sheet}
use Rattle.sheet.specs.Limits.{max_width}
use Rattle.sheet.specs.Reading.{read_sheet}
use Rattle.sheet.specs.laws.Sheets.{read_accepted, reader_refusals}
use Rattle.drawing.specs.Sheet.{Sheet, sheet_of, at_width}
use Rattle.drawing.specs.Widths.{with_width, TotalAt}
use Rattle.drawing.specs.Proper.{max_total, Proper}
use Rattle.drawing.proofs.laws.Proper.{accepts_proper}
use Rattle.drawing.proofs.laws.Unique.{total_most}
use Rattle.drawing.proofs.laws.Widths.{width_accepts, width_sheet, same_behind, one_total}
use Rattle.engine.specs.Refusals.{no_drawing, WidthRefusal}
use Rattle.engine.specs.Refusals.WidthRefusal.{read, none}
use Rattle.engine.specs.Draws.{Drawn, Room, DrawsSheet, Draws}
use Rattle.engine.specs.MinimumWidth.{Narrowed, IsMinimum, NoWidth, NarrowsSheet, Narrows}
use Rattle.engine.specs.declared.Narrowest.{Narrowest}
use Rattle.engine.specs.inside.Widths.{TotalsAt}
use Rattle.engine.specs.laws.TotalsAt.{drawn_totals, total_drawn, none_drawn}

module _ (S : Sheet) where
  -- where one width is the minimum, some width has a drawing
  minimum_not_none : {w t : ℕ} → IsMinimum S w t → NoWidth S → ⊥
  minimum_not_none m n = n _ m.width_in _ m.total_at.least.candidate

  -- no minimum is above another
  minimum_le : {w t v u : ℕ} → IsMinimum S w t → IsMinimum S v u → w ≤ v
  minimum_le {w} {v = v} m k =
      ⊎_elim
      (λ (l : v < w). absurd (m.none_narrower v l _ k.total_at.least.candidate))
      (λ (l : w ≤ v). l)
      (lt_or_le v w)

  -- there is one minimum, with one total
  one_minimum : (m n : Narrowest) → IsMinimum S m.width m.total → IsMinimum S n.width n.total → m ≡ n
  one_minimum m n g h =
      let same : m.width ≡ n.width = omega (arith, minimum_le g h, minimum_le h g) in
      ap₂ (λ (w t : ℕ). record { width = w; total = t }) same
      (one_total S g.total_at (subst (λ (w : ℕ). TotalAt S w n.total) (sym same) h.total_at))

  -- the answers for a good sheet are the same
  one_answer : (a b : Narrowed) → NarrowsSheet S a → NarrowsSheet S b → a ≡ b
  one_answer (Reply.value m) (Reply.value n) g h = ap Reply.value (one_minimum m n g h)
  one_answer (Reply.value m) (Reply.refused r) g h = absurd (minimum_not_none g h.1)
  one_answer (Reply.refused r) (Reply.value n) g h = absurd (minimum_not_none h g.1)
  one_answer (Reply.refused r) (Reply.refused s) g h = ap Reply.refused (g.0 ∙ sym h.0)

-- the answers for any input are the same
pub narrowest_determined : (result : Result) (a b : Narrowed) → Narrows result a → Narrows result b → a ≡ b
unfolding Narrows
narrowest_determined (elements numbers) a b g h = one_answer (sheet_of numbers) a b g h
narrowest_determined (Result.refused r) a b g h = g ∙ sym h

-- an answer for a sheet at one width is one for it at every width
pub any_width : (w : ℕ) (S : Sheet) (a : Narrowed) → NarrowsSheet (at_width w S) a → NarrowsSheet S a
any_width w S (Reply.value n) g =
    let t = g.total_at in
    record {
      width_in = g.width_in;
      total_at = record { places = t.places; least = t.least; total_is = t.total_is };
      none_narrower = g.none_narrower;
    }
any_width w S (Reply.refused r) g = g

-- the sheet's own width is disregarded: numbers that agree behind it have the same answer
pub width_disregarded : (s t : List ℕ) → drop 1 s ≡ drop 1 t → (a : Narrowed) → Narrows (elements s) a → Narrows (elements t) a
unfolding Narrows
width_disregarded s t e a g =
    any_width 0 (sheet_of t) a
    (subst (λ (S : Sheet). NarrowsSheet S a) (same_behind 0 s t e) (any_width (sheet_of s).width (at_width 0 (sheet_of s)) a g))

-- the refusals are those of reading, 1 to 6, and 10
pub narrow_refusals : (bytes : List ℕ) (r : Refusal) → Narrows (read_sheet bytes) (Reply.refused r) → WidthRefusal r
unfolding Narrows
narrow_refusals bytes r g = go (read_sheet bytes) refl g
  where
    go : (result : Result) → read_sheet bytes ≡ result → Narrows result (Reply.refused r) → WidthRefusal r
    go (elements numbers) e g = none g.0
    go (Result.refused s) e g = let is-s : s ≡ r = cc in rw (sym is-s) (read (reader_refusals bytes s e))

-- width and total are small
pub narrow_small : (bytes : List ℕ) (n : Narrowest) → Narrows (read_sheet bytes) (Reply.value n)
    → (n.width ≤ max_width) × (n.total ≤ max_total)
unfolding Narrows
narrow_small bytes n g = go (read_sheet bytes) refl g
  where
    go : (result : Result) → read_sheet bytes ≡ result → Narrows result (Reply.value n) → (n.width ≤ max_width) × (n.total ≤ max_total)
    go (elements numbers) e g =
        let good = width_accepts n.width g.width_in (read_accepted bytes numbers e) in
        let proper : Proper (at_width n.width (sheet_of numbers)) =
        subst Proper (width_sheet n.width (read_accepted bytes numbers e)) (accepts_proper _ good) in
        let t = g.total_at in
        (g.width_in, omega (arith, t.total_is, total_most _ t.places proper t.least.candidate))
    go (Result.refused r) e g = absurd (value_not g)

module _ (s : List ℕ) (good : Accepts sheet s) (p₀ : List ℕ) (y₀ : List ℤ) (p : List ℕ) (y : List ℤ)
    (room : Room (sheet_of s) (length p₀) (length y₀)) (d : Drawn) where
  -- what drawing the sheet with another width answers
  other_drawn : (w : ℕ) → Draws (elements (with_width w s)) p₀ y₀ p y d → TotalsAt (sheet_of s) w d
  unfolding Draws
  other_drawn w g =
      drawn_totals (sheet_of s) w p₀ y₀ p y room d (subst (λ (S : Sheet). DrawsSheet S p₀ y₀ p y d) (width_sheet w good) g)

  -- drawing the sheet with the minimum width gives that total
  pub narrow_drawn : (n : Narrowest) → Narrows (elements s) (Reply.value n) → Draws (elements (with_width n.width s)) p₀ y₀ p y d
      → d ≡ Reply.value n.total
  unfolding Narrows
  narrow_drawn n g k = total_drawn (sheet_of s) g.total_at d (other_drawn n.width k)

  -- with a smaller one it gives 8
  pub narrower_refused : (n : Narrowest) → Narrows (elements s) (Reply.value n) → (w : ℕ) → w < n.width
      → Draws (elements (with_width w s)) p₀ y₀ p y d → d ≡ Reply.refused (refusal no_drawing 0)
  unfolding Narrows
  narrower_refused n g w l k = none_drawn (sheet_of s) (g.none_narrower w l) d (other_drawn w k)

  -- where the minimum width is refused with 10, it gives 8 with every width
  pub no_width_refused : (r : Refusal) → Narrows (elements s) (Reply.refused r) → (w : ℕ) → w ≤ max_width
      → Draws (elements (with_width w s)) p₀ y₀ p y d → d ≡ Reply.refused (refusal no_drawing 0)
  unfolding Narrows
  no_width_refused r g w l k = none_drawn (sheet_of s) (g.1 w l) d (other_drawn w k)
