-- The contract leaves nothing open: a width has one entry, so the lent slice is one; every total is below `no_total`; and the sheet's own width
-- plays no part.
use Rattle.std.specs.Prelude.{ℕ, ◌+◌, ◌-◌, ◌≤◌, ◌<◌, ◌≡◌, refl, List, length, get_or, drop}
use Rattle.std.proofs.Common.{sym, ◌∙◌, ap, subst, ⊎_elim, arith, get_or-drop, ext_get_or}
use Rattle.leb128.specs.Grammar.{Accepts}
use Rattle.leb128.specs.Format.{Result, Outcome}
use Rattle.leb128.specs.Format.Result.{elements}
use Rattle.leb128.specs.Format.Outcome.{wrote}
use Rattle.leb128.specs.laws.Cases.{lt_or_le}
use Rattle.sheet.specs.Grammar.{sheet}
use Rattle.sheet.specs.Limits.{max_width}
use Rattle.drawing.specs.Sheet.{Sheet, sheet_of, at_width}
use Rattle.drawing.specs.Drawing.{NoDrawing, LeastDrawing, total_length}
use Rattle.drawing.specs.Widths.{TotalAt}
use Rattle.drawing.specs.Proper.{Proper}
use Rattle.drawing.proofs.laws.Proper.{accepts_proper}
use Rattle.drawing.proofs.laws.Unique.{total_most}
use Rattle.drawing.proofs.laws.Widths.{width_accepts, width_sheet, same_behind, one_total}
use Rattle.rolls.specs.Limits.{no_total}
use Rattle.rolls.specs.Totals.{Entry, Entries, Leaves, widths_answer, totals_answer, Written}
use Rattle.rolls.specs.Totals.Entry.{drawn, none}

-- a width has one entry
pub one_entry : (S : Sheet) {w t u : ℕ} → Entry S w t → Entry S w u → t ≡ u
one_entry S (drawn a) (drawn b) = one_total S a b
one_entry S (drawn a) (none b) = absurd (b a.places a.least.candidate)
one_entry S (none a) (drawn b) = absurd (a b.places b.least.candidate)
one_entry S (none a) (none b) = refl

-- slices with the entries of the same widths in front of the same old elements are equal
pub one_entries : (S : Sheet) (ws old p q : List ℕ) → Entries S ws old p → Entries S ws old q → p ≡ q
one_entries S ws old p q g h =
    ext_get_or 0 p q (g.size ∙ sym h.size) (λ i _.
    ⊎_elim (λ (l : i < length ws). one_entry S (g.entries i l) (h.entries i l)) (λ (l : length ws ≤ i). behind i l)
    (lt_or_le i (length ws)))
  where
    at : (x : List ℕ) (i : ℕ) → length ws ≤ i → get_or x i 0 ≡ get_or (drop (length ws) x) (i - length ws) 0
    at x i l =
        let same : i ≡ length ws + (i - length ws) = omega arith in
        ap (λ (k : ℕ). get_or x k 0) same ∙ sym (get_or-drop (length ws) x (i - length ws) 0)

    behind : (i : ℕ) → length ws ≤ i → get_or p i 0 ≡ get_or q i 0
    behind i l =
        at p i l ∙ ap (λ (x : List ℕ). get_or x (i - length ws) 0) (g.behind ∙ sym h.behind) ∙ sym (at q i l)

-- what a call for any input leaves is one
pub totals_determined : (read : Result) (ws old p q : List ℕ) → Written read ws old p → Written read ws old q → p ≡ q
unfolding Written
totals_determined (elements numbers) ws old p q g h = go (widths_answer ws (length old)) g h
  where
    go : (o : Outcome) → Leaves o (sheet_of numbers) ws old p → Leaves o (sheet_of numbers) ws old q → p ≡ q
    go (wrote count) g h = one_entries (sheet_of numbers) ws old p q g h
    go (Outcome.refused r) g h = g ∙ sym h
totals_determined (Result.refused r) ws old p q g h = g ∙ sym h

-- a total of a good sheet is never `no_total`
pub below_no_total : (s : List ℕ) → Accepts sheet s → (w t : ℕ) → w ≤ max_width → TotalAt (sheet_of s) w t → t < no_total
below_no_total s good w t l a =
    let proper : Proper (at_width w (sheet_of s)) = subst Proper (width_sheet w good) (accepts_proper _ (width_accepts w l good)) in
    omega (arith, a.total_is, total_most _ a.places proper a.least.candidate)

-- sheets that are the same at a width have the same entry there
pub entry_same : {S T : Sheet} {w t : ℕ} → at_width w S ≡ at_width w T → Entry S w t → Entry T w t
entry_same e (drawn a) = drawn (record {
  places = a.places;
  least = subst (λ (X : Sheet). LeastDrawing X a.places) e a.least;
  total_is = a.total_is ∙ ap (λ (X : Sheet). total_length X a.places) e;
})
entry_same e (none n) = none (subst NoDrawing e n)

-- the sheet's own width plays no part: numbers that agree behind it have the same answer ..
pub width_disregarded_answer : (s t ws : List ℕ) (room : ℕ) → totals_answer (elements s) ws room ≡ totals_answer (elements t) ws room
unfolding totals_answer
width_disregarded_answer s t ws room = refl

-- .. and the same entries
pub width_disregarded : (s t : List ℕ) → drop 1 s ≡ drop 1 t → (ws old new : List ℕ)
    → Written (elements s) ws old new → Written (elements t) ws old new
unfolding Written
width_disregarded s t e ws old new g = go (widths_answer ws (length old)) g
  where
    go : (o : Outcome) → Leaves o (sheet_of s) ws old new → Leaves o (sheet_of t) ws old new
    go (wrote count) g = record {
      size = g.size;
      entries = λ i l. entry_same (same_behind (get_or ws i 0) s t e) (g.entries i l);
      behind = g.behind;
    }
    go (Outcome.refused r) g = g
