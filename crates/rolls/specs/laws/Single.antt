-- Each entry equals the single call's: drawing the sheet with that width, with slices that are long enough, gives the entry as its
-- total, or refusal 8 if the entry is `no_total`.
use Rattle.std.specs.Prelude.{ℕ, ◌≤◌, ◌<◌, ◌≡◌, refl, List, ℤ, length, get_or}
use Rattle.std.proofs.Common.{sym, ◌∙◌, subst, arith, ne_eqb}
use Rattle.leb128.specs.Grammar.{Accepts}
use Rattle.leb128.specs.Reply.{Reply}
use Rattle.leb128.specs.Source.{refusal}
use Rattle.leb128.specs.Format.{Result}
use Rattle.leb128.specs.Format.Outcome.{wrote}
use Rattle.leb128.specs.Format.Result.{elements}
use Rattle.sheet.specs.Grammar.{sheet}
use Rattle.sheet.specs.Limits.{max_width}
use Rattle.sheet.specs.Reading.{read_sheet}
use Rattle.sheet.specs.laws.Sheets.{read_accepted}
use Rattle.drawing.specs.Sheet.{Sheet, sheet_of}
use Rattle.drawing.specs.Widths.{with_width}
use Rattle.drawing.proofs.laws.Widths.{width_sheet}
use Rattle.engine.specs.Refusals.{no_drawing}
use Rattle.engine.specs.Draws.{Drawn, Room, DrawsSheet, Draws}
use Rattle.engine.specs.inside.Widths.{TotalsAt}
use Rattle.engine.specs.laws.TotalsAt.{drawn_totals, total_drawn, none_drawn}
use Rattle.rolls.specs.Limits.{no_total}
use Rattle.rolls.specs.Totals.{Entry, Entries, Leaves, widths_answer, totals_answer, Written}
use Rattle.rolls.specs.Totals.Entry.{drawn, none}
use Rattle.rolls.specs.Single.{single_answer}
use Rattle.rolls.specs.laws.Answers.{wrote_within}
use Rattle.rolls.specs.laws.Entries.{below_no_total}

-- a total is answered as itself
single_total : (t : ℕ) → t < no_total → single_answer t ≡ Reply.value t
unfolding single_answer
single_total t l = rw (ne_eqb t no_total (λ e. omega arith)) refl

-- `no_total` as refusal 8
single_none : single_answer no_total ≡ Reply.refused (refusal no_drawing 0)
unfolding single_answer
single_none = refl

module _ (s : List ℕ) (good : Accepts sheet s) (w : ℕ) (l : w ≤ max_width) where
  -- what is said of a width by its entry is what drawing answers there
  entry_answer : {t : ℕ} → Entry (sheet_of s) w t → (d : Drawn) → TotalsAt (sheet_of s) w d → d ≡ single_answer t
  entry_answer (drawn {total} a) d k = total_drawn (sheet_of s) a d k ∙ sym (single_total total (below_no_total s good w total l a))
  entry_answer (none n) d k = none_drawn (sheet_of s) n d k ∙ sym single_none

  module _ (p₀ : List ℕ) (y₀ : List ℤ) (p : List ℕ) (y : List ℤ) (room : Room (sheet_of s) (length p₀) (length y₀)) (t : ℕ)
      (e : Entry (sheet_of s) w t) (d : Drawn) where
    -- drawing the numbers with the width answers the entry
    pub entry_single : Draws (elements (with_width w s)) p₀ y₀ p y d → d ≡ single_answer t
    unfolding Draws
    entry_single g =
        entry_answer e d
        (drawn_totals (sheet_of s) w p₀ y₀ p y room d (subst (λ (S : Sheet). DrawsSheet S p₀ y₀ p y d) (width_sheet w good) g))

    -- and so does drawing any bytes that are read as these numbers
    pub entry_single_bytes : (bytes : List ℕ) → read_sheet bytes ≡ elements (with_width w s) → Draws (read_sheet bytes) p₀ y₀ p y d
        → d ≡ single_answer t
    entry_single_bytes bytes is g = entry_single (subst (λ (r : Result). Draws r p₀ y₀ p y d) is g)

-- so it is with what the whole call leaves: if it writes, drawing any bytes that are read as the sheet with one of the widths answers
-- the entry at that width's index
pub written_single : (bytes ws old new : List ℕ) (count : ℕ) → totals_answer (read_sheet bytes) ws (length old) ≡ wrote count
    → Written (read_sheet bytes) ws old new → (s : List ℕ) → read_sheet bytes ≡ elements s → (i : ℕ) → i < length ws
    → (p₀ : List ℕ) (y₀ : List ℤ) (p : List ℕ) (y : List ℤ) → Room (sheet_of s) (length p₀) (length y₀)
    → (other : List ℕ) → read_sheet other ≡ elements (with_width (get_or ws i 0) s)
    → (d : Drawn) → Draws (read_sheet other) p₀ y₀ p y d → d ≡ single_answer (get_or new i 0)
unfolding totals_answer Written
written_single bytes ws old new count answer written s is i l p₀ y₀ p y room other reads d g =
    let answered : widths_answer ws (length old) ≡ wrote count = rw is at answer in
    let left : Leaves (widths_answer ws (length old)) (sheet_of s) ws old new = rw is at written in
    let entries : Entries (sheet_of s) ws old new = rw answered at left in
    entry_single_bytes s (read_accepted bytes s is) (get_or ws i 0) (wrote_within ws (length old) count answered i l)
    p₀ y₀ p y room (get_or new i 0) (entries.entries i l) d other reads g
