-- On every row of the table each answer that meets the contract of drawing is the row's, and the checker says yes
-- and no as the row does. So the contracts shut out every program that answers one of these sheets otherwise, as one that
-- solves the first two layers and packs the others to the left.
use Rattle.std.specs.Prelude.{ℕ, ◌≡◌, Bool, true, false, List, [], ◌∷◌, ℤ, length, take}
use Rattle.std.proofs.Common.{◌∙◌, ap, ap₂, subst, arith, take_all}
use Rattle.leb128.specs.Source.{refusal}
use Rattle.leb128.specs.Reply.{Reply}
use Rattle.leb128.specs.Format.{Result}
use Rattle.leb128.specs.Format.Result.{elements}
use Rattle.sheet.specs.Reading.{read_sheet}
use Rattle.drawing.specs.Sheet.{Sheet, sheet_of}
use Rattle.drawing.specs.Drawing.{NoDrawing, LeftmostDrawing, total_length}
use Rattle.drawing.specs.Certificate.{certificate_size}
use Rattle.drawing.specs.Judged.{judged}
use Rattle.drawing.specs.Rows.{Outcome, Says, Row, RowHolds, Every}
use Rattle.drawing.specs.Table.{table}
use Rattle.drawing.proofs.laws.Unique.{leftmost_unique}
use Rattle.drawing.proofs.laws.Table.{sheets}
use Rattle.checker.specs.Verdict.{check_answer}
use Rattle.checker.specs.laws.Decided.{numbers_decided}
use Rattle.engine.specs.Refusals.{no_drawing}
use Rattle.engine.specs.Draws.{Drawn, Room, DrawsSheet, Draws}
use Rattle.engine.specs.laws.Refusals.{refused_none}
use Rattle.engine.specs.laws.TotalsAt.{drawn_totals, none_drawn}
use Rattle.engine.specs.Answers.{EveryDrawing, Answered, EveryAnswered}

-- the answer for a sheet whose leftmost least drawing is known
drawn_answer : (S : Sheet) (p₀ : List ℕ) (y₀ : List ℤ) (p : List ℕ) (y : List ℤ) (coordinates : List ℕ) (total : ℕ)
    → Room S (length p₀) (length y₀) → LeftmostDrawing S coordinates → total_length S coordinates ≡ total → (d : Drawn)
    → DrawsSheet S p₀ y₀ p y d
    → (d ≡ Reply.value total) × (take S.nodes p ≡ coordinates)
drawn_answer S p₀ y₀ p y coordinates total room l e (Reply.value t) g =
    let same : take S.nodes p ≡ coordinates = leftmost_unique S (take S.nodes p) coordinates g.leftmost l in
    (ap Reply.value (g.total_is ∙ ap (total_length S) same ∙ e), same)
drawn_answer S p₀ y₀ p y coordinates total room l e (Reply.refused r) g =
    absurd ((refused_none S (length p₀) (length y₀) room g.0).1 coordinates l.is_least.candidate)

-- the answer for a sheet without a drawing
none_answer : (S : Sheet) (p₀ : List ℕ) (y₀ : List ℤ) (p : List ℕ) (y : List ℤ) → Room S (length p₀) (length y₀)
    → NoDrawing S → (d : Drawn) → DrawsSheet S p₀ y₀ p y d → d ≡ Reply.refused (refusal no_drawing 0)
none_answer S p₀ y₀ p y room n d g = none_drawn S n d (drawn_totals S S.width p₀ y₀ p y room d g)

-- the checker's word on places and a list of just the needed lengths
check_word : (bytes numbers p : List ℕ) (y : List ℤ) (b : Bool) → read_sheet bytes ≡ elements numbers → length p ≡ (sheet_of numbers).nodes
    → length y ≡ certificate_size (sheet_of numbers) → judged (sheet_of numbers) p y ≡ b
    → check_answer (read_sheet bytes) p y ≡ Reply.value b
unfolding check_answer
check_word bytes numbers p y b read places list e =
    rw read
    (numbers_decided numbers p y b (omega arith) (omega arith)
    (ap₂ (judged (sheet_of numbers)) (take_all (sheet_of numbers).nodes p (omega arith))
    (take_all (certificate_size (sheet_of numbers)) y (omega arith)) ∙ e))

-- a row that holds is answered so
row_answered : (r : Row) → RowHolds r → Answered r.bytes r.outcome
unfolding Draws
row_answered r row = go r.outcome row.says
  where
    S : Sheet
    S = sheet_of row.numbers

    every : (P : List ℕ → Drawn → Type 0)
        → ((p₀ : List ℕ) (y₀ : List ℤ) (p : List ℕ) (y : List ℤ) (d : Drawn) → Room S (length p₀) (length y₀) → DrawsSheet S p₀ y₀ p y d
        → P (take S.nodes p) d)
        → EveryDrawing r.bytes P
    every P f = record {
      numbers = row.numbers;
      reads = row.read;
      answers = λ p₀ y₀ p y d room g. f p₀ y₀ p y d room (subst (λ (x : Result). Draws x p₀ y₀ p y d) row.read g);
    }

    go : (o : Outcome) → Says S o → Answered r.bytes o
    go (Outcome.drawn total coordinates list) s = record {
      drawing =
          every (λ places d. (d ≡ Reply.value total) × (places ≡ coordinates))
          (λ p₀ y₀ p y d room g. drawn_answer S p₀ y₀ p y coordinates total room s.leftmost s.sum d g);
      checked =
          check_word r.bytes row.numbers coordinates list true row.read s.leftmost.is_least.candidate.size s.list_size
          s.accepted;
    }
    go (Outcome.undrawable list) s =
        every (λ places d. d ≡ Reply.refused (refusal no_drawing 0)) (λ p₀ y₀ p y d room g. none_answer S p₀ y₀ p y room s d g)
    go (Outcome.rejected coordinates list) s =
        check_word r.bytes row.numbers coordinates list false row.read s.size s.list_size s.rejected

-- every row of a table that holds
every_answered : (rows : List Row) → Every rows → EveryAnswered rows
every_answered [] h = tt
every_answered (r ∷ rows) h = (row_answered r h.0, every_answered rows h.1)

-- document 01's table
pub table_answered : EveryAnswered table
table_answered = every_answered table sheets
