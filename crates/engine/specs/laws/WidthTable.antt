-- On every row of the table of minimum widths each answer that meets the contract is the row's, by one test that is computed over the
-- whole table. So the contract shuts out every program that answers one of these sheets otherwise.
use Rattle.std.specs.Prelude.{ℕ, zero, suc, ◌<◌, ◌≡◌, refl, Bool, true, false, ◌&&◌, T, leb, eqb, ℤ}
use Rattle.std.proofs.Common.{subst, arith, leb→le, eqb→eq}
use mathlib.Core.List.{List, [], ◌∷◌, flat_map}
use Rattle.leb128.specs.Number.{decode, grouped}
use Rattle.leb128.specs.Grammar.{Accepts, within, both}
use Rattle.leb128.specs.Source.{decoded_item, byte_item, raised, in_bytes}
use Rattle.leb128.specs.Walk.{checked, led, followed, walk}
use Rattle.leb128.specs.Format.{Result, same, complete, walk_bytes, made, reading}
use Rattle.leb128.specs.Format.Result.{elements}
use Rattle.sheet.specs.Limits.{max_width}
use Rattle.sheet.specs.Reading.{read_sheet}
use Rattle.sheet.specs.Grammar.{crossed, separation, separations, layers, edge, edges, sheet}
use Rattle.sheet.specs.laws.Sheets.{read_accepted}
use Rattle.network.specs.Sums.{all}
use Rattle.network.specs.laws.Tests.{and_left, and_right}
use Rattle.drawing.specs.Sheet.{Sheet, sheet_of, at_width}
use Rattle.drawing.specs.Traces.{traces}
use Rattle.drawing.specs.Drawing.{LeastDrawing, NoDrawing, is_drawing, total_length}
use Rattle.drawing.specs.Certificate.{meets_rules, bound}
use Rattle.drawing.specs.Judged.{judged}
use Rattle.drawing.specs.Widths.{with_width}
use Rattle.drawing.proofs.laws.Judged.{judged_least}
use Rattle.drawing.specs.laws.NoDrawing.{shows_none}
use Rattle.drawing.proofs.laws.NoDrawing.{no_drawing}
use Rattle.drawing.proofs.laws.Widths.{width_sheet, none_narrower}
use Rattle.engine.specs.MinimumWidth.{Narrowed, NarrowsSheet, Narrows}
use Rattle.engine.specs.WidthTable.{Shown, WidthRow, row_answer, EveryNarrowed, width_table}
use Rattle.engine.specs.WidthTable.Shown.{found, none}
use Rattle.engine.specs.laws.MinimumWidth.{narrowest_determined}

-- a list shows that there is no drawing at one less than a width; at 0 there is nothing to show
abbrev pub shows_narrower : ℕ → List ℕ → List ℤ → Bool
shows_narrower zero s y = true
shows_narrower (suc w) s y = shows_none (sheet_of (with_width w s)) y

-- the test of a row, of a sheet's numbers
abbrev pub passes : List ℕ → Shown → Bool
passes s (found w t p y narrower) =
    leb w max_width
    && (judged (sheet_of (with_width w s)) p y && (eqb t (total_length (sheet_of (with_width w s)) p) && shows_narrower w s narrower))
passes s (none y) = shows_none (sheet_of (with_width max_width s)) y

module _ (s : List ℕ) (good : Accepts sheet s) where
  -- what a list shows of the numbers with a width, it shows of the sheet at that width
  none_at : (w : ℕ) (y : List ℤ) → T (shows_none (sheet_of (with_width w s)) y) → NoDrawing (at_width w (sheet_of s))
  none_at w y t = subst NoDrawing (width_sheet w good) (no_drawing (sheet_of (with_width w s)) y t)

  -- where one shows that there is none at one less than a width, there is none at any smaller width
  none_below : (w : ℕ) (y : List ℤ) → T (shows_narrower w s y) → (v : ℕ) → v < w → NoDrawing (at_width v (sheet_of s))
  none_below zero y t v l = absurd (omega arith)
  none_below (suc w) y t v l = none_narrower (sheet_of s) v w (omega arith) (none_at w y t)

  -- where the test passes, the row's answer meets the contract
  passes_narrows : (o : Shown) → T (passes s o) → NarrowsSheet (sheet_of s) (row_answer o)
  passes_narrows (found w t p y narrower) x =
      let S : Sheet = sheet_of (with_width w s) in
      let sum : Bool = eqb t (total_length S p) in
      let less : Bool = shows_narrower w s narrower in
      let rest : T (judged S p y && (sum && less)) = and_right (leb w max_width) (judged S p y && (sum && less)) x in
      let both : T (sum && less) = and_right (judged S p y) (sum && less) rest in
      record {
        width_in = leb→le w max_width (and_left (leb w max_width) (judged S p y && (sum && less)) x);
        total_at =
            record {
              places = p;
              least =
                  subst (λ (S : Sheet). LeastDrawing S p) (width_sheet w good)
                  (judged_least (with_width w s) p y (and_left (judged S p y) (sum && less) rest));
              total_is =
                  subst (λ (S : Sheet). t ≡ total_length S p) (width_sheet w good) (eqb→eq t (total_length S p) (and_left sum less both));
            };
        none_narrower = none_below w narrower (and_right sum less both);
      }
  passes_narrows (none y) x = (refl, λ w l. none_narrower (sheet_of s) w max_width l (none_at max_width y x))

-- the test of what reading gives
abbrev pub passes_read : Result → Shown → Bool
passes_read (elements s) o = passes s o
passes_read (Result.refused r) o = false

-- a row that passes is answered so
row_narrowed : (bytes : List ℕ) (o : Shown) → T (passes_read (read_sheet bytes) o) → (a : Narrowed) → Narrows (read_sheet bytes) a
    → a ≡ row_answer o
unfolding Narrows
row_narrowed bytes o t a g = narrowest_determined (read_sheet bytes) a (row_answer o) g (go (read_sheet bytes) refl t)
  where
    go : (result : Result) → read_sheet bytes ≡ result → T (passes_read result o) → Narrows result (row_answer o)
    go (elements s) e t = passes_narrows s (read_accepted bytes s e) o t
    go (Result.refused r) e t = absurd t

-- so is every row of a table that passes
every_narrowed : (rows : List WidthRow) → T (all (λ r. passes_read (read_sheet r.bytes) r.shown) rows) → EveryNarrowed rows
every_narrowed [] t = tt
every_narrowed (r ∷ rows) t =
    let here : Bool = passes_read (read_sheet r.bytes) r.shown in
    let others : Bool = all (λ r. passes_read (read_sheet r.bytes) r.shown) rows in
    (row_narrowed r.bytes r.shown (and_left here others t), every_narrowed rows (and_right here others t))

-- the table
pub widths_answered : EveryNarrowed width_table
unfolding
    flat_map width_table sheet_of traces total_length is_drawing meets_rules bound judged shows_none
    decode grouped within both crossed separation separations layers edge edges sheet
    decoded_item byte_item raised in_bytes checked led followed walk same complete walk_bytes made reading read_sheet
widths_answered = every_narrowed width_table tt
