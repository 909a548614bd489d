-- On every row of the table each slice that meets the contract has the row's entries, by one test that is computed over the whole table.
-- So the contract shuts out every program that leaves other entries of these sheets.
use Prim.Native.Nat.{ℕ, zero, suc, ◌≤◌, ◌<◌}
use Rattle.std.specs.Prelude.{◌≡◌, refl, false, ◌&&◌, eqb, get_or, drop}
use Rattle.std.proofs.Math.Path.{sym, subst}
use Rattle.std.proofs.Common.{◌∙◌, arith, leb→le, eqb→eq}
use Rattle.std.proofs.Math.Bool.{Bool}
use mathlib.Core.List.{List, [], ◌∷◌, ◌++◌, flat_map}
use Rattle.std.proofs.Math.Dec.{T, leb}
use Rattle.std.proofs.Math.ListN.{length, length-append, length-drop, length-map, get_or-append}
use Rattle.std.proofs.Math.Seq.{drop_at}
use Rattle.leb128.specs.Number.{decode, grouped}
use Rattle.leb128.specs.Grammar.{Accepts, within, both}
use Rattle.leb128.specs.Source.{decoded_item, byte_item, raised, in_bytes}
use Rattle.leb128.specs.Walk.{checked, led, followed, walk}
use Rattle.leb128.specs.Format.{Result, same, complete, walk_bytes, made, reading}
use Rattle.leb128.specs.Format.Result.{elements}
use Rattle.sheet.specs.Reading.{read_sheet}
use Rattle.sheet.specs.Grammar.{crossed, separation, separations, layers, edge, edges, sheet}
use Rattle.sheet.specs.laws.Sheets.{read_accepted}
use Rattle.network.specs.Sums.{all}
use Rattle.network.specs.laws.Tests.{and_left, and_right}
use Rattle.drawing.specs.Sheet.{Sheet, sheet_of}
use Rattle.drawing.specs.Traces.{traces}
use Rattle.drawing.specs.Drawing.{LeastDrawing, NoDrawing, is_drawing, total_length}
use Rattle.drawing.specs.Certificate.{meets_rules, bound}
use Rattle.drawing.specs.Judged.{judged}
use Rattle.drawing.specs.Widths.{with_width}
use Rattle.drawing.proofs.laws.Judged.{judged_least}
use Rattle.drawing.specs.laws.NoDrawing.{shows_none}
use Rattle.drawing.proofs.laws.NoDrawing.{no_drawing}
use Rattle.drawing.proofs.laws.Widths.{width_sheet}
use Rattle.rolls.specs.Limits.{max_widths}
use Rattle.rolls.specs.Totals.{Entry, first_outside, Written}
use Rattle.rolls.specs.Totals.Entry.{drawn, none}
use Rattle.rolls.specs.Table.{Shown, Column, EntryRow, shown_entry, widths_of, entries_of, EveryEntry, entry_table}
use Rattle.rolls.specs.Table.Shown.{total, undrawable}
use Rattle.rolls.specs.laws.Answers.{answer_wrote}
use Rattle.rolls.specs.laws.Entries.{totals_determined}

-- the test of a column, of a sheet's numbers
abbrev pub passes : List ℕ → ℕ → Shown → Bool
passes s w (total t p y) = judged (sheet_of (with_width w s)) p y && eqb t (total_length (sheet_of (with_width w s)) p)
passes s w (undrawable y) = shows_none (sheet_of (with_width w s)) y

-- the test of a list of columns: few widths, none outside its limits, and each column passes
abbrev pub passes_all : List ℕ → List Column → Bool
passes_all s cs =
    leb (length (widths_of cs)) max_widths
    && (leb (length (widths_of cs)) (first_outside (widths_of cs)) && all (λ (c : Column). passes s c.width c.shown) cs)

-- the test of what reading gives
abbrev pub passes_read : Result → List Column → Bool
passes_read (elements s) cs = passes_all s cs
passes_read (Result.refused r) cs = false

module _ (s : List ℕ) (good : Accepts sheet s) where
  -- a column that passes has its entry
  shown_is : (w : ℕ) (o : Shown) → T (passes s w o) → Entry (sheet_of s) w (shown_entry o)
  shown_is w (total t p y) x =
      let S : Sheet = sheet_of (with_width w s) in
      drawn (record {
        places = p;
        least =
            subst (λ (S : Sheet). LeastDrawing S p) (width_sheet w good)
            (judged_least (with_width w s) p y (and_left (judged S p y) (eqb t (total_length S p)) x));
        total_is =
            subst (λ (S : Sheet). t ≡ total_length S p) (width_sheet w good)
            (eqb→eq t (total_length S p) (and_right (judged S p y) (eqb t (total_length S p)) x));
      })
  shown_is w (undrawable y) x = none (subst NoDrawing (width_sheet w good) (no_drawing (sheet_of (with_width w s)) y x))

  -- and so has each of them, at its index
  shown_at : (cs : List Column) → T (all (λ (c : Column). passes s c.width c.shown) cs) → (i : ℕ) → i < length (widths_of cs)
      → Entry (sheet_of s) (get_or (widths_of cs) i 0) (get_or (entries_of cs) i 0)
  shown_at [] x i l = absurd (omega arith)
  shown_at (c ∷ cs) x zero l =
      shown_is c.width c.shown
      (and_left (passes s c.width c.shown) (all (λ (c : Column). passes s c.width c.shown) cs) x)
  shown_at (c ∷ cs) x (suc i) l =
      shown_at cs (and_right (passes s c.width c.shown) (all (λ (c : Column). passes s c.width c.shown) cs) x) i (omega arith)

  -- so a slice with these entries in front meets the contract
  shown_written : (cs : List Column) → T (passes_all s cs) → (old : List ℕ) → length (widths_of cs) ≤ length old
      → Written (elements s) (widths_of cs) old (entries_of cs ++ drop (length (widths_of cs)) old)
  unfolding Written
  shown_written cs x old room =
      let ws : List ℕ = widths_of cs in
      let es : List ℕ = entries_of cs in
      let few : Bool = leb (length ws) max_widths in
      let inside : Bool = leb (length ws) (first_outside ws) in
      let each : Bool = all (λ (c : Column). passes s c.width c.shown) cs in
      let rest : T (inside && each) = and_right few (inside && each) x in
      let count : length es ≡ length ws = length-map cs _ ∙ sym (length-map cs _) in
      rw (answer_wrote ws (length old) (leb→le (length ws) max_widths (and_left few (inside && each) x))
      (leb→le (length ws) (first_outside ws) (and_left inside each rest)) room)
      (record {
        size = omega (arith, length-append es (drop (length ws) old), length-drop (length ws) old, count);
        entries = λ i l.
            subst (λ (t : ℕ). Entry (sheet_of s) (get_or ws i 0) t) (sym (get_or-append es (drop (length ws) old) 0 i (omega (arith, count))))
            (shown_at cs (and_right inside each rest) i l);
        behind = drop_at es (drop (length ws) old) (length ws) count;
      })

-- a row that passes is left so
row_written : (bytes : List ℕ) (cs : List Column) → T (passes_read (read_sheet bytes) cs) → (old new : List ℕ)
    → length (widths_of cs) ≤ length old → Written (read_sheet bytes) (widths_of cs) old new
    → new ≡ entries_of cs ++ drop (length (widths_of cs)) old
row_written bytes cs t old new room g =
    totals_determined (read_sheet bytes) (widths_of cs) old new _ g (go (read_sheet bytes) refl t)
  where
    go : (read : Result) → read_sheet bytes ≡ read → T (passes_read read cs)
        → Written read (widths_of cs) old (entries_of cs ++ drop (length (widths_of cs)) old)
    go (elements s) e t = shown_written s (read_accepted bytes s e) cs t old room
    go (Result.refused r) e t = absurd t

-- so is every row of a table that passes
every_entry : (rows : List EntryRow) → T (all (λ r. passes_read (read_sheet r.bytes) r.columns) rows) → EveryEntry rows
every_entry [] t = tt
every_entry (r ∷ rows) t =
    let here : Bool = passes_read (read_sheet r.bytes) r.columns in
    let others : Bool = all (λ r. passes_read (read_sheet r.bytes) r.columns) rows in
    (row_written r.bytes r.columns (and_left here others t), every_entry rows (and_right here others t))

-- the table
pub entries_left : EveryEntry entry_table
unfolding
    flat_map entry_table first_outside sheet_of traces total_length is_drawing meets_rules bound judged shows_none
    decode grouped within both crossed separation separations layers edge edges sheet
    decoded_item byte_item raised in_bytes checked led followed walk same complete walk_bytes made reading read_sheet
entries_left = every_entry entry_table tt
