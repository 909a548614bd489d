-- Drawing refuses with 1 to 8 only, so never with 9, and at an offset of at most 5,121: its refusals are those of reading, of
-- slices that are too short, and of a sheet without a drawing.
use Rattle.std.specs.Prelude.{ℕ, ◌≤◌, ◌<◌, ◌≡◌, List, ℤ, length}
use Rattle.std.proofs.Math.Path.{refl}
use Rattle.std.proofs.Common.{sym, arith}
use Rattle.leb128.specs.Format.{Result}
use Rattle.leb128.specs.Format.Result.{elements}
use Rattle.leb128.specs.Reply.{Reply}
use Rattle.leb128.specs.declared.Refusal.{Refusal}
use Rattle.sheet.specs.Reading.{read_sheet}
use Rattle.sheet.specs.laws.Sheets.{reader_refusals}
use Rattle.drawing.specs.Sheet.{Sheet, sheet_of}
use Rattle.drawing.specs.Drawing.{NoDrawing}
use Rattle.engine.specs.Refusals.{no_drawing, DrawRefusal}
use Rattle.engine.specs.Draws.{Room, Refuses, Draws}
use Rattle.engine.specs.Draws.Refuses.{few_places, few_numbers, none}

-- with slices that are long enough a good sheet is refused for want of a drawing only
pub refused_none : (S : Sheet) (places list : ℕ) → Room S places list → {n : ℕ} → Refuses S places list n
    → (n ≡ no_drawing) × NoDrawing S
refused_none S places list room (few_places h) = absurd (omega (arith, room.nodes))
refused_none S places list room (few_numbers h) = absurd (omega (arith, room.numbers))
refused_none S places list room (none r h) = (refl, h)

-- a good sheet is refused with 7 or 8
sheet_numbers : (S : Sheet) (places list : ℕ) {n : ℕ} → Refuses S places list n → (0 < n) × (n ≤ no_drawing)
sheet_numbers S places list (few_places h) = omega arith
sheet_numbers S places list (few_numbers h) = omega arith
sheet_numbers S places list (none r h) = omega arith

module _ (bytes p₀ : List ℕ) (y₀ : List ℤ) (p : List ℕ) (y : List ℤ) (r : Refusal)
    (d : Draws (read_sheet bytes) p₀ y₀ p y (Reply.refused r)) where
  -- what drawing refuses
  pub draw_refusals : DrawRefusal r
  unfolding Draws
  draw_refusals = go (read_sheet bytes) refl d
    where
      go : (read : Result) → read_sheet bytes ≡ read → Draws read p₀ y₀ p y (Reply.refused r) → DrawRefusal r
      go (elements numbers) e g =
          record {
            number_in = sheet_numbers (sheet_of numbers) (length p₀) (length y₀) g.0;
            offset_in = omega (arith, g.1);
          }
      go (Result.refused s) e g =
          let is-s : s ≡ r = cc in
          let g = reader_refusals bytes s e in
          rw (sym is-s) (record { number_in = (g.number_in.0, omega (arith, g.number_in.1)); offset_in = g.offset_in })

  -- 9 is never given
  pub never_nine : r.number ≡ 9 → ⊥
  never_nine e = omega (arith, draw_refusals.number_in)
