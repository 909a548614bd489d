-- A text that is made in the front of a room fits there and is delivered as it is; a drawing's, where each node has a place.
use Prim.Native.Nat.{ℕ, ◌-◌, ◌^◌, ◌≤◌, ◌<◌}
use mathlib.Core.Path.{◌≡◌, sym, ◌∙◌, ap}
use mathlib.Core.List.{List}
use native.Mathlib.Omega.{arith}
use lib.ListN.{length, take, drop}
use lib.Seq.{take_at, length-take-le}
use borrow.Author.Tests.{lt-ltb, le-ltb}
use Rattle.leb128.specs.Limits.{list_limit}
use Rattle.leb128.specs.Refusals.{slice_short}
use Rattle.leb128.specs.Source.{refusal}
use Rattle.leb128.specs.Format.{Result, Outcome, outcome, answered, filled}
use Rattle.leb128.specs.Format.Result.{elements}
use Rattle.leb128.specs.declared.Refusal.{Refusal}
use Rattle.std.specs.Prelude.{Result as Answer, Err}
use Rattle.leb128.specs.inside.Storing.{Room, Puts}
use Rattle.leb128.specs.laws.Storing.{sets_front, puts_length}
use Rattle.sheet.specs.Layout.{node_count, LaidOut}
use Rattle.drawing.specs.Sheet.{sheet_of}
use Rattle.drawing.specs.Drawing.{coordinate}
use Rattle.drawing.proofs.laws.Proper.{nodes_are}
use Rattle.report.specs.Limits.{max_text}
use Rattle.report.specs.Text.{drawing_lines, refusal_line, drawing_text}
use Rattle.report.specs.laws.Lengths.{drawing_lines_le, any_text_limit, refusal_line_le, refusal_limit}

-- a refusal's text fits
pub refusal_room : (room : List ℕ) (r : Refusal) → max_text ≤ length room → r.number < 2 ^ 8 → r.offset < 2 ^ 64
    → Room room 0 (refusal_line r)
refusal_room room r h a b =
    record { fits = omega (arith, refusal_line_le r (2 ^ 8 - 1) (2 ^ 64 - 1) (omega arith) (omega arith), refusal_limit) }

-- a drawing's text fits
pub drawing_room : (room numbers p : List ℕ) (total : ℕ) → max_text ≤ length room → LaidOut numbers
    → ((v : ℕ) → coordinate p v < list_limit) → total < 2 ^ 32 → Room room 0 (drawing_lines (sheet_of numbers) p total)
drawing_room room numbers p total h good small t =
    record {
      fits =
          omega (
            arith,
            any_text_limit,
            drawing_lines_le numbers p total (list_limit - 1) (2 ^ 32 - 1) good (λ v i. omega (arith, small v)) (omega arith),
          );
    }

-- a text was made in the front of a room
module _ {old text new : List ℕ} {count : ℕ} (room : Room old 0 text) (p : Puts old 0 text new count) where
  -- it ends there
  pub made_inside : count ≤ length new
  made_inside = omega (arith, room.fits, p.behind, puts_length p)

  -- so long it is
  pub made_count : count ≡ length (take count new)
  made_count = sym (length-take-le count new made_inside)

  -- it is what stands there
  made_is : take count new ≡ text
  made_is =
      let size : length text ≡ count = omega (arith, p.behind) in
      ap (take count) (p.stored ∙ sets_front text old (omega (arith, room.fits)))
      ∙ take_at text (drop (length text) old) count size

  -- the answer to a delivery of what stands there
  pub made_answer : {r : Outcome} (space : ℕ) → r ≡ answered space (elements (take count new)) → r ≡ answered space (elements text)
  made_answer space e = e ∙ ap (λ (t : List ℕ). answered space (elements t)) made_is

  -- the slice after it
  pub made_slice : {after : List ℕ} (before : List ℕ)
      → after ≡ filled (elements (take count new)) before → after ≡ filled (elements text) before
  made_slice before e = e ∙ ap (λ (t : List ℕ). filled (elements t) before) made_is

module _ (numbers p : List ℕ) (total : ℕ) where
  -- each node has a place: the drawing's text
  pub text_is : node_count numbers ≤ length p
      → drawing_text (elements numbers) p total ≡ elements (drawing_lines (sheet_of numbers) p total)
  unfolding drawing_text
  text_is h = rw (le-ltb (length p) (sheet_of numbers).nodes (omega (arith, nodes_are numbers)))

  -- a node has no place: refusal 7
  pub text_short : length p < node_count numbers → drawing_text (elements numbers) p total ≡ Result.refused (refusal slice_short 0)
  unfolding drawing_text
  text_short h = rw (lt-ltb (length p) (sheet_of numbers).nodes (omega (arith, nodes_are numbers)))

-- a refusal is the answer, and nothing is written
module _ {result : Result} {r : Refusal} (e : result ≡ Result.refused r) where
  pub refused_answer : {a : Answer ℕ Refusal} (space : ℕ) → a ≡ Err r → outcome a ≡ answered space result
  unfolding outcome answered
  refused_answer space is = ap outcome is ∙ sym (ap (answered space) e)

  pub refused_slice : (text : List ℕ) → text ≡ filled result text
  unfolding filled
  refused_slice text = sym (ap (λ (k : Result). filled k text) e)

-- the text of what was read is that of the bytes
module _ {read : Result} {numbers : List ℕ} (e : read ≡ elements numbers) (p : List ℕ) (total : ℕ) where
  pub read_answer : {r : Outcome} (space : ℕ) → r ≡ answered space (drawing_text (elements numbers) p total)
      → r ≡ answered space (drawing_text read p total)
  read_answer space f = f ∙ ap (λ (k : Result). answered space (drawing_text k p total)) (sym e)

  pub read_slice : {after : List ℕ} (before : List ℕ) → after ≡ filled (drawing_text (elements numbers) p total) before
      → after ≡ filled (drawing_text read p total) before
  read_slice before f = f ∙ ap (λ (k : Result). filled (drawing_text k p total) before) (sym e)

-- the refusal of the bytes is that of the text
pub text_refused : {read : Result} {r : Refusal} (p : List ℕ) (total : ℕ) → read ≡ Result.refused r
    → drawing_text read p total ≡ Result.refused r
unfolding drawing_text
text_refused p total e = ap (λ (k : Result). drawing_text k p total) e
