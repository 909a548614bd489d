-- What a loaded sheet is known by: that its slices hold some sheet gives each bound that follows of all sheets, and it is held at each width.
use Prim.Native.Nat.{ℕ, ◌≤◌, min}
use Rattle.packed.specs.Widths.{widened}
use Rattle.std.specs.Prelude.{◌≡◌, length, Ok, Err}
use Rattle.std.specs.Prelude.{Result as Answer}
use Rattle.std.specs.Result.{result_map_both}
use Rattle.std.proofs.Common.{sym, ap, subst}
use Rattle.leb128.specs.declared.Refusal.{Refusal}
use Rattle.leb128.specs.Format.{Result}
use Rattle.sheet.specs.Reading.{read_sheet}
use Rattle.arcs.specs.Limits.{max_elements, max_firsts}
use Rattle.arcs.specs.Loading.{loading, fitted, load_answer, load_firsts, load_arcs}
use Rattle.arcs.specs.laws.Loaded.{LoadedSheet, loaded_sheet, reader_refused}
use mathlib.Core.List.{List}
use mathlib.Core.Logic.{∥∥₁_elim}
use native.Mathlib.Bridge.{le_prop}
use native.Mathlib.Omega.{arith}
use Rattle.sheet.specs.Limits.{max_width}
use Rattle.drawing.specs.Sheet.{Sheet, sheet_of, at_width}
use Rattle.arcs.specs.declared.Counts.{Counts}
use Rattle.arcs.specs.declared.Loaded.{Loaded}
use Rattle.arcs.specs.Held.{Holds}
use Rattle.arcs.specs.HeldSheets.{HoldsSheet, AtWidth}
use Rattle.arcs.specs.laws.Widened.{holds_width, holds_width_sheet}

-- an answer with a sheet
pub sheet_loaded : (bytes f₀ a₀ : List ℕ) {answer : Answer Loaded Refusal} {s : Loaded} → answer ≡ Ok s
    → loading (result_map_both (λ s. s.counts) (λ r. r) answer) ≡ load_answer (fitted f₀ a₀ (read_sheet bytes))
    → s.first.now ≡ load_firsts (fitted f₀ a₀ (read_sheet bytes)) f₀
    → s.arcs.now ≡ load_arcs (fitted f₀ a₀ (read_sheet bytes)) a₀
    → LoadedSheet bytes f₀ s.first.now a₀ s.arcs.now s.counts
sheet_loaded bytes f₀ a₀ is e i j = loaded_sheet bytes f₀ a₀ (ap (result_map_both (λ (s : Loaded). s.counts) (λ (r : Refusal). r)) is) e i j

-- if the slices are long enough for every sheet, a refusal is the reader's
pub sheet_refused : (bytes f a : List ℕ) {answer : Answer Loaded Refusal} {r : Refusal} → max_firsts ≤ length f → max_elements ≤ length a
    → answer ≡ Err r → loading (result_map_both (λ s. s.counts) (λ r. r) answer) ≡ load_answer (fitted f a (read_sheet bytes))
    → read_sheet bytes ≡ Result.refused r
sheet_refused bytes f a h k is e =
    reader_refused bytes f a h k (ap (result_map_both (λ (s : Loaded). s.counts) (λ (r : Refusal). r)) is) e

-- a bound that follows from whatever sheet is held
pub bound_held : {f a : List ℕ} {c : Counts} {m n : ℕ} → ∥ Holds f a c ∥₁ → (Holds f a c → m ≤ n) → m ≤ n
bound_held h g = ∥∥₁_elim h le_prop g

module _ {s t : Loaded} (width : ℕ) (w : AtWidth s width t) where
  -- what is so of the slices at the width is so of t's
  moved : (Q : List ℕ → List ℕ → Counts → Type 0) → Q s.first.now (widened s.counts.nodes width s.arcs.now) s.counts
      → Q t.first.now t.arcs.now t.counts
  moved Q q =
      subst (λ (f : List ℕ). Q f t.arcs.now t.counts) (sym w.firsts)
      (subst (λ (c : Counts). Q s.first.now t.arcs.now c) (sym w.counts)
      (subst (λ (a : List ℕ). Q s.first.now a s.counts) (sym w.arcs) q))

  module _ (l : width ≤ max_width) where
    -- a sheet at another width is held, and is the sheet at that width
    pub at_some_width : (h : HoldsSheet s) → (k : HoldsSheet t) × (sheet_of k.numbers ≡ at_width width (sheet_of h.numbers))
    at_some_width h =
        moved (λ f a c. (k : Holds f a c) × (sheet_of k.numbers ≡ at_width width (sheet_of h.numbers)))
        (holds_width width l h, holds_width_sheet width l h)

    -- so what is said of it is said of the sheet at that width
    pub held_at : (P : Sheet → Type 0) → ((h : HoldsSheet t) → P (sheet_of h.numbers)) → (h : HoldsSheet s)
        → P (at_width width (sheet_of h.numbers))
    held_at P g h = let held = at_some_width h in subst P held.1 (g held.0)

-- a width within its limit is set as it is
pub set_as_is : {s t : Loaded} (width : ℕ) → width ≤ max_width → AtWidth s (min width max_width) t → AtWidth s width t
set_as_is {s} {t} width l w = let same : min width max_width ≡ width = omega arith in subst (λ (k : ℕ). AtWidth s k t) same w
