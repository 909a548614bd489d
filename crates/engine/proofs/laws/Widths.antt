-- From a loaded sheet to its minimum width: what is found at another width is found of the sheet at that width, and its lowest
-- potentials are the lowest drawing.
use Rattle.std.specs.Prelude.{Ok, Err}
use Rattle.std.specs.Prelude.{Result as Answer}
use Prim.Native.Nat.{ℕ, suc, max, ◌+◌, ◌-◌, ◌≤◌, ◌<◌}
use mathlib.Core.Path.{◌≡◌, refl, sym, ◌∙◌, ap, subst}
use mathlib.Core.List.{List}
use native.Mathlib.Omega.{arith}
use lib.IntN.{ℤ}
use lib.ListN.{length, get_or, take, drop, drop_of_length-le}
use lib.Seq.{drop-cons}
use Rattle.leb128.specs.Source.{refusal}
use Rattle.leb128.specs.Format.{Result}
use Rattle.leb128.specs.declared.Refusal.{Refusal}
use Rattle.sheet.specs.Limits.{max_width, max_nodes}
use Rattle.sheet.specs.Reading.{read_sheet}
use Rattle.network.specs.Network.{Network, Feasible, integers}
use Rattle.network.specs.Net.{Net, net, meant}
use Rattle.drawing.specs.Sheet.{Sheet, sheet_of}
use Rattle.drawing.specs.Drawing.{NoDrawing}
use Rattle.drawing.proofs.laws.SameDrawings.{feasible_drawing}
use Rattle.drawing.specs.laws.Widths.{greatest}
use Rattle.drawing.proofs.laws.Widths.{LowestAt, none_narrower, greatest_in, drawing_narrow, narrower_none}
use Rattle.network.specs.declared.Unsolved.{Unsolved}
use Rattle.network.specs.declared.Unsolved.TheVariants.{NoSolution, Malformed}
use Rattle.difference.specs.Input.{Taken}
use Rattle.difference.specs.Solutions.{Lowest, NoneFeasible, finding, Means}
use Rattle.arcs.specs.Limits.{max_arcs}
use Rattle.arcs.specs.declared.Loaded.{Loaded}
use Rattle.arcs.specs.HeldSheets.{HoldsSheet, AtWidth}
use Rattle.arcs.specs.laws.HeldArcs.{proper, size_is, loaded_holds, holds_reads}
use Rattle.arcs.specs.laws.Loaded.{LoadedSheet}
use Rattle.arcs.specs.laws.HeldSheets.{held_at}
use Rattle.engine.specs.Refusals.{no_width}
use Rattle.engine.specs.Draws.{Drawn, drawn_of, DrawsSheet}
use Rattle.engine.specs.MinimumWidth.{Narrowed, narrowing, NarrowsSheet, Narrows}
use Rattle.engine.specs.inside.Stages.{DrawsHeld}
use Rattle.engine.specs.inside.Widths.{TotalsAt, TotalHeld, NarrowsHeld, LowestHeld, LeavesLowest}
use Rattle.engine.specs.laws.MinimumWidth.{any_width}
use Rattle.engine.specs.laws.TotalsAt.{drawn_totals}
use Rattle.engine.specs.declared.Narrowest.{Narrowest}
use Rattle.engine.proofs.laws.Fits.{nodes_few, arcs_few, meant_is, meant_feasible, taken}

-- the greatest from an index on is that of the number there and of those behind
pub greatest_next : (s : List ℕ) (i : ℕ) → i < length s → greatest (drop i s) ≡ max (get_or s i 0) (greatest (drop (i + 1) s))
greatest_next s i h =
    let add-one : i + 1 ≡ suc i = omega arith in
    ap greatest (drop-cons s i 0 h) ∙ ap (λ (k : ℕ). max (get_or s i 0) (greatest (drop k s))) (sym add-one)

-- behind the last there is none
pub greatest_end : (s : List ℕ) (i : ℕ) → length s ≤ i → greatest (drop i s) ≡ 0
greatest_end s i h = ap greatest (drop_of_length-le s h)

module _ {s t : Loaded} (width : ℕ) (w : AtWidth s width t) (l : width ≤ max_width) where
  -- the total at the width, from what drawing the sheet at it answers
  pub total_held : (p₀ : List ℕ) (y₀ : List ℤ) (p : List ℕ) (y : List ℤ) (d : Drawn) → max_nodes ≤ length p₀ → max_arcs ≤ length y₀
      → DrawsHeld t p₀ y₀ p y d → TotalHeld s width d
  total_held p₀ y₀ p y d places numbers g h =
      drawn_totals (sheet_of h.numbers) width p₀ y₀ p y
      (record { nodes = omega (arith, h.nodes_are, nodes_few h); numbers = omega (arith, size_is h, arcs_few h) }) d
      (held_at width w l (λ (S : Sheet). DrawsSheet S p₀ y₀ p y d) g h)

  -- an answer for the sheet at a width is one for the sheet
  pub narrows_held : (n : Narrowed) → NarrowsHeld t n → NarrowsHeld s n
  narrows_held n g h = any_width width (sheet_of h.numbers) n (held_at width w l (λ (S : Sheet). NarrowsSheet S n) g h)

-- where the solver of differences leaves nothing of arcs that it takes, none are feasible
unsolved_none : {N : Net} {n : ℕ} {old : List ℕ} (new : List ℕ) (why : Unsolved) → Means N n old new (finding (Err why)) → Taken N n old
    → NoneFeasible (meant N n)
unsolved_none new NoSolution m t = m.2
unsolved_none new Malformed m t = absurd (m.0 t)

-- where no potentials are feasible at the greatest width, no width has a drawing
pub none_held : {s t : Loaded} → AtWidth s max_width t
    → (HoldsSheet t → NoneFeasible (meant (net t.arcs.now t.counts.arcs) (t.counts.nodes + 1)))
    → {r : Answer Narrowest Refusal} → r ≡ Err (refusal no_width 0) → NarrowsHeld s (narrowing r)
unfolding narrowing
none_held at_greatest none is h =
    subst (λ (r : Answer Narrowest Refusal). NarrowsSheet (sheet_of h.numbers) (narrowing r)) (sym is) (
      refl,
      λ w l. none_narrower (sheet_of h.numbers) w max_width l
          (held_at max_width at_greatest (omega arith) NoDrawing
          (λ k q d. none k q (meant_feasible k q d)) h),
    )

module _ (s : Loaded) (low : List ℕ) (lowest : LowestHeld s low) (h : HoldsSheet s) where
  -- the sheet
  abbrev S : Sheet
  S = sheet_of h.numbers

  -- the lowest potentials are its lowest drawing
  low_drawing : LowestAt S S.width low
  low_drawing = record {
    drawing = feasible_drawing h.numbers low (subst (λ (N : Network). Feasible N (integers low)) (meant_is h) lowest.feasible);
    lowest = λ q d. lowest.lowest q (meant_feasible h q d);
  }

  -- whose greatest coordinate is within the limit of a width
  pub low_in : greatest low ≤ max_width
  low_in = omega (arith, greatest_in S S.width low low_drawing, (proper h).width)

  -- it is the minimum width
  pub narrow_found : {width total : ℕ} {r : Answer ℕ Refusal} → width ≡ greatest low → TotalsAt S width (drawn_of r) → r ≡ Ok total
      → NarrowsSheet S (narrowing (Ok (record { width = width; total = total })))
  unfolding drawn_of narrowing
  narrow_found e t is =
      let t = rw (e, is) at t in
      rw e (record { width_in = low_in; total_at = t; none_narrower = narrower_none S S.width low low_drawing })

  -- and there is a drawing at it
  pub narrow_drawing : {width : ℕ} {r : Answer ℕ Refusal} {x : Refusal} → width ≡ greatest low → TotalsAt S width (drawn_of r)
      → r ≡ Err x → ⊥
  unfolding drawn_of
  narrow_drawing e t is =
      let t = rw (e, is) at t in
      t.1 low (drawing_narrow S S.width low low_drawing)

-- the first values are the potentials
lowest_front : {M : Network} (n : ℕ) (values : List ℕ) → Lowest M (take (n + 1 - 1) values) → Lowest M (take n values)
lowest_front {M} n values l =
    let same : n + 1 - 1 ≡ n = omega arith in subst (λ (k : ℕ). Lowest M (take k values)) same l

-- what the solver of differences leaves, by its contract: it is never malformed
pub leaves_lowest : (s : Loaded) (old new : List ℕ) (r : Answer (Unit {0}) Unsolved) → s.counts.nodes < length old
    → Means (net s.arcs.now s.counts.arcs) (s.counts.nodes + 1) old new (finding r) → LeavesLowest s new r
leaves_lowest s old new (Ok done) room m = lowest_front s.counts.nodes new m.2.lowest
leaves_lowest s old new (Err why) room m = λ h.
    unsolved_none new why m
    (record { wf = (taken h (s.counts.nodes + 1) (omega arith)).arcs_in.wf; values_room = omega arith })

-- the refusal of reading
pub refused_narrows : (bytes : List ℕ) {r : Refusal} → read_sheet bytes ≡ Result.refused r
    → Narrows (read_sheet bytes) (narrowing (Err r))
unfolding Narrows narrowing
refused_narrows bytes e = rw e refl

-- a sheet that was loaded
pub loaded_narrows : {bytes f₀ a₀ : List ℕ} (s : Loaded) (l : LoadedSheet bytes f₀ s.first.now a₀ s.arcs.now s.counts) (n : Narrowed)
    → NarrowsHeld s n → Narrows (read_sheet bytes) n
unfolding Narrows
loaded_narrows s l n g = subst (λ (x : Result). Narrows x n) (sym (holds_reads l)) (g (loaded_holds l))
