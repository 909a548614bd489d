-- The contract's cases: refusals of a good sheet, the total, what the solver leaves, and the refusals of reading.
use Rattle.std.specs.Prelude.{Result, Ok, Err, IsErr}
use Rattle.std.specs.Prelude.{Result as Answer}
use Prim.Native.Nat.{ℕ, ◌+◌, ◌*◌, ◌/◌, ◌≤◌, ◌<◌, min}
use mathlib.Core.Path.{◌≡◌, refl, sym, subst}
use mathlib.Core.Bool.{true, false}
use mathlib.Core.List.{List}
use native.Mathlib.Omega.{arith}
use lib.IntN.{ℤ}
use lib.ListN.{length, take}
use Rattle.leb128.specs.Refusals.{slice_short}
use Rattle.leb128.specs.Source.{refusal}
use Rattle.leb128.specs.Format.{Result as Read}
use Rattle.leb128.specs.declared.Refusal.{Refusal}
use Rattle.sheet.specs.Reading.{read_sheet}
use Rattle.network.specs.Packed.{stride}
use Rattle.network.specs.Net.{at, net, meant}
use Rattle.drawing.specs.Sheet.{sheet_of}
use Rattle.network.specs.Nodes.{node_stride, potentials}
use Rattle.circulation.specs.Solutions.{Solution}
use Rattle.leftmost.specs.Solutions.{Taken, SomeFeasible, finding, Means}
use Rattle.network.specs.declared.Unsolved.{Unsolved}
use Rattle.network.specs.declared.Unsolved.TheVariants.{NoSolution, Malformed}
use Rattle.leb128.specs.Words.{u32_most}
use Rattle.totals.specs.Lengths.{lengths_of}
use Rattle.arcs.specs.declared.Counts.{Counts}
use Rattle.arcs.specs.declared.Loaded.{Loaded}
use Rattle.arcs.specs.laws.Loaded.{LoadedSheet}
use Rattle.arcs.specs.Held.{Holds}
use Rattle.arcs.specs.laws.HeldArcs.{size_is, loaded_holds, holds_reads}
use Rattle.engine.specs.Refusals.{no_drawing}
use Rattle.engine.specs.Draws.{Drawn, drawn_of, DrawsSheet, Draws}
use Rattle.engine.specs.Draws.Refuses.{few_places, few_numbers, none}
use Rattle.engine.specs.inside.Stages.{DrawsHeld, FillsHeld, Settles, SettlesHeld}
use Rattle.engine.proofs.laws.Fits.{meant_feasible, taken}
use Rattle.engine.proofs.laws.Finish.{totalled}

module _ (s : Loaded) (p : List ℕ) (y : List ℤ) where
  -- too few places
  pub few_places_drawn : {r : Answer ℕ Refusal} → r ≡ Err (refusal slice_short 0) → length p < s.counts.nodes
      → DrawsHeld s p y p y (drawn_of r)
  unfolding drawn_of
  few_places_drawn e l h =
      subst (λ (r : Answer ℕ Refusal). DrawsSheet (sheet_of h.numbers) p y p y (drawn_of r)) (sym e)
      (few_places (omega (arith, h.nodes_are)), refl, (refl, refl))

  -- too short a list
  pub few_numbers_drawn : {r : Answer ℕ Refusal} → r ≡ Err (refusal slice_short 0) → length y < s.counts.arcs
      → DrawsHeld s p y p y (drawn_of r)
  unfolding drawn_of
  few_numbers_drawn e l h =
      subst (λ (r : Answer ℕ Refusal). DrawsSheet (sheet_of h.numbers) p y p y (drawn_of r)) (sym e)
      (few_numbers (omega (arith, size_is h)), refl, (refl, refl))

-- no drawing: both slices are as they were
pub none_filled : (s : Loaded) (flows nodes p : List ℕ) (y : List ℤ) (why : Unsolved) → s.counts.nodes ≤ length p
    → s.counts.arcs ≤ length y → SettlesHeld s flows nodes (Err why) → FillsHeld s p y p y (Err why)
none_filled s flows nodes p y why i j infeasible h = (
  none (record { nodes = omega (arith, h.nodes_are); numbers = omega (arith, size_is h) })
      (λ q d. infeasible h (record { start = q; feasible = meant_feasible h q d })),
  refl,
  (refl, refl),
)

-- two constructors
false_true : false ≡ true → ⊥
false_true e = cc

-- drawing refuses where filling does
pub refused_filled : (s : Loaded) (p₀ p : List ℕ) (y₀ y : List ℤ) (k : Result (Unit {0}) Unsolved) {r : Answer ℕ Refusal}
    → FillsHeld s p₀ y₀ p y k → IsErr k → r ≡ Err (refusal no_drawing 0) → DrawsHeld s p₀ y₀ p y (drawn_of r)
unfolding drawn_of
refused_filled s p₀ p y₀ y (Ok done) g e is h = absurd (false_true e)
refused_filled s p₀ p y₀ y (Err why) {r} g e is h =
    subst (λ (r : Answer ℕ Refusal). DrawsSheet (sheet_of h.numbers) p₀ y₀ p y (drawn_of r)) (sym is) (g h)

-- where filling refuses nothing, drawing answers the total
pub total_filled : (s : Loaded) (p₀ p : List ℕ) (y₀ y : List ℤ) (k : Result (Unit {0}) Unsolved) {r : ℕ}
    → FillsHeld s p₀ y₀ p y k → (IsErr k → ⊥)
    → r ≡ min u32_most (lengths_of (take s.counts.nodes p) (take (stride * s.counts.edges) s.arcs.now)) → DrawsHeld s p₀ y₀ p y (drawn_of (Ok r))
unfolding drawn_of
total_filled s p₀ p y₀ y (Ok done) {r} g is e h = totalled h p₀ p y₀ y r (g h) e
total_filled s p₀ p y₀ y (Err why) {r} g is e h = absurd (is refl)

-- what the solver leaves, by its contract: it is never malformed
pub settles : {f a : List ℕ} {c : Counts} → Holds f a c → (x₀ nodes₀ room₀ x nodes room : List ℕ) (r : Result (Unit {0}) Unsolved)
    → length x₀ ≡ c.arcs → length nodes₀ ≡ node_stride * (c.nodes + 1) → c.nodes + 1 ≤ length room₀
    → Means (net a (length x₀)) x₀ nodes₀ room₀ x nodes room (finding r) → Settles a c x nodes r
settles {a = a} {c} h x₀ nodes₀ room₀ x nodes room r xs ns enough m =
    go r (subst (λ (k : ℕ). Means (net a k) x₀ nodes₀ room₀ x nodes room (finding r)) xs m)
  where
    count : length nodes₀ / node_stride ≡ c.nodes + 1
    count = omega arith

    go : (r : Result (Unit {0}) Unsolved) → Means (net a c.arcs) x₀ nodes₀ room₀ x nodes room (finding r) → Settles a c x nodes r
    go (Ok done) m = subst (λ (n : ℕ). Solution (net a c.arcs) n (at x) (at (potentials nodes))) count m.4
    go (Err NoSolution) m = subst (λ (n : ℕ). SomeFeasible (meant (net a c.arcs) n) → ⊥) count m.1
    go (Err Malformed) m =
        absurd (m.0 (subst (λ (n : ℕ). Taken (net a c.arcs) n (length room₀)) (sym count) (taken h (length room₀) enough)))

-- the refusal of reading
pub refused_drawn : (bytes p : List ℕ) (y : List ℤ) {r : Refusal} → read_sheet bytes ≡ Read.refused r
    → Draws (read_sheet bytes) p y p y (drawn_of (Err r))
unfolding Draws drawn_of
refused_drawn bytes p y e = rw e (refl, (refl, refl))

-- a sheet that was loaded
pub loaded_drawn : {bytes f₀ a₀ : List ℕ} (s : Loaded) (l : LoadedSheet bytes f₀ s.first.now a₀ s.arcs.now s.counts) (p₀ : List ℕ)
    (y₀ : List ℤ) (p : List ℕ) (y : List ℤ) (d : Drawn)
    → DrawsHeld s p₀ y₀ p y d → Draws (read_sheet bytes) p₀ y₀ p y d
unfolding Draws
loaded_drawn s l p₀ y₀ p y d g = subst (λ (x : Read). Draws x p₀ y₀ p y d) (sym (holds_reads l)) (g (loaded_holds l))
