-- A slice that holds the packed arcs of some sheet is a table that the loops can read.
use Prim.Native.Nat.{ℕ}
use mathlib.Core.List.{List}
use native.Mathlib.Omega.{arith}
use Rattle.arcs.specs.declared.Counts.{Counts}
use Rattle.arcs.specs.Held.{Holds}
use Rattle.arcs.specs.laws.HeldArcs.{proper, size_is, arcs_there, kinks_small}
use Rattle.arcs.specs.laws.HeldSheets.{bound_held}
use Rattle.checker.specs.inside.Table.{Table}

-- each arc is there, with a small kink
pub table : {f a : List ℕ} {c : Counts} → ∥ Holds f a c ∥₁ → Table a c.arcs
table {a = a} {c} h = record {
  few = bound_held h (λ h. omega (arith, size_is h, (proper h).few, (proper h).nodes));
  arcs = λ i l. record {
    there = bound_held h (λ h. omega (arith, arcs_there h));
    kink = bound_held h (λ h. kinks_small h i l);
  };
}
