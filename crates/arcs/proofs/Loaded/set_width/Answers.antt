-- `arcs::Loaded::set_width` meets its contract: packed arcs at another width are those of a good sheet.
use mathlib.Core.Path.{sym, subst}
use mathlib.Core.List.{List}
use mathlib.Core.Logic.{∥∥₁_map}
use native.Mathlib.Omega.{arith}
use Prim.Native.Nat.{ℕ}
use Rattle.arcs.specs.Held.{Holds}
use Rattle.arcs.specs.laws.Widened.{holds_width}
use Rattle.arcs.proofs.Loaded.set_width.Goals as goal

pub invariant_of-self : goal.invariant_of-self
invariant_of-self c = record {
  holds = ∥∥₁_map c.args.self.now.holds
      (λ h. subst (λ (a : List ℕ). Holds c.args.self.now.first.now a c.args.self.now.counts) (sym c.set_width.ensures)
      (holds_width c.min-width.result (omega (arith, c.min-width.ensures)) h));
}
