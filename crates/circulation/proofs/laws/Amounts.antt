-- What can be moved: no node has a greater residual than the source, so an amount is at most what is left to move.
use Rattle.network.specs.laws.SumsTo.{sum_to_ge}
use Rattle.network.specs.Net.{at, Net, tail, head}
use Rattle.circulation.specs.inside.Search.{total_deficit, Link, Reached, Amount}
use mathlib.Core.Path.{ap}
use mathlib.Core.Logic.{⊎_elim}
use mathlib.Core.List.{List}
use Prim.Native.Nat.{ℕ, zero, suc, ◌+◌, ◌-◌, ◌≤◌, ◌<◌}
use native.Mathlib.Nat.{le_refl}
use native.Mathlib.Decide.{ℕ_discrete}
use native.Mathlib.Omega.{arith}
use lib.ListN.{length}
use Rattle.network.specs.Nodes.{deficit_zero}

-- no node has a greater residual than the source
module _ {N : Net} {s t : ℕ} {p x e order parent residual : List ℕ} (r : Reached N s t p x e order parent residual) where
  -- the law for nodes at most k-th in the order
  residual_top : (k v : ℕ) → v < length p → 0 < at order v → at order v ≤ k → at residual v ≤ at residual s
  residual_top zero v l some few = absurd (omega arith)
  residual_top (suc k) v l some few = elim (ℕ_discrete v s) [
    | yes same ↦ omega (arith, ap (at residual) same)
    | no ne ↦ step (r.tree.links v l some ne) (λ u u-in u-some less. residual_top k u u-in u-some (omega arith))
  ]
    where
      step : Link N (at p) (at x) (at order) (at residual) v (at parent v)
          → ((u : ℕ) → u < length p → 0 < at order u → at order u < at order v → at residual u ≤ at residual s)
          → at residual v ≤ at residual s
      step k up = ⊎_elim
          (λ c. omega (arith, c.4, up (head N (at parent v)) (r.state.wf.arc_in (at parent v) k.arc_in).head_in c.1 c.2))
          (λ c. omega (arith, c.4, up (tail N (at parent v)) (r.state.wf.arc_in (at parent v) k.arc_in).tail_in c.1 c.2))
          k.ends

  -- the end has a residual
  pub end_residual : 0 < at residual t
  end_residual = elim (ℕ_discrete t s) [
    | yes same ↦ omega (arith, ap (at residual) same, r.tree.root_residual)
    | no ne ↦ (r.tree.links t r.t_in r.t_reached ne).some
  ]

  -- an amount is at most what is left to move
  pub amount_most : (d : ℕ) → Amount s t d (at e) (at residual) → (d + deficit_zero ≤ at e s) × (d ≤ total_deficit (length p) (at e))
  amount_most d a =
      let top = residual_top (at order t) t r.t_in r.t_reached (le_refl _) in (
        omega (arith, a.residual_fits, r.root_fits, top),
        omega (arith, a.residual_fits, r.root_fits, top, sum_to_ge (length p) (λ y. at e y - deficit_zero) s r.tree.s_in),
      )
