-- What a search that has reached some nodes allows: an arc that crosses, and the step over the nearest one.
use Rattle.network.specs.laws.SumsTo.{sum_to_ge}
use Rattle.network.specs.Net.{at, Net, arcs, tail, head}
use Rattle.circulation.specs.inside.Slackness.{Slack}
use Rattle.circulation.specs.inside.Search.{Crossing, step, lifted, Grown, unreached}
use Rattle.circulation.specs.inside.Steps.{Nearest}
use mathlib.Core.Path.{◌≡◌, ap}
use mathlib.Core.Bool.{cond}
use mathlib.Core.Logic.{⊎_elim}
use mathlib.Core.List.{List}
use Prim.Native.Nat.{ℕ, ◌+◌, ◌≤◌, ◌<◌}
use native.Mathlib.Decide.{ℕ_discrete, dec_lt}
use native.Mathlib.Omega.{arith}
use borrow.Author.Tests.{eq-eqb}
use lib.Dec.{eqb}
use lib.ListN.{length}
use Rattle.circulation.proofs.laws.Slacks.{lift_slack}
use Rattle.circulation.proofs.laws.Bounds.{raise_top}
use Rattle.circulation.specs.Limits.{potential_limit}

module _ {N : Net} {s count : ℕ} {p x order parent residual : List ℕ} (g : Grown N s count p x order parent residual) where
  -- a reached node has a residual
  pub residual_some : (u : ℕ) → u < length p → 0 < at order u → 0 < at residual u
  residual_some u l reached = elim (ℕ_discrete u s) [
    | yes e ↦ omega (arith, ap (at residual) e, g.tree.root_residual)
    | no ne ↦ (g.tree.links u l reached ne).some
  ]

  -- where every node is reached, no arc crosses
  pub crossing_residual : Crossing N (at p) (at x) (at order) → count < length p
  crossing_residual some = go (dec_lt count (length p))
    where
      one : (v : ℕ) → v < length p → at order v ≡ 0 → 0 < unreached (length p) (at order)
      one v l z =
          let one : ◌≡◌ {A = ℕ} (cond (eqb (at order v) 0) 1 0) 1 = rw (eq-eqb (at order v) 0 z) in
          omega (arith, sum_to_ge (length p) (λ u. cond (eqb (at order u) 0) 1 0) v l, one)

      go : Dec (count < length p) → count < length p
      go (yes l) = l
      go (no past) = absurd (some (λ i l. ⊎_elim
          (λ c. omega (arith, g.rest, one (tail N i) (g.ready.wf.arc_in i l).tail_in c.to))
          (λ c. omega (arith, g.rest, one (head N i) (g.ready.wf.arc_in i l).head_in c.to))))

  module _ (i d : ℕ) (near : Nearest N (arcs N) (at p) (at x) (at order) i) (is-step : d ≡ step N (at p) i) where
    -- the step keeps the potentials small
    pub raise_fits : count < length p → (w : ℕ) → w < length p → 0 < at order w → at p w + d ≤ potential_limit
    raise_fits few w l r =
        omega
        (arith, is-step, raise_top (at x) i near.0 g.ready.wf g.near g.orders few g.low near.1 w l r)

    -- the potentials fit after the step
    pub raised : Slack N (lifted (at order) (at p) d) (at x)
    raised = lift_slack (at order) g.slack d (λ j l w. omega (arith, near.2 j l w))
