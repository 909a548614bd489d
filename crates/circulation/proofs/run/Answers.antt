-- `circulation::run` meets its contract: the loop's invariant is `StateAt`; the total deficit falls.
use Rattle.circulation.specs.inside.Steps.{Ends}
use Rattle.network.specs.Nodes.{size, node_stride}
use Rattle.network.specs.Net.{net, at}
use Rattle.circulation.specs.inside.Slackness.{Balanced}
use Rattle.circulation.proofs.laws.Searches.{solved}
use Rattle.circulation.proofs.laws.Starts.{run_start}
use Rattle.circulation.specs.laws.Columns.{column_length}
use lib.ListN.{length}
use mathlib.Core.Path.{refl, subst, ap, ◌∙◌}
use Prim.Native.Nat.{ℕ, ◌/◌}
use native.Mathlib.Omega.{arith}
use Rattle.circulation.proofs.run.Goals as goal

pub loop-s-init : goal.loop-s-init
loop-s-init c = (
  run_start c.args.arcs.now c.args.flows.now c.saturate.new.flows c.args.nodes.now
      c.count_deficits.new.nodes c.requires c.saturate.auto.flows c.saturate.ensures c.count_deficits.ensures.by_index
      c.count_deficits.ensures.apart,
  refl,
)

pub returns : goal.returns
returns c =
    subst
    (λ (m : ℕ). Ends (net c.args.arcs.now m) (size c.args.nodes.now) c.loop-s.flows c.loop-s.nodes)
    c.saturate.auto.flows (
      c.loop-s.invariant.0,
      subst (λ (n : ℕ). Balanced (net c.args.arcs.now (length c.saturate.new.flows)) n (at c.loop-s.flows))
          (column_length 0 c.loop-s.nodes ∙ ap (λ (k : ℕ). k / node_stride) (c.loop-s.invariant.1 ∙ c.count_deficits.ensures.apart.length_same))
          (solved c.loop-s.invariant.0
          (λ v l. c.in_default.ensures v
          (omega (arith, column_length 0 c.loop-s.nodes)))).1,
    )
