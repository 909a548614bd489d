-- `circulation::search::extend` meets its contract: the nearest arc is brought onto its kink, and its other end reached.
use Rattle.circulation.proofs.laws.Reaching.{far_in, extended}
use Rattle.circulation.proofs.laws.LeastStep.{ready_nodes}
use Rattle.circulation.proofs.laws.Growing.{raise_fits, crossing_residual}
use Rattle.circulation.specs.laws.Columns.{column_length}
use native.Mathlib.Omega.{arith}
use Rattle.circulation.proofs.search.extend.Goals as goal

pub raise_reached-requires-clause-nodes_bound : goal.raise_reached-requires-clause-nodes_bound
raise_reached-requires-clause-nodes_bound c = omega (arith, c.requires.grown_at.ready.wf.nodes, column_length 0 c.args.nodes.now)

pub raise_reached-requires-clause-by_index : goal.raise_reached-requires-clause-by_index
raise_reached-requires-clause-by_index c =
    λ v l r. raise_fits c.requires.grown_at c.choose-i.result.0 c.choose-i.result.1 c.choose-i.ensures.0 c.choose-i.ensures.1
    (crossing_residual c.requires.grown_at c.requires.crossing_at) v (omega (arith, column_length 0 c.args.nodes.now)) r

pub far-v-requires-clause-well_formed : goal.far-v-requires-clause-well_formed
far-v-requires-clause-well_formed c =
    rw c.raise_reached.ensures.apart.length_same (ready_nodes c.args.nodes.now c.requires.grown_at.ready)

pub residual_over-residual-requires-clause-well_formed : goal.residual_over-residual-requires-clause-well_formed
residual_over-residual-requires-clause-well_formed c =
    rw c.raise_reached.ensures.apart.length_same (ready_nodes c.args.nodes.now c.requires.grown_at.ready)

pub reach-requires : goal.reach-requires
reach-requires c =
    let far = far_in c.requires.grown_at c.choose-i.result.0 c.choose-i.result.1 c.choose-i.ensures.0 c.choose-i.ensures.1
    c.raise_reached.new.nodes c.raise_reached.ensures.moved c.raise_reached.ensures.apart c.far-v.result c.far-v.ensures.value
    c.far-v.ensures.value_2 c.residual_over-residual.result c.residual_over-residual.ensures.residual_over in (
      omega (arith, far, c.raise_reached.ensures.apart.length_same),
      omega (arith, far, c.requires.grown_at.ready.wf.nodes, column_length 0 c.args.nodes.now),
      omega (arith, crossing_residual c.requires.grown_at c.requires.crossing_at, c.requires.grown_at.ready.wf.nodes),
      omega (arith, c.choose-i.ensures.0.0, c.requires.grown_at.ready.wf.few),
      c.residual_over-residual.ensures.upper_bound,
    )

pub returns : goal.returns
returns c =
    extended c.requires.grown_at c.choose-i.result.0 c.choose-i.result.1 c.choose-i.ensures.0 c.choose-i.ensures.1
    c.raise_reached.new.nodes c.raise_reached.ensures.moved c.raise_reached.ensures.apart c.far-v.result c.far-v.ensures.value
    c.far-v.ensures.value_2 c.residual_over-residual.result c.residual_over-residual.ensures.residual_over c.reach.new.nodes c.reach.ensures
