-- `circulation::search::flood` meets its contract: the loop's invariant is `GrownAt`.
use Rattle.circulation.specs.inside.Steps.{GrownAt}
use Rattle.network.specs.Nodes.{size, potentials, orders, parents, residuals, node_stride}
use Rattle.network.specs.Net.{net}
use Rattle.circulation.specs.Input.{Rooted}
use Rattle.circulation.proofs.laws.Floods.{flood_crosses, flood_whole}
use Rattle.circulation.proofs.laws.Searches.{begin_grown}
use Rattle.circulation.proofs.laws.Reaching.{new_there}
use Rattle.circulation.specs.laws.Columns.{column_length}
use lib.ListN.{length}
use mathlib.Core.Path.{subst, sym, ap, ◌∙◌}
use Prim.Native.Nat.{ℕ, ◌-◌, ◌/◌}
use native.Mathlib.Omega.{arith}
use Rattle.circulation.proofs.search.flood.Goals as goal

pub overflow_sub-g : goal.overflow_sub-g
overflow_sub-g c =
    omega (arith, c.count_of-n.ensures, column_length 0 c.args.nodes.now, c.requires.state_at.wf.some)

pub begin-requires : goal.begin-requires
begin-requires c = (
  omega (arith, c.requires.state_at.wf.nodes, column_length 0 c.args.nodes.now),
  omega (arith, c.count_of-n.ensures, column_length 0 c.args.nodes.now, c.requires.state_at.wf.some),
  omega arith,
)

pub loop-count-init : goal.loop-count-init
loop-count-init c =
    begin_grown (potentials c.begin.new.nodes) c.args.flows.now (orders c.begin.new.nodes)
    (parents c.begin.new.nodes) (residuals c.begin.new.nodes) (c.count_of-n.result - 1)
    (omega (
      arith,
      c.count_of-n.ensures,
      column_length 0 c.args.nodes.now,
      c.requires.state_at.wf.some,
      column_length 0 c.begin.new.nodes,
      c.begin.ensures.length_same,
    ))
    (rw c.begin.ensures.potentials_same c.requires.state_at.wf) c.requires.state_at.limited c.requires.state_at.x_size
    (rw c.begin.ensures.potentials_same c.requires.state_at.p_in)
    (rw c.begin.ensures.potentials_same c.requires.state_at.slack)
    (omega (arith, column_length 0 c.begin.new.nodes, column_length 2 c.begin.new.nodes))
    (omega (arith, column_length 0 c.begin.new.nodes, column_length 3 c.begin.new.nodes))
    (omega (arith, column_length 0 c.begin.new.nodes, column_length 4 c.begin.new.nodes)) c.begin.ensures.root
    c.begin.ensures.alone (omega (arith, c.begin.ensures.root_residual))

pub extend-v-requires-clause-crossing_at : goal.extend-v-requires-clause-crossing_at
extend-v-requires-clause-crossing_at c =
    flood_crosses c.loop-count.invariant
    (omega (arith, c.count_of-n.ensures, column_length 0 c.loop-count.nodes, c.loop-count.auto.nodes, c.begin.ensures.length_same))
    (subst (λ (k : ℕ). Rooted (net c.args.arcs.now (length c.args.flows.now)) k)
    (sym (column_length 0 c.loop-count.nodes ∙ ap (λ (k : ℕ). k / node_stride) (c.loop-count.auto.nodes ∙ c.begin.ensures.length_same)))
    c.requires.rooted)
    (omega (
      arith,
      c.loop-count-test.true,
      c.count_of-n.ensures,
      column_length 0 c.loop-count.nodes,
      c.loop-count.auto.nodes,
      c.begin.ensures.length_same,
    ))

pub get-start-requires : goal.get-start-requires
get-start-requires c =
    new_there c.loop-count.invariant
    c.extend-v.ensures (omega arith)

pub returns : goal.returns
returns c =
    record {
      grown = subst
          (λ (s : ℕ). GrownAt (net c.args.arcs.now (length c.args.flows.now)) s
          (size c.args.nodes.now) c.args.flows.now c.loop-count.nodes)
          (ap (λ (k : ℕ). k - 1) c.count_of-n.ensures)
          (subst
          (λ (k : ℕ). GrownAt (net c.args.arcs.now (length c.args.flows.now)) (c.count_of-n.result - 1) k
          c.args.flows.now c.loop-count.nodes)
          (omega (arith, c.loop-count-test.false, c.count_of-n.ensures, column_length 0 c.args.nodes.now, c.requires.state_at.wf.some))
          c.loop-count.invariant);
      whole = λ v l. flood_whole c.loop-count.invariant
          (omega (
            arith,
            c.loop-count-test.false,
            c.count_of-n.ensures,
            column_length 0 c.loop-count.nodes,
            c.loop-count.auto.nodes,
            c.begin.ensures.length_same,
          ))
          v (omega (arith, column_length 0 c.loop-count.nodes, c.loop-count.auto.nodes, c.begin.ensures.length_same));
    }
