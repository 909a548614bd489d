-- `circulation::augment::walk` meets its contract: the loop's invariant is `Walking`; the place in the order falls.
use Rattle.circulation.specs.inside.Search.{Pushed}
use Rattle.network.specs.Net.{net, at}
use Rattle.network.specs.Nodes.{parents}
use Rattle.circulation.proofs.laws.Walks.{walk_next}
use Rattle.circulation.specs.laws.Columns.{column_length}
use lib.ListN.{length}
use mathlib.Core.Path.{subst}
use Prim.Native.Nat.{ℕ}
use native.Mathlib.Omega.{arith}
use Rattle.circulation.proofs.augment.walk.Goals as goal

pub get-requires : goal.get-requires
get-requires c = (
  omega (arith, c.loop-v.invariant.v_in, column_length 0 c.args.nodes.now),
  omega (arith, c.loop-v.invariant.v_in, c.requires.reached_at.state.wf.nodes),
  omega arith,
)

pub loop-v-preserved : goal.loop-v-preserved
loop-v-preserved c =
    (walk_next c.loop-v.invariant c.loop-v-test.true c.push-v.new.flows c.push-v.result
    (subst
    (λ (m : ℕ). Pushed (net c.args.arcs.now m) c.loop-v.flows (at (parents c.args.nodes.now) c.loop-v.v)
    c.loop-v.v c.args.d c.push-v.new.flows c.push-v.result)
    c.loop-v.invariant.x_size
    (subst
    (λ (i : ℕ). Pushed (net c.args.arcs.now (length c.loop-v.flows)) c.loop-v.flows i c.loop-v.v c.args.d
    c.push-v.new.flows c.push-v.result)
    c.get.ensures c.push-v.ensures))).0
