-- `leftmost::start::set_potentials` meets its contract: each turn makes one store of the definition.
use Rattle.std.proofs.Common.{ℕ, ◌*◌, List, sym, ◌∙◌, ap, set, slice_index_or}
use Rattle.network.specs.Nodes.{node_stride}
use Rattle.leftmost.proofs.laws.Potentials.{potentials_none, potentials_next}
use Rattle.leftmost.proofs.start.set_potentials.Goals as goal

pub loop-v-init : goal.loop-v-init
loop-v-init c = sym (potentials_none c.args.values.now c.args.nodes.now)

pub loop-v-preserved : goal.loop-v-preserved
loop-v-preserved c =
    let v : ℕ = c.loop-v.v in
    ap (λ (l : List ℕ). set l (node_stride * v) (slice_index_or c.args.values.now v 0)) c.loop-v.invariant
    ∙ sym (potentials_next v c.args.values.now c.args.nodes.now)
