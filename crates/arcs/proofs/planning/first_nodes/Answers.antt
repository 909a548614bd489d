-- `arcs::planning::first_nodes` meets its contract: the loop's invariant is `FirstsLeft`.
use Prim.Native.Nat.{◌+◌, ◌-◌}
use mathlib.Core.Path.{◌≡◌}
use native.Mathlib.Omega.{arith}
use lib.ListN.{length-set}
use Rattle.arcs.proofs.laws.LayersAt.{next_there, next_few, next_ends}
use Rattle.arcs.proofs.laws.FirstNodes.{firsts_begin, firsts_step, firsts_end}
use Rattle.arcs.proofs.planning.first_nodes.Goals as goal

pub loop-layer-init : goal.loop-layer-init
loop-layer-init c =
    let all : c.args.layers - 0 ≡ c.args.layers = omega arith in
    rw all (firsts_begin (record { inside = omega arith; few = omega arith; good = c.requires.good_layers }))

pub number-count-requires : goal.number-count-requires
number-count-requires c = next_there c.loop-layer.invariant.here (omega arith)

pub overflow_cast-first : goal.overflow_cast-first
overflow_cast-first c = omega (arith, c.loop-layer.invariant.here.few)

pub layer_size-at-requires : goal.layer_size-at-requires
layer_size-at-requires c =
    omega (arith, next_few c.loop-layer.invariant.here (omega arith) c.number-count.ensures)

pub overflow_add-at : goal.overflow_add-at
overflow_add-at c =
    omega (
      arith,
      next_ends c.loop-layer.invariant.here (omega arith)
          c.number-count.ensures c.layer_size-at.ensures,
    )

pub overflow_add-v : goal.overflow_add-v
overflow_add-v c =
    omega (
      arith,
      next_few c.loop-layer.invariant.here (omega arith)
          c.number-count.ensures,
    )

pub loop-layer-preserved : goal.loop-layer-preserved
loop-layer-preserved c =
    let others : (c.args.layers - c.loop-layer.layer) - 1 ≡ c.args.layers - (c.loop-layer.layer + 1) = omega arith in
    rw others at (firsts_step c.loop-layer.invariant (omega arith) c.number-count.ensures c.layer_size-at.ensures)

pub overflow_cast-first-2 : goal.overflow_cast-first-2
overflow_cast-first-2 c = omega (arith, c.loop-layer.invariant.here.few)

pub shape_of-first : goal.shape_of-first
shape_of-first c = simp length-set c.loop-layer.invariant.left.size

pub returns : goal.returns
returns c =
    let end : c.loop-layer.layer ≡ c.args.layers = omega arith in
    rw end at (firsts_end c.loop-layer.invariant (omega arith) c.requires.first_layer_at_in_bounds.1)
