-- `arcs::layers::put_layers` meets its contract: the loop's invariant is `LayersLeft`.
use Prim.Native.Nat.{◌+◌, ◌-◌}
use mathlib.Core.Path.{◌≡◌}
use native.Mathlib.Omega.{arith}
use Rattle.arcs.proofs.laws.LayersAt.{next_good, next_there, next_few, next_ends}
use Rattle.arcs.proofs.laws.Layers.{layers_begin, layer_room, layers_step, layers_end}
use Rattle.arcs.proofs.layers.put_layers.Goals as goal

pub loop-layer-init : goal.loop-layer-init
loop-layer-init c =
    let all : c.args.layers - 0 ≡ c.args.layers = omega arith in
    rw all (layers_begin (record { inside = omega arith; few = omega arith; good = c.requires.good_layers }))

pub number-count-requires : goal.number-count-requires
number-count-requires c = next_there c.loop-layer.invariant.here (omega arith)

pub put_layer-m-requires : goal.put_layer-m-requires
put_layer-m-requires c =
    record {
      good_layer = next_good c.loop-layer.invariant.here (omega arith);
      ground_le_max_nodes = (
        c.requires.first_layer_at_in_bounds.1,
        c.requires.first_layer_at_in_bounds.2,
        omega (arith, layer_room c.loop-layer.invariant (omega arith), c.loop-layer.invariant.left.size, c.requires.ground_in_bounds),
      );
    }

pub layer_size-at-requires : goal.layer_size-at-requires
layer_size-at-requires c =
    omega (arith, next_few c.loop-layer.invariant.here (omega arith) c.number-count.ensures)

pub overflow_add-at : goal.overflow_add-at
overflow_add-at c =
    omega (arith, next_ends c.loop-layer.invariant.here (omega arith) c.number-count.ensures c.layer_size-at.ensures)

pub overflow_add-v : goal.overflow_add-v
overflow_add-v c =
    omega (arith, next_few c.loop-layer.invariant.here (omega arith) c.number-count.ensures)

pub loop-layer-preserved : goal.loop-layer-preserved
loop-layer-preserved c =
    let others : (c.args.layers - c.loop-layer.layer) - 1 ≡ c.args.layers - (c.loop-layer.layer + 1) = omega arith in
    rw others at
    (layers_step c.loop-layer.invariant (omega arith) c.number-count.ensures c.layer_size-at.ensures
    c.put_layer-m.ensures)

pub shape_of-arcs : goal.shape_of-arcs
shape_of-arcs c = c.loop-layer.invariant.left.size

pub returns : goal.returns
returns c = layers_end c.loop-layer.invariant (omega arith)
