-- `arcs::layers::put_layer` meets its contract: left boundary, pairs and right boundary make a layer.
use native.Mathlib.Omega.{arith}
use Rattle.arcs.proofs.laws.Layers.{count_room, pairs_size, layer_puts}
use Rattle.arcs.proofs.laws.LayersAt.{count_there, count_few, layer_there}
use Rattle.arcs.proofs.layers.put_layer.Goals as goal

pub number-count-requires : goal.number-count-requires
number-count-requires c = count_there c.args.at c.args.numbers.now c.requires.good_layer

pub overflow_add-at : goal.overflow_add-at
overflow_add-at c =
    omega (arith, layer_there c.args.at c.args.numbers.now c.requires.good_layer c.number-count.ensures)

pub overflow_sub-count : goal.overflow_sub-count
overflow_sub-count c =
    omega (arith, count_few c.args.at c.args.numbers.now c.requires.good_layer c.number-count.ensures)

pub put_pairs-pairs-requires : goal.put_pairs-pairs-requires
put_pairs-pairs-requires c = (
  omega (arith, layer_there c.args.at c.args.numbers.now c.requires.good_layer c.number-count.ensures),
  omega (arith, count_few c.args.at c.args.numbers.now c.requires.good_layer c.number-count.ensures),
  omega (
    arith,
    count_few c.args.at c.args.numbers.now c.requires.good_layer c.number-count.ensures,
    count_room c.args.at c.args.numbers.now c.requires.good_layer c.number-count.ensures c.args.n _
        c.requires.ground_le_max_nodes.2,
    c.put_arc-left.ensures.behind,
  ),
)

pub overflow_sub-count-2 : goal.overflow_sub-count-2
overflow_sub-count-2 c =
    omega (arith, count_few c.args.at c.args.numbers.now c.requires.good_layer c.number-count.ensures)

pub overflow_add-v : goal.overflow_add-v
overflow_add-v c =
    omega (arith, count_few c.args.at c.args.numbers.now c.requires.good_layer c.number-count.ensures)

pub upper_bound-requires-2 : goal.upper_bound-requires-2
upper_bound-requires-2 c =
    omega (arith, count_few c.args.at c.args.numbers.now c.requires.good_layer c.number-count.ensures)

pub put_arc-requires : goal.put_arc-requires
put_arc-requires c =
    omega (
      arith,
      count_few c.args.at c.args.numbers.now c.requires.good_layer c.number-count.ensures,
      count_room c.args.at c.args.numbers.now c.requires.good_layer c.number-count.ensures c.args.n _
          c.requires.ground_le_max_nodes.2,
      c.put_arc-left.ensures.behind,
      pairs_size c.args.at c.args.numbers.now c.requires.good_layer c.number-count.ensures c.put_pairs-pairs.ensures,
    )

pub returns : goal.returns
returns c =
    layer_puts c.args.frame.width c.args.at c.args.numbers.now c.number-count.ensures.is
    c.upper_bound.ensures c.upper_bound-2.ensures c.put_arc-left.ensures c.put_pairs-pairs.ensures
    c.put_arc.ensures
