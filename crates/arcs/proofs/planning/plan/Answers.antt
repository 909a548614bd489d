-- `arcs::planning::plan` meets its contract: the pass over the layers and two more numbers are a plan.
use native.Mathlib.Omega.{arith}
use Rattle.arcs.proofs.laws.FirstNodes.{layers_few, layers_good, edges_there, planned}
use Rattle.arcs.proofs.planning.plan.Goals as goal

pub first_nodes-behind-requires : goal.first_nodes-behind-requires
first_nodes-behind-requires c =
    record {
      good_layers = layers_good c.requires.good c.number-layers.ensures;
      first_layer_at_in_bounds = (c.requires.good.head, omega (arith, layers_few c.requires.good c.number-layers.ensures, c.requires.max_layers_in_bounds));
    }

pub bounds-first-layers : goal.bounds-first-layers
bounds-first-layers c =
    omega (
      arith,
      layers_few c.requires.good c.number-layers.ensures,
      c.first_nodes-behind.ensures.size,
      c.requires.max_layers_in_bounds,
    )

pub number-edges-requires : goal.number-edges-requires
number-edges-requires c = edges_there c.requires.good c.number-layers.ensures c.first_nodes-behind.ensures

pub returns : goal.returns
returns c =
    planned c.requires.good c.number-layers.ensures c.first_nodes-behind.ensures c.requires.max_layers_in_bounds c.from-nodes.ensures
    c.number-edges.ensures.is
