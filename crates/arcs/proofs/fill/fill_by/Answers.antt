-- `arcs::fill::fill_by` meets its contract: the arcs of the edges and then those of the layers are the network's.
use native.Mathlib.Omega.{arith}
use Rattle.arcs.proofs.laws.Fill.{width_read, firsts_rise, edges_good, edges_there, nodes_tabled}
use Rattle.arcs.proofs.laws.Fill.{layers_good, nodes_few, layers_room, edges_end, fill_end}
use Rattle.arcs.proofs.fill.fill_by.Goals as goal

pub gather-requires : goal.gather-requires
gather-requires c =
    record {
      good_edges = edges_good c.requires.good c.requires.planned;
      count_in_bounds = (edges_there c.requires.good c.requires.planned).0;
      rising = firsts_rise c.requires.good c.requires.planned;
      tabled = nodes_tabled c.requires.good c.requires.planned c.requires.blank;
    }

pub put_edges-n-requires : goal.put_edges-n-requires
put_edges-n-requires c =
    record {
      good_edges = edges_good c.requires.good c.requires.planned;
      count_in_bounds = ((edges_there c.requires.good c.requires.planned).0, omega (arith, c.requires.nodes_in_bounds));
      rising = firsts_rise c.requires.good c.requires.planned;
      tabled = c.gather.ensures;
    }

pub put_layers-requires : goal.put_layers-requires
put_layers-requires c =
    record {
      good_layers = layers_good c.requires.good c.requires.planned;
      first_layer_at_in_bounds = (c.requires.good.head, nodes_few c.requires.good c.requires.planned, omega (arith, c.number.ensures.fits));
      ground_in_bounds = omega (
        arith,
        layers_room c.requires.good c.requires.planned c.number.result,
        edges_end c.requires.good c.requires.planned c.put_edges-n.ensures,
        c.requires.nodes_in_bounds,
      );
    }

pub returns : goal.returns
returns c =
    fill_end c.requires.good c.requires.planned c.requires.nodes_in_bounds (width_read c.args.numbers.now c.number.ensures)
    c.put_edges-n.ensures c.put_layers.ensures
