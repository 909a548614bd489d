-- `arcs::traces::put_edges` meets its contract: the loop's invariant is `EdgesLeft`.
use native.Mathlib.Omega.{arith}
use Rattle.arcs.proofs.laws.Taking.{edges_begin, edge_good, edge_inside, edges_step, edges_end}
use Rattle.arcs.proofs.traces.put_edges.Goals as goal

pub loop-i-init : goal.loop-i-init
loop-i-init c = edges_begin _ _ _ _ _ _ c.requires.good_edges c.requires.tabled

pub put_edge-n-requires : goal.put_edge-n-requires
put_edge-n-requires c =
    record {
      good_edge = edge_good c.loop-i.invariant c.loop-i-test.true;
      edge_stride_in_bounds = (
        omega (arith, c.requires.count_in_bounds),
        omega (arith, c.loop-i.invariant.room, c.loop-i.invariant.left.size, c.requires.count_in_bounds),
        edge_inside c.loop-i.invariant c.loop-i-test.true,
      );
    }

pub loop-i-preserved : goal.loop-i-preserved
loop-i-preserved c =
    edges_step c.loop-i.invariant c.loop-i-test.true c.requires.rising c.put_edge-n.ensures

pub shape_of-table : goal.shape_of-table
shape_of-table c = c.loop-i.invariant.size

pub shape_of-arcs : goal.shape_of-arcs
shape_of-arcs c = c.loop-i.invariant.left.size

pub returns : goal.returns
returns c = edges_end c.loop-i.invariant (omega arith)
