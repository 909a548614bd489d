-- `arcs::traces::gather` meets its contract: the loop's invariant is `Gathering`.
use native.Mathlib.Omega.{arith}
use Rattle.arcs.proofs.laws.Gathering.{gathering_begin, before_good, before_inside, gathering_step, gathering_end}
use Rattle.arcs.proofs.traces.gather.Goals as goal

pub loop-i-init : goal.loop-i-init
loop-i-init c = gathering_begin _ _ _ _ c.requires.tabled

pub edge_at-e-requires : goal.edge_at-e-requires
edge_at-e-requires c =
    record {
      good_edge = before_good c.loop-i.invariant c.loop-i-test.true c.requires.good_edges;
      edge_stride_in_bounds = omega (arith, c.loop-i.invariant.split, c.requires.count_in_bounds);
    }

pub raise-requires : goal.raise-requires
raise-requires c =
    before_inside c.loop-i.invariant c.loop-i-test.true c.requires.good_edges c.edge_at-e.ensures

pub loop-i-preserved : goal.loop-i-preserved
loop-i-preserved c =
    gathering_step c.loop-i.invariant c.loop-i-test.true c.requires.good_edges c.requires.rising c.edge_at-e.ensures c.raise.ensures

pub shape_of-table : goal.shape_of-table
shape_of-table c = c.loop-i.invariant.size

pub returns : goal.returns
returns c = gathering_end c.loop-i.invariant (omega arith)
