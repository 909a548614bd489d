-- `arcs::traces::put_edge` meets its contract: the arc of what a good edge takes is written.
use Rattle.arcs.proofs.laws.Taking.{edge_takes}
use Rattle.arcs.proofs.traces.put_edge.Goals as goal

pub take-strength-requires : goal.take-strength-requires
take-strength-requires c =
    rw c.edge_at-e.ensures (c.requires.edge_stride_in_bounds.2, c.requires.good_edge.upper)

pub strength_arc-requires : goal.strength_arc-requires
strength_arc-requires c = rw c.edge_at-e.ensures (c.requires.good_edge.upper, c.requires.good_edge.lower)

pub returns : goal.returns
returns c =
    edge_takes _ c.edge_at-e.ensures c.take-strength.ensures.answer c.take-strength.ensures.slice c.strength_arc.ensures c.put_arc.ensures
