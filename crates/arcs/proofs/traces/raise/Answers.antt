-- `arcs::traces::raise` meets its contract: the number at the index of the edge's ends is stored anew.
use Rattle.arcs.proofs.traces.raise.Goals as goal

pub returns : goal.returns
returns c = rw (c.max.ensures, c.slot-at.ensures)
