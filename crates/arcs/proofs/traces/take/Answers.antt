-- `arcs::traces::take` meets its contract: the number at the index of the edge's ends is read, and 0 stored.
use mathlib.Core.Path.{refl}
use Rattle.arcs.proofs.traces.take.Goals as goal

pub returns : goal.returns
returns c = rw c.slot-at.ensures (record { answer = refl; slice = refl })
