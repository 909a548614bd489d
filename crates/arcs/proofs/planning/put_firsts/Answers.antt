-- `arcs::planning::put_firsts` meets its contract: the copy stands in front of what is old.
use mathlib.Core.Path.{sym}
use Rattle.leb128.specs.laws.Storing.{sets_front}
use Rattle.arcs.proofs.planning.put_firsts.Goals as goal

pub returns : goal.returns
returns c = rw c.copy_from_slice.ensures.after (sym (sets_front c.args.found.now c.args.first.now c.requires))
