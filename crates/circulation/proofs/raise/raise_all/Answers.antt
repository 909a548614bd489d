-- `circulation::raise::raise_all` meets its contract: the loop's invariant is `Moving`.
use Rattle.circulation.proofs.laws.Moves.{move_next, move_end}
use native.Mathlib.Omega.{arith}
use Rattle.circulation.proofs.raise.raise_all.Goals as goal

pub loop-v-preserved : goal.loop-v-preserved
loop-v-preserved c = move_next c.loop-v.invariant (omega arith) c.raise.new.nodes c.raise.ensures

pub returns-clause-moved : goal.returns-clause-moved
returns-clause-moved c = move_end c.loop-v.invariant (omega arith) c.requires.small c.requires.by_index
