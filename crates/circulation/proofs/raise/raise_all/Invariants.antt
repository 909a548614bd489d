-- `circulation::raise::raise_all` meets its contract: the loop's invariant is `Moving`.
use Rattle.circulation.proofs.laws.Moves.{Moving}
use Rattle.circulation.proofs.raise.raise_all.Given as goal

abbrev pub invariant-loop-v : goal.invariant-loop-v
invariant-loop-v l = Moving l.d l.initial.nodes l.nodes l.v
