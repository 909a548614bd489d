-- `circulation::finish::settle` meets its contract: the potentials before v are relative to ground's, those from v on as
-- before.
use Rattle.circulation.proofs.laws.Finishes.{Settling}
use Rattle.circulation.proofs.finish.settle.Given as goal

abbrev pub invariant-loop-v : goal.invariant-loop-v
invariant-loop-v l = Settling l.initial.nodes l.nodes l.v
