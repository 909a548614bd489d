-- `checker::rules::balances` meets its contract: the loop's invariant is `Counted`.
use Rattle.checker.proofs.laws.Balances.{Counted}
use Rattle.checker.proofs.rules.balances.Given as goal

abbrev pub invariant-loop-i : goal.invariant-loop-i
invariant-loop-i l = Counted l.arcs l.list l.n l.initial.balance l.balance l.i
