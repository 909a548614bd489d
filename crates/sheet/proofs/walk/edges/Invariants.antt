-- `sheet::walk::edges` meets its contract: the loop's invariant is `EdgesLeft`.
use Rattle.sheet.proofs.laws.Edges.{EdgesLeft}
use Rattle.sheet.proofs.walk.edges.Given as goal

abbrev pub invariant-loop : goal.invariant-loop
invariant-loop l =
    EdgesLeft l.input l.counts l.initial.c l.n l.c l.counter
