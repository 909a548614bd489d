-- `arcs::traces::put_edges` meets its contract: the loop's invariant is `EdgesLeft`.
use Rattle.arcs.proofs.laws.Taking.{EdgesLeft}
use Rattle.arcs.proofs.traces.put_edges.Given as goal

abbrev pub invariant-loop-i : goal.invariant-loop-i
invariant-loop-i l =
    EdgesLeft l.numbers l.first l.start l.count l.initial.arcs l.arcs l.initial.table l.table l.i l.n
