-- `arcs::traces::gather` meets its contract: the loop's invariant is `Gathering`.
use Rattle.arcs.proofs.laws.Gathering.{Gathering}
use Rattle.arcs.proofs.traces.gather.Given as goal

abbrev pub invariant-loop-i : goal.invariant-loop-i
invariant-loop-i l = Gathering l.numbers l.first l.start l.count l.initial.table l.table l.i
