-- `arcs::layers::put_pairs` meets its contract: the loop's invariant is `PairsLeft`.
use Rattle.arcs.proofs.laws.Pairs.{PairsLeft}
use Rattle.arcs.proofs.layers.put_pairs.Given as goal

abbrev pub invariant-loop-k : goal.invariant-loop-k
invariant-loop-k l = PairsLeft l.numbers l.start l.count l.first l.n l.initial.arcs l.arcs l.k l.m
