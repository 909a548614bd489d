-- `difference::sweep::along` meets its contract. k arcs are behind it: `Passing` with one arc more each time.
use Rattle.network.specs.Net.{net}
use lib.Dec.{eqb}
use Rattle.difference.proofs.laws.Passes.{Passing}
use Rattle.difference.proofs.sweep.along.Given as goal

abbrev pub invariant-loop-k : goal.invariant-loop-k
invariant-loop-k g l = Passing (net l.arcs l.count) (eqb g.row.BACK 0) l.k l.initial.values l.values l.rose
