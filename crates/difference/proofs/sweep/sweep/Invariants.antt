-- `difference::sweep::sweep` meets its contract. `Running` holds before each pass; after as many passes as nodes that
-- raise a value no solution is left.
use Rattle.network.specs.Net.{net}
use Rattle.difference.proofs.laws.Runs.{Running}
use lib.ListN.{length}
use Rattle.difference.proofs.sweep.sweep.Given as goal

abbrev pub invariant-loop-k : goal.invariant-loop-k
invariant-loop-k l = Running (net l.arcs l.count) (length l.initial.values) l.values l.k
