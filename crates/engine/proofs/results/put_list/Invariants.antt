-- `engine::results::put_list` meets its contract: the loop's invariant is `Left`, and a flow fits 32 bits.
use lib.ListN.{length, drop}
use Rattle.leb128.specs.laws.Storing.{Left}
use Rattle.network.specs.Sums.{upto}
use Rattle.engine.specs.inside.Results.{number_at}
use Rattle.engine.proofs.results.put_list.Given as goal

abbrev pub invariant-loop-i : goal.invariant-loop-i
invariant-loop-i l =
    Left l.initial.list 0 (upto (length l.flows) (number_at l.flows)) l.list l.i (drop l.i (upto (length l.flows) (number_at l.flows)))
