-- `engine::results::put_places` meets its contract: the loop's invariant is `Left`.
use lib.ListN.{drop}
use Rattle.leb128.specs.laws.Storing.{Left}
use Rattle.network.specs.Sums.{upto}
use Rattle.engine.specs.inside.Results.{place_at}
use Rattle.engine.proofs.results.put_places.Given as goal

abbrev pub invariant-loop-v : goal.invariant-loop-v
invariant-loop-v l =
    Left l.initial.places 0 (upto l.count (place_at l.nodes)) l.places l.v (drop l.v (upto l.count (place_at l.nodes)))
