-- `totals::add_all` meets its contract: the sum is that of the edges passed.
use Rattle.std.proofs.Common.{ℕ, ap, add-one, arith}
use Rattle.network.specs.Sums.{sum_to}
use Rattle.packed.specs.Ends.{edge_from}
use Rattle.totals.specs.Lengths.{counted_at}
use Rattle.totals.proofs.add_all.Goals as goal

pub loop-i-init : goal.loop-i-init
unfolding sum_to
loop-i-init c = omega arith

pub loop-i-preserved : goal.loop-i-preserved
unfolding sum_to
loop-i-preserved c =
    let f : ℕ → ℕ = λ k. counted_at c.args.places.now (edge_from k c.args.edges.now) in
    omega (arith, c.loop-i.invariant, c.capped-sum.ensures, c.counted.ensures, ap (λ (n : ℕ). sum_to n f) (add-one c.loop-i.i))
