-- `totals::add_all` meets its contract: the sum is that of the edges passed.
use Rattle.std.proofs.Common.{◌≡◌, min}
use Rattle.leb128.specs.Words.{u32_most}
use Rattle.network.specs.Sums.{sum_to}
use Rattle.packed.specs.Ends.{edge_from}
use Rattle.totals.specs.Lengths.{counted_at}
use Rattle.totals.proofs.add_all.Given as goal

abbrev pub invariant-loop-i : goal.invariant-loop-i
invariant-loop-i l = l.sum ≡ min u32_most (sum_to l.i (λ k. counted_at l.places (edge_from k l.edges)))
