-- `checker::rules::bring` meets its contract: the amount goes to the head, its negation to the tail.
use native.Mathlib.Omega.{arith}
use lib.IntN.{ℤ, pos}
use lib.ListN.{get_or}
use Rattle.std.proofs.lemmas.Int.{ints}
use Rattle.network.specs.Packed.{flow_at}
use Rattle.checker.proofs.laws.Balances.{brought}
use Rattle.checker.proofs.laws.Bits.{amount_small}
use Rattle.checker.proofs.rules.bring.Goals as goal

pub returns : goal.returns
returns c =
    let y : ℤ = get_or c.args.list.now c.args.i (pos 0) in
    brought (flow_at c.args.arcs.now c.args.list.now c.args.i) c.part_of.ensures.0 c.part_of-2.ensures.0
    (omega (arith, ints)) (omega (arith, ints)) (amount_small y (omega arith)) c.shift.ensures c.shift-2.ensures
