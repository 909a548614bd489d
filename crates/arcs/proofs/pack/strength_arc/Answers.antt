-- `arcs::pack::strength_arc` meets its contract: the strength is a weight, or above all weights.
use native.Mathlib.Omega.{arith}
use Rattle.arcs.proofs.laws.Packing.{strength_plain, strength_straight}
use Rattle.arcs.proofs.pack.strength_arc.Goals as goal

pub returns-then-amount-le-MAX_WEIGHT : goal.returns-then-amount-le-MAX_WEIGHT
returns-then-amount-le-MAX_WEIGHT c =
    rw c.from-amount.ensures
    (strength_plain c.args.strength c.args.upper c.args.lower (omega (arith, c.from-amount.ensures, c.if-amount-le-MAX_WEIGHT.true)))

pub returns : goal.returns
returns c =
    strength_straight c.args.strength c.args.upper c.args.lower
    (omega (arith, c.from-amount.ensures, c.if-amount-le-MAX_WEIGHT.false))
