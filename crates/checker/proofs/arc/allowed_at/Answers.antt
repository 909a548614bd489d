-- `checker::arc::allowed_at` meets its contract: both limits are met.
use native.Mathlib.Omega.{arith}
use mir.Syntax.{w32}
use Rattle.checker.proofs.laws.Sides.{below_low, above_low}
use Rattle.checker.proofs.laws.Bits.{element}
use Rattle.checker.proofs.arc.allowed_at.Goals as goal

pub returns-then-not-at_least : goal.returns-then-not-at_least
returns-then-not-at_least c =
    below_low c.args.arcs.now c.args.list.now c.args.i
    (element w32 _ (omega arith)) c.part_of.ensures.0
    c.at_least.ensures c.if-not-at_least.true

pub returns : goal.returns
returns c =
    above_low c.args.arcs.now c.args.list.now c.args.i (element w32 _ (omega arith))
    c.part_of.ensures.0 c.at_least.ensures c.if-not-at_least.false
    (element w32 _ (omega arith)) c.part_of-2.ensures.0 c.at_most.ensures
