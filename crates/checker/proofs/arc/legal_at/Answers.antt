-- `checker::arc::legal_at` meets its contract: right of the kink, left of it, or on it.
use native.Mathlib.Omega.{arith}
use Rattle.checker.proofs.laws.Sides.{sides_are, legal_right, legal_left, legal_on}
use Rattle.checker.proofs.arc.legal_at.Goals as goal

pub returns-then-tail-head : goal.returns-then-tail-head
returns-then-tail-head c =
    legal_right
    (sides_are c.args.arcs.now c.args.places.now c.args.i c.part_of.ensures.0 c.place-head.ensures c.part_of-2.ensures.0
    c.place.ensures c.part_of-3.ensures.0)
    c.part_of-then-tail-head.ensures.0 c.if-tail-head.true

pub returns-then-head-tail : goal.returns-then-head-tail
returns-then-head-tail c =
    legal_left
    (sides_are c.args.arcs.now c.args.places.now c.args.i c.part_of.ensures.0 c.place-head.ensures c.part_of-2.ensures.0
    c.place.ensures c.part_of-3.ensures.0)
    c.part_of-then-head-tail.ensures.0 c.if-head-tail.true

pub returns : goal.returns
returns c =
    legal_on
    (sides_are c.args.arcs.now c.args.places.now c.args.i c.part_of.ensures.0 c.place-head.ensures c.part_of-2.ensures.0
    c.place.ensures c.part_of-3.ensures.0)
    (omega arith)
