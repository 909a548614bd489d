-- `sheet::passes::fill` meets its contract: the loop's invariant is `FillOn`.
use lib.ListN.{length}
use Rattle.sheet.proofs.laws.Passes.{FillOn}
use Rattle.sheet.proofs.passes.fill.Given as goal

abbrev pub invariant-loop-number : goal.invariant-loop-number
invariant-loop-number g l =
    FillOn g.O.Order.Leads g.O.Order.format l.bytes (length l.initial.numbers) l.initial.numbers l.numbers l.at l.number-index l.s
