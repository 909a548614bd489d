-- `engine::widths::narrow_to` meets its contract: the greatest coordinate of the lowest drawing is the minimum width.
use native.Mathlib.Omega.{arith}
use Rattle.arcs.specs.laws.HeldSheets.{bound_held}
use Rattle.engine.proofs.laws.Widths.{low_in, narrow_found, narrow_drawing}
use Rattle.engine.proofs.widths.narrow_to.Goals as goal

pub greatest-width-requires : goal.greatest-width-requires
greatest-width-requires c = omega (arith, bound_held c.args.sheet.now.holds (low_in c.args.sheet.now c.args.low.now c.requires))

pub total_at-requires : goal.total_at-requires
total_at-requires c =
    omega (arith, c.greatest-width.ensures, bound_held c.args.sheet.now.holds (low_in c.args.sheet.now c.args.low.now c.requires))

pub returns-in_err-total : goal.returns-in_err-total
returns-in_err-total c =
    λ h. absurd
    (narrow_drawing c.args.sheet.now c.args.low.now c.requires h c.greatest-width.ensures (c.total_at.ensures.answer h) c.in_err-total.was)

pub returns : goal.returns
returns c =
    λ h. narrow_found c.args.sheet.now c.args.low.now c.requires h c.greatest-width.ensures (c.total_at.ensures.answer h)
    c.in_ok-total.was
