-- `engine::widths::narrow` meets its contract: what is found at the greatest width is found of the sheet.
use mathlib.Core.Path.{sym, ap}
use native.Mathlib.Omega.{arith}
use Rattle.std.specs.Prelude.{Err}
use Rattle.std.proofs.lemmas.List.{length-take-le}
use Rattle.sheet.specs.Limits.{max_width}
use Rattle.arcs.specs.laws.HeldSheets.{bound_held}
use Rattle.engine.specs.MinimumWidth.{narrowing}
use Rattle.engine.proofs.laws.Widths.{narrows_held, none_held}
use Rattle.engine.proofs.laws.Fits.{nodes_few}
use Rattle.engine.proofs.widths.narrow.Goals as goal

pub lowest-requires : goal.lowest-requires
lowest-requires c = omega (arith, bound_held c.set_width.new.self.holds nodes_few)

pub slice_bounds-narrow_to-end : goal.slice_bounds-narrow_to-end
slice_bounds-narrow_to-end c =
    sym (length-take-le c.set_width.new.self.counts.nodes c.lowest.new.values
    (omega (arith, bound_held c.set_width.new.self.holds nodes_few, c.lowest.auto.values)))

pub narrow_to-requires : goal.narrow_to-requires
narrow_to-requires c = c.in-Ok.ensures

pub returns-in-Ok : goal.returns-in-Ok
returns-in-Ok c = narrows_held max_width c.set_width.ensures (omega arith) (narrowing c.narrow_to.result) c.narrow_to.ensures

pub returns-in-Err : goal.returns-in-Err
returns-in-Err c = none_held c.set_width.ensures c.in-Err.ensures (ap Err c.new.ensures)
