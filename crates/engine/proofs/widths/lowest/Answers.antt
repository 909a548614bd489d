-- `engine::widths::lowest` meets its contract: the solver takes a sheet's packed arcs, and leaves the lowest potentials or answers none.
use native.Mathlib.Omega.{arith}
use Rattle.arcs.specs.laws.HeldSheets.{bound_held}
use Rattle.engine.proofs.laws.Fits.{nodes_few}
use Rattle.engine.proofs.laws.Widths.{leaves_lowest}
use Rattle.engine.proofs.widths.lowest.Goals as goal

pub overflow_add-sheet : goal.overflow_add-sheet
overflow_add-sheet c = omega (arith, bound_held c.args.sheet.now.holds nodes_few)

pub returns : goal.returns
returns c = leaves_lowest c.args.sheet.now c.args.values.now c.least.new.values c.least.result c.requires c.least.ensures
