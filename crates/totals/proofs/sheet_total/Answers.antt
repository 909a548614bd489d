-- `totals::sheet_total` meets its contract: the packed edges and the first nodes of the layers are there, whatever sheet is held.
use mathlib.Core.Path.{sym}
use native.Mathlib.Omega.{arith}
use Prim.Native.Nat.{◌*◌}
use Rattle.std.proofs.lemmas.List.{length-take-le}
use Rattle.network.specs.Packed.{stride}
use Rattle.arcs.specs.laws.HeldArcs.{edges_few, edges_there}
use Rattle.arcs.specs.laws.HeldSheets.{bound_held}
use Rattle.totals.proofs.sheet_total.Goals as goal

pub overflow_mul-edges : goal.overflow_mul-edges
overflow_mul-edges c = omega (arith, bound_held c.args.sheet.now.holds edges_few)

pub slice_bounds-edges-end : goal.slice_bounds-edges-end
slice_bounds-edges-end c =
    sym (length-take-le (stride * c.args.sheet.now.counts.edges) c.args.sheet.now.arcs.now
    (bound_held c.args.sheet.now.holds edges_there))
