-- `engine::stages::draw_arcs` meets its contract: the small arrays suffice for few arcs, since each node has two, the large ones always.
use native.Mathlib.Omega.{arith}
use Rattle.arcs.specs.laws.HeldSheets.{bound_held}
use Rattle.engine.proofs.laws.Fits.{twice_nodes, nodes_few, arcs_few}
use Rattle.engine.proofs.stages.draw_arcs.Goals as goal

pub draw_in-requires-clause-enough : goal.draw_in-requires-clause-enough
draw_in-requires-clause-enough c =
    let twice = bound_held c.args.sheet.now.holds twice_nodes in (omega arith, omega arith, omega arith)

pub draw_in-requires-2-clause-enough : goal.draw_in-requires-2-clause-enough
draw_in-requires-2-clause-enough c =
    let nodes = bound_held c.args.sheet.now.holds nodes_few in
    let arcs = bound_held c.args.sheet.now.holds arcs_few in
    (omega arith, omega arith, omega arith)
