-- `arcs::pack::put_arc` meets its contract: five stores make an arc.
use native.Mathlib.Omega.{arith}
use lib.ListN.{length-set}
use Rattle.arcs.proofs.laws.Packing.{arc_puts}
use Rattle.arcs.proofs.pack.put_arc.Goals as goal

pub bounds-arcs-at-2 : goal.bounds-arcs-at-2
bounds-arcs-at-2 c = simp length-set (omega arith)

pub bounds-arcs-at-3 : goal.bounds-arcs-at-3
bounds-arcs-at-3 c = simp length-set (omega arith)

pub bounds-arcs-at-4 : goal.bounds-arcs-at-4
bounds-arcs-at-4 c = simp length-set (omega arith)

pub bounds-arcs-at-5 : goal.bounds-arcs-at-5
bounds-arcs-at-5 c = simp length-set (omega arith)

pub returns : goal.returns
returns c =
    arc_puts c.args.arcs.now c.args.at c.args.arc.tail c.args.arc.head c.args.arc.kink
    c.args.arc.low c.args.arc.high
