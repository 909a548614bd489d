-- `arcs::fill::fill` meets its contract: the small table suffices for few nodes, the large one for all nodes of a good sheet.
use native.Mathlib.Omega.{arith}
use Rattle.arcs.proofs.laws.Fill.{nodes_few}
use Rattle.arcs.proofs.fill.fill.Goals as goal

pub fill_with-requires-2-clause-enough : goal.fill_with-requires-2-clause-enough
fill_with-requires-2-clause-enough c = (omega (arith, nodes_few c.requires.good c.requires.planned), omega arith)
