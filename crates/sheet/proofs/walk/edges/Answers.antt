-- `sheet::walk::edges` meets its contract: the loop's invariant is `EdgesLeft`.
use native.Mathlib.Omega.{arith}
use Rattle.std.proofs.lemmas.Result.{err_from_is_err_and}
use Rattle.sheet.proofs.laws.Edges.{edges_refused, edges_next, edges_end}
use Rattle.sheet.proofs.walk.edges.Goals as goal

pub returns-in_err-c : goal.returns-in_err-c
returns-in_err-c c =
    let p = err_from_is_err_and c.from_residual.result c.from_residual.ensures.1 in
    rw (p.1, p.2) (edges_refused c.loop.invariant (omega arith) c.edge.ensures c.in_err-c.was)

pub loop-preserved : goal.loop-preserved
loop-preserved c =
    edges_next c.loop.invariant (omega arith) c.edge.ensures c.in_ok-c.was

pub returns : goal.returns
returns c =
    edges_end c.loop.invariant (omega arith)
