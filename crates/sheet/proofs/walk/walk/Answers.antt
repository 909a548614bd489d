-- `sheet::walk::walk` meets its contract: where a part is refused the sheet is, and the edges end it.
use Rattle.std.proofs.lemmas.Result.{err_from_is_err_and}
use native.Mathlib.Omega.{arith}
use Rattle.std.proofs.lemmas.Grind.{common_steps}
use Rattle.sheet.proofs.laws.Sheet.{width_refused, count_refused, layers_refused, total_refused, sheet_walked}
use Rattle.sheet.proofs.walk.walk.Goals as goal

pub returns-in_err-behind_width : goal.returns-in_err-behind_width
returns-in_err-behind_width c =
    let p = err_from_is_err_and c.from_residual.result c.from_residual.ensures.1 in
    rw (p.1, p.2) (width_refused c.limited.ensures c.in_err-behind_width.was)

pub returns-in_err-n : goal.returns-in_err-n
returns-in_err-n c =
    let p = err_from_is_err_and c.from_residual-in_err-n.result c.from_residual-in_err-n.ensures.1 in
    rw (p.1, p.2) (count_refused c.limited.ensures c.in_ok-behind_width.was c.limited-2.ensures c.in_err-n.was)

pub returns-in_err-behind_layers : goal.returns-in_err-behind_layers
returns-in_err-behind_layers c =
    let p = err_from_is_err_and c.from_residual-in_err-behind_layers.result c.from_residual-in_err-behind_layers.ensures.1 in
    rw (p.1, p.2) (layers_refused c.limited.ensures c.in_ok-behind_width.was c.limited-2.ensures c.in_ok-n.was (grind (arith, common_steps)) c.layers.ensures c.in_err-behind_layers.was)

pub returns-in_err-m : goal.returns-in_err-m
returns-in_err-m c =
    let p = err_from_is_err_and c.from_residual-in_err-m.result c.from_residual-in_err-m.ensures.1 in
    rw (p.1, p.2) (total_refused c.limited.ensures c.in_ok-behind_width.was c.limited-2.ensures c.in_ok-n.was (grind (arith, common_steps)) c.layers.ensures
    c.in_ok-behind_layers.was c.limited-3.ensures c.in_err-m.was)

pub returns : goal.returns
returns c =
    sheet_walked c.limited.ensures c.in_ok-behind_width.was c.limited-2.ensures c.in_ok-n.was (grind (arith, common_steps)) c.layers.ensures
    c.in_ok-behind_layers.was c.limited-3.ensures c.in_ok-m.was c.edges.ensures
