-- `sheet::walk::edge` meets its contract: four numbers in a row.
use Rattle.std.proofs.lemmas.Result.{err_from_is_err_and}
use Rattle.sheet.proofs.laws.Edges.{layer_refused, upper_refused, lower_refused, kind_refused, edge_read}
use Rattle.sheet.proofs.walk.edge.Goals as goal

pub returns-in_err-layer : goal.returns-in_err-layer
returns-in_err-layer c =
    let p = err_from_is_err_and c.from_residual.result c.from_residual.ensures.1 in
    rw (p.1, p.2) (layer_refused c.args.counts.now c.limited.ensures c.in_err-layer.was)

pub returns-in_err-behind_upper : goal.returns-in_err-behind_upper
returns-in_err-behind_upper c =
    let p = err_from_is_err_and c.from_residual-in_err-behind_upper.result c.from_residual-in_err-behind_upper.ensures.1 in
    rw (p.1, p.2)
    (upper_refused c.args.counts.now c.limited.ensures c.in_ok-layer.was c.limited-2.ensures c.in_err-behind_upper.was)

pub returns-in_err-behind_lower : goal.returns-in_err-behind_lower
returns-in_err-behind_lower c =
    let p = err_from_is_err_and c.from_residual-in_err-behind_lower.result c.from_residual-in_err-behind_lower.ensures.1 in
    rw (p.1, p.2)
    (lower_refused c.args.counts.now c.limited.ensures c.in_ok-layer.was c.limited-2.ensures c.in_ok-behind_upper.was
    c.limited-3.ensures c.in_err-behind_lower.was)

pub returns-in_err-behind_kind : goal.returns-in_err-behind_kind
returns-in_err-behind_kind c =
    let p = err_from_is_err_and c.from_residual-in_err-behind_kind.result c.from_residual-in_err-behind_kind.ensures.1 in
    rw (p.1, p.2)
    (kind_refused c.args.counts.now c.limited.ensures c.in_ok-layer.was c.limited-2.ensures c.in_ok-behind_upper.was
    c.limited-3.ensures c.in_ok-behind_lower.was c.limited-4.ensures c.in_err-behind_kind.was)

pub returns : goal.returns
returns c =
    edge_read c.args.counts.now c.limited.ensures c.in_ok-layer.was c.limited-2.ensures c.in_ok-behind_upper.was
    c.limited-3.ensures c.in_ok-behind_lower.was c.limited-4.ensures c.in_ok-behind_kind.was
