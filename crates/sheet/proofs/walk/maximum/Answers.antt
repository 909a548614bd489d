-- `sheet::walk::maximum` meets its contract: the limits are tested, then the minimum.
use mathlib.Core.Path.{ap}
use Rattle.std.specs.Prelude.{Err}
use Rattle.std.proofs.lemmas.Result.{err_from_is_err_and}
use Rattle.sheet.proofs.laws.Rules.{crossed_below, crossed_not}
use Rattle.sheet.proofs.laws.WalkSteps.{maximum_refused, maximum_good, maximum_crossed}
use Rattle.sheet.proofs.walk.maximum.Goals as goal

pub returns-in_err-n : goal.returns-in_err-n
returns-in_err-n c =
    let p = err_from_is_err_and c.from_residual.result c.from_residual.ensures.1 in
    rw (p.1, p.2) (maximum_refused c.requires c.limited.ensures c.in_err-n.was)

pub returns-then-n-least : goal.returns-then-n-least
returns-then-n-least c =
    maximum_crossed c.requires c.limited.ensures c.in_ok-n.was
    (crossed_below c.args.least c.in_ok-n.n c.if-n-ne0.true c.if-n-least.true) (ap Err c.new.ensures)

pub returns : goal.returns
returns c =
    maximum_good c.requires c.limited.ensures c.in_ok-n.was (crossed_not c.args.least c.in_ok-n.n c.else-n-ne0.either)
