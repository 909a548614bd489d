-- `sheet::coordinates::walk` meets its contract: the loop's invariant is `WalkLeft`.
use mathlib.Core.Path.{sym, ◌∙◌}
use Rattle.std.proofs.lemmas.Result.{err_from_is_err_and}
use Rattle.sheet.specs.laws.Awaited.{expects}
use Rattle.sheet.proofs.laws.CoordinatePasses.{walk_begin, walk_end, walk_refused, walk_next}
use Rattle.sheet.proofs.coordinates.walk.Goals as goal

pub loop-s-init : goal.loop-s-init
loop-s-init c =
    walk_begin _ c.requires

pub returns-in_err-n : goal.returns-in_err-n
returns-in_err-n c =
    let p = err_from_is_err_and c.from_residual.result c.from_residual.ensures.1 in
    rw (p.1, p.2)
    (walk_refused c.loop-s.invariant (sym c.more.ensures ∙ c.loop-s-test.true) (rw c.range.ensures at c.ranged.ensures)
    c.in_err-n.was)

pub loop-s-smaller : goal.loop-s-smaller
loop-s-smaller c =
    rw c.following-s.ensures
    ((expects c.loop-s.s c.loop-s.invariant.steady (sym c.more.ensures ∙ c.loop-s-test.true)).fewer _
    (walk_next c.loop-s.invariant (sym c.more.ensures ∙ c.loop-s-test.true) (rw c.range.ensures at c.ranged.ensures)
    c.in_ok-n.was).0)

pub loop-s-preserved : goal.loop-s-preserved
loop-s-preserved c =
    rw c.following-s.ensures
    (walk_next c.loop-s.invariant (sym c.more.ensures ∙ c.loop-s-test.true) (rw c.range.ensures at c.ranged.ensures)
    c.in_ok-n.was).1

pub returns : goal.returns
returns c =
    walk_end c.loop-s.invariant (sym c.more.ensures ∙ c.loop-s-test.false)
