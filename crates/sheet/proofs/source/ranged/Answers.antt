-- `sheet::source::ranged` meets its contract: what is found is tested by `within`, and counted.
use Rattle.std.proofs.lemmas.Result.{err_from_is_err_and}
use Rattle.leb128.specs.laws.EachNumber.{within_inside}
use Rattle.sheet.proofs.laws.Rules.{within_outside}
use Rattle.sheet.proofs.laws.FoundNumbers.{found_refused, found_outside, found_inside, found_fits}
use mathlib.Core.Path.{ap}
use Rattle.std.specs.Prelude.{Err}
use native.Mathlib.Omega.{arith}
use Rattle.sheet.proofs.source.ranged.Goals as goal

pub returns-in_err-n : goal.returns-in_err-n
returns-in_err-n c =
    let p = err_from_is_err_and c.from_residual.result c.from_residual.ensures.1 in
    rw (p.1, p.2) (found_refused c.args.input c.args.c c.args.range c.requires.counted c.number.ensures.item c.in_err-n.was)

pub returns-then-n-range : goal.returns-then-n-range
returns-then-n-range c =
    found_outside c.args.input c.args.c c.args.range c.requires.counted c.number.ensures.item c.in_ok-n.was
    (within_outside c.args.range.low c.args.range.high c.in_ok-n.n c.then-n-range.either) (ap Err c.new.ensures)

pub overflow_add-count : goal.overflow_add-count
overflow_add-count c =
    omega (
      arith,
      c.weight.ensures,
      found_fits c.args.input c.args.c c.args.range c.requires.counted c.number.ensures.item c.in_ok-n.was
          (omega arith) c.number.ensures.room,
    )

pub returns : goal.returns
returns c =
    found_inside c.args.input c.args.c c.args.range c.requires.counted c.number.ensures.item c.in_ok-n.was
    (within_inside c.args.range.low c.args.range.high c.in_ok-n.n (omega arith) (omega arith)) (omega (arith, c.weight.ensures))
