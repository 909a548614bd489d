-- `engine::widths::greatest` meets its contract: the greatest of what was seen and of what is left is that of all.
use Prim.Native.Nat.{max}
use mathlib.Core.Path.{◌≡◌}
use native.Mathlib.Omega.{arith}
use borrow.Author.Rules.{rules}
use lib.ListN.{get_or}
use Rattle.engine.proofs.laws.Widths.{greatest_next, greatest_end}
use Rattle.engine.proofs.widths.greatest.Goals as goal

pub loop-n-init : goal.loop-n-init
loop-n-init c = omega arith

pub loop-n-preserved : goal.loop-n-preserved
loop-n-preserved c =
    let most : c.max-most.result ≡ max c.loop-n.most (get_or c.args.numbers.now c.loop-n.n-index 0) = search rules in
    omega (arith, c.loop-n.invariant, most, greatest_next c.args.numbers.now c.loop-n.n-index c.loop-n-test.true)

pub overflow_cast-result : goal.overflow_cast-result
overflow_cast-result c = omega (arith, c.loop-n.invariant, c.requires)

pub returns : goal.returns
returns c = omega (arith, c.loop-n.invariant, greatest_end c.args.numbers.now c.loop-n.n-index (omega arith))
