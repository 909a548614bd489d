-- `checker::rules::bound` meets its contract: the loop's invariant is `Bounding`.
use native.Mathlib.Omega.{arith}
use Rattle.checker.proofs.laws.Bounds.{bounding_begin, bounding_next, bounding_end}
use Rattle.checker.proofs.rules.bound.Goals as goal

pub loop-i-init : goal.loop-i-init
loop-i-init c = bounding_begin _ _ _

pub term-result-requires : goal.term-result-requires
term-result-requires c =
    record {
      has_arc = c.requires.table.arcs c.loop-i.i (omega arith);
      i_in_bounds = omega arith;
    }

pub loop-i-preserved : goal.loop-i-preserved
loop-i-preserved c =
    bounding_next c.loop-i.invariant c.requires.table.few c.term-result.ensures.0 c.term-result.ensures.1 c.loop-i-test.true

pub returns : goal.returns
returns c = bounding_end c.loop-i.invariant c.requires.table.few (omega arith)
