-- `leb128::writer::number_size` meets its contract: the loop's invariant is `Sizing`.
use native.Mathlib.Omega.{arith}
use Rattle.leb128.proofs.laws.Writing.{sizing_last, sizing_next, sizing_end}
use Rattle.leb128.specs.laws.NumberSize.{number_size_is}
use mathlib.Core.Path.{sym, ◌∙◌}
use Rattle.leb128.proofs.writer.number_size.Goals as goal

pub returns-then-rest-lt128 : goal.returns-then-rest-lt128
returns-then-rest-lt128 c =
    sizing_last c.loop-size.invariant (omega arith) ∙ sym (number_size_is c.args.n)

pub loop-size-preserved : goal.loop-size-preserved
loop-size-preserved c =
    sizing_next c.loop-size.invariant (omega arith) (omega arith)

pub returns : goal.returns
returns c =
    sizing_end c.loop-size.invariant (omega arith) ∙ sym (number_size_is c.args.n)
