-- `sheet::source::weight` meets its contract: where bytes are written, the number takes its bytes.
use Rattle.leb128.specs.laws.NumberSize.{number_size_is}
use mathlib.Core.Path.{◌∙◌}
use Rattle.sheet.proofs.source.weight.Goals as goal

pub returns-in-Numbers : goal.returns-in-Numbers
returns-in-Numbers c =
    rw c.in-Numbers.is (c.number_size.ensures ∙ number_size_is c.args.excess)
