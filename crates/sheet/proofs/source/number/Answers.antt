-- `sheet::source::number` meets its contract: a list holds each number as itself.
use Rattle.leb128.specs.Source.{in_list}
use Rattle.sheet.proofs.source.number.Goals as goal

pub returns-in-Numbers-clause-item : goal.returns-in-Numbers-clause-item
unfolding in_list
returns-in-Numbers-clause-item c =
    rw c.in-Numbers.is c.list_number.ensures
