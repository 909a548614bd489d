-- `circulation::nodes::get` meets its contract: a column by index is the slice by stride.
use Rattle.circulation.specs.laws.Columns.{column_at}
use mathlib.Core.Path.{sym}
use Rattle.circulation.proofs.nodes.get.Goals as goal

pub returns : goal.returns
returns c =
    sym (column_at c.args.k c.args.nodes.now c.args.v c.requires.0)
