-- `circulation::nodes::put` meets its contract: a store into the slice is one into a column.
use Rattle.circulation.proofs.laws.Columns.{stored}
use Rattle.circulation.proofs.nodes.put.Goals as goal

pub returns : goal.returns
returns c =
    stored c.args.k c.args.v c.args.a c.args.nodes.now c.requires.2 c.requires.0
