-- `circulation::augment::augment` meets its contract: the walk moves the amount, and the charge counts it at the two ends.
use Rattle.circulation.proofs.laws.Augmented.{augments}
use Rattle.circulation.proofs.laws.Amounts.{end_residual}
use Rattle.circulation.specs.laws.Columns.{column_length}
use native.Mathlib.Omega.{arith}
use Rattle.circulation.proofs.augment.augment.Goals as goal

pub amount-d-requires : goal.amount-d-requires
amount-d-requires c = (
  omega (arith, c.requires.state.wf.nodes, column_length 0 c.args.nodes.now),
  omega (arith, c.requires.t_in, column_length 0 c.args.nodes.now),
  c.requires.excess,
  end_residual c.requires,
)

pub returns : goal.returns
returns c =
    augments c.charge.new.nodes c.requires c.amount-d.ensures c.walk.ensures c.charge.ensures.by_index c.charge.ensures.apart

pub charge-requires-clause-h_bound : goal.charge-requires-clause-h_bound
charge-requires-clause-h_bound c = (
  omega (arith, c.requires.tree.s_in, column_length 0 c.args.nodes.now),
  omega (arith, c.requires.t_in, column_length 0 c.args.nodes.now),
  omega (arith, c.requires.state.wf.nodes, column_length 0 c.args.nodes.now),
)
