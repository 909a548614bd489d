-- `circulation::step::step_at` meets its contract: by the ends that are reached.
use Rattle.circulation.proofs.laws.LeastStep.{ready_nodes}
use Rattle.circulation.proofs.step.step_at.Goals as goal

pub stands_at-stands-requires-clause-well_formed : goal.stands_at-stands-requires-clause-well_formed
stands_at-stands-requires-clause-well_formed c = ready_nodes c.args.nodes.now c.requires.ready

pub asks_at-asks-requires-clause-well_formed : goal.asks_at-asks-requires-clause-well_formed
asks_at-asks-requires-clause-well_formed c = ready_nodes c.args.nodes.now c.requires.ready

pub at_tail-tail_reached-requires-clause-well_formed : goal.at_tail-tail_reached-requires-clause-well_formed
at_tail-tail_reached-requires-clause-well_formed c = ready_nodes c.args.nodes.now c.requires.ready

pub at_head-head_reached-requires-clause-well_formed : goal.at_head-head_reached-requires-clause-well_formed
at_head-head_reached-requires-clause-well_formed c = ready_nodes c.args.nodes.now c.requires.ready
