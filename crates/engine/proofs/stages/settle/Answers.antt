-- `engine::stages::settle` meets its contract: the solver takes a sheet's packed arcs, and answers a solution or that there is none.
use Rattle.engine.proofs.laws.Draw.{settles}
use Rattle.engine.proofs.stages.settle.Goals as goal

pub returns : goal.returns
returns c = λ h.
    settles h c.args.flows.now c.args.nodes.now _ c.solve.new.flows
    c.solve.new.nodes _ c.solve.result c.requires.flows_len.0 c.requires.flows_len.1
    c.requires.nodes_in_bounds c.solve.ensures
