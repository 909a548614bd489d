-- `report::lines::put_nodes` meets its contract: the loop's invariant is `NodesLeft`.
use native.Mathlib.Omega.{arith}
use Rattle.report.proofs.laws.Nodes.{at_node, all_before, nodes_begin, nodes_end, node_room, nodes_next}
use Rattle.report.proofs.lines.put_nodes.Goals as goal

pub loop-v-init : goal.loop-v-init
loop-v-init c = nodes_begin _ _ _ _ c.requires.laid_out

pub returns-in_default : goal.returns-in_default
returns-in_default c =
    nodes_end c.loop-v.invariant (all_before c.args.numbers.now c.loop-v.v c.locate.ensures c.in_default.is)

pub put_node-at-requires : goal.put_node-at-requires
put_node-at-requires c =
    node_room c.loop-v.invariant (at_node c.args.numbers.now c.loop-v.v c.locate.ensures c.in-Some.is) c.requires.room

pub loop-v-preserved : goal.loop-v-preserved
loop-v-preserved c =
    nodes_next c.loop-v.invariant (at_node c.args.numbers.now c.loop-v.v c.locate.ensures c.in-Some.is) c.put_node-at.ensures

pub returns : goal.returns
returns c = nodes_end c.loop-v.invariant (omega (arith, c.requires.numbers_in_bounds))
