-- `arcs::edges::edge_at` meets its contract: the four numbers of a good edge give its ends and its strength.
use Rattle.arcs.proofs.laws.Edges.{upper_there, lower_there, edge_is}
use Rattle.arcs.proofs.edges.edge_at.Goals as goal

pub node_at-upper-requires : goal.node_at-upper-requires
node_at-upper-requires c =
    upper_there c.args.at c.args.numbers.now c.requires.good_edge c.number-layer.ensures c.number-above.ensures
    c.number-below.ensures c.number-kind.ensures

pub node_at-lower-requires : goal.node_at-lower-requires
node_at-lower-requires c =
    lower_there c.args.at c.args.numbers.now c.requires.good_edge c.number-layer.ensures c.number-above.ensures c.number-below.ensures
    c.number-kind.ensures

pub returns : goal.returns
returns c =
    edge_is c.args.at c.args.numbers.now c.requires.good_edge c.number-layer.ensures c.number-above.ensures c.number-below.ensures
    c.number-kind.ensures c.node_at-upper.ensures c.node_at-lower.ensures c.strength-amount.ensures
