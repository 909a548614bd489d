-- `arcs::layers::put_pair` meets its contract: two arcs make a pair.
use Rattle.arcs.proofs.laws.Pairs.{pair_puts}
use Rattle.arcs.proofs.layers.put_pair.Goals as goal

pub returns : goal.returns
returns c =
    pair_puts c.args.at c.args.numbers.now c.number-least.ensures.is c.number-greatest.ensures.is
    c.upper_bound.ensures c.maximum.ensures c.put_arc-m.ensures
    c.put_arc.ensures
