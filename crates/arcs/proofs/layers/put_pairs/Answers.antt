-- `arcs::layers::put_pairs` meets its contract: the loop's invariant is `PairsLeft`.
use native.Mathlib.Omega.{arith}
use Rattle.arcs.proofs.laws.Pairs.{pairs_begin, pairs_step, pairs_end}
use Rattle.arcs.proofs.layers.put_pairs.Goals as goal

pub loop-k-init : goal.loop-k-init
loop-k-init c = pairs_begin c.args.numbers.now c.args.start c.args.count c.args.first c.args.n c.args.arcs.now

pub put_pair-m-requires : goal.put_pair-m-requires
put_pair-m-requires c = (
  omega arith,
  omega arith,
  omega (arith, c.loop-k.invariant.room, c.loop-k.invariant.left.size),
)

pub loop-k-preserved : goal.loop-k-preserved
loop-k-preserved c = pairs_step c.loop-k.invariant c.loop-k-test.true c.put_pair-m.ensures

pub shape_of-arcs : goal.shape_of-arcs
shape_of-arcs c = c.loop-k.invariant.left.size

pub returns : goal.returns
returns c = pairs_end c.loop-k.invariant (omega arith)
