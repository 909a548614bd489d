-- `circulation::start::count_deficits` meets its contract: the loop's invariant is `Counting`.
use Rattle.network.specs.Nodes.{column}
use Rattle.circulation.proofs.laws.Counts.{count_start, count_range, count_next}
use Rattle.circulation.specs.laws.Picks.{pick_le}
use Rattle.circulation.specs.laws.Columns.{column_length}
use Rattle.circulation.proofs.laws.Columns.{apart_start, apart_join}
use Rattle.network.specs.Net.{at}
use native.Mathlib.Omega.{arith}
use Rattle.circulation.proofs.start.count_deficits.Goals as goal

pub loop-i-init : goal.loop-i-init
loop-i-init c = (
  count_start (column 1 c.fill.new.nodes) (column_length 1 c.fill.new.nodes)
      (λ v l. c.fill.ensures.by_index v (omega (arith, c.fill.ensures.apart.length_same))),
  apart_start 1 c.fill.new.nodes,
)

pub charge-requires-clause-a_bound : goal.charge-requires-clause-a_bound
charge-requires-clause-a_bound c =
    let arc = c.requires.well_formed.arc_in c.loop-i.i c.loop-i-test.true in
    let flow-in = c.requires.countable c.loop-i.i c.loop-i-test.true in
    let range = count_range c.loop-i.invariant.0 c.loop-i-test.true c.requires.well_formed.few c.requires.countable in (
      omega (arith, (range c.part_of-t.result (omega (arith, c.part_of-t.ensures.0, arc.tail_in, c.fill.ensures.apart.length_same))).1, flow-in.1),
      omega (arith, (range c.part_of-h.result (omega (arith, c.part_of-h.ensures.0, arc.head_in, c.fill.ensures.apart.length_same))).0, flow-in.1),
    )

pub charge-requires-in-loop-i-clause-a_bound : goal.charge-requires-in-loop-i-clause-a_bound
charge-requires-in-loop-i-clause-a_bound c =
    let arc = c.requires.well_formed.arc_in c.loop-i.i c.loop-i-test.true in
    let flow-in = c.requires.countable c.loop-i.i c.loop-i-test.true in
    let range = count_range c.loop-i.invariant.0 c.loop-i-test.true c.requires.well_formed.few c.requires.countable in (
      omega (
        arith,
        c.charge.ensures.by_index c.part_of-h.result,
        pick_le c.part_of-t.result c.part_of-h.result (at c.args.flows.now c.loop-i.i),
        (range c.part_of-h.result (omega (arith, c.part_of-h.ensures.0, arc.head_in, c.fill.ensures.apart.length_same))).1,
        flow-in.1,
      ),
      omega (
        arith,
        c.charge.ensures.by_index c.part_of-t.result,
        pick_le c.part_of-h.result c.part_of-t.result (at c.args.flows.now c.loop-i.i),
        (range c.part_of-t.result (omega (arith, c.part_of-t.ensures.0, arc.tail_in, c.fill.ensures.apart.length_same))).0,
        flow-in.1,
      ),
    )

pub loop-i-preserved : goal.loop-i-preserved
loop-i-preserved c = (
  count_next c.loop-i.invariant.0 c.loop-i-test.true c.requires.well_formed.few c.requires.countable (column 1 c.charge.new.nodes)
      (column 1 c.charge-in-loop-i.new.nodes)
      (omega (
        arith,
        column_length 1 c.charge-in-loop-i.new.nodes,
        column_length 1 c.loop-i.nodes,
        c.charge-in-loop-i.ensures.apart.length_same,
        c.charge.ensures.apart.length_same,
      ))
      (rw (← c.part_of-h.ensures.0, ← c.part_of-t.ensures.0) c.charge.ensures.by_index)
      (rw (← c.part_of-h.ensures.0, ← c.part_of-t.ensures.0) c.charge-in-loop-i.ensures.by_index),
  apart_join c.loop-i.invariant.1 (apart_join c.charge.ensures.apart c.charge-in-loop-i.ensures.apart),
)
