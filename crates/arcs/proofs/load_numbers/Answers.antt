-- `arcs::load_numbers` meets its contract: too short a slice, or enough of both, by the counts of the plan.
use mathlib.Core.Path.{ap}
use native.Mathlib.Omega.{arith}
use Rattle.std.specs.Prelude.{Err}
use Rattle.arcs.proofs.laws.Fill.{nodes_few, edges_there}
use Rattle.arcs.proofs.laws.Load.{short_firsts, short_arcs, enough}
use Rattle.arcs.proofs.load_numbers.Goals as goal

pub overflow_mul-count : goal.overflow_mul-count
overflow_mul-count c =
    omega (arith, nodes_few c.requires c.plan-known.ensures, (edges_there c.requires c.plan-known.ensures).1)

pub overflow_add-count : goal.overflow_add-count
overflow_add-count c =
    omega (arith, nodes_few c.requires c.plan-known.ensures, (edges_there c.requires c.plan-known.ensures).1)

pub returns-then-first-layers : goal.returns-then-first-layers
returns-then-first-layers c =
    let both = short_firsts c.requires c.plan-known.ensures c.args.first.now c.args.arcs.now
    c.if-first-layers.true (ap Err c.new.ensures) in
    record {
      answer = both.0;
      first = both.1.0;
      arcs = both.1.1;
    }

pub overflow_mul-count-2 : goal.overflow_mul-count-2
overflow_mul-count-2 c =
    omega (arith, nodes_few c.requires c.plan-known.ensures, (edges_there c.requires c.plan-known.ensures).1)

pub returns-then-arcs-count : goal.returns-then-arcs-count
returns-then-arcs-count c =
    let both = short_arcs c.requires c.plan-known.ensures c.args.first.now c.args.arcs.now c.if-arcs-count.true
    (ap Err c.new-then-arcs-count.ensures) in
    record {
      answer = both.0;
      first = both.1.0;
      arcs = both.1.1;
    }

pub returns : goal.returns
returns c =
    let both = enough c.requires c.plan-known.ensures c.args.first.now c.args.arcs.now (omega (arith, c.if-first-layers.false))
    (omega (arith, c.if-arcs-count.false)) c.put_firsts.ensures c.fill.ensures in
    record {
      answer = both.0;
      first = both.1.0;
      arcs = both.1.1;
    }
