-- `checker::rules::balances` meets its contract: the loop's invariant is `Counted`.
use mathlib.Core.Path.{◌≡◌}
use native.Mathlib.Omega.{arith}
use Rattle.checker.proofs.laws.Balances.{count_begin, count_next}
use Rattle.checker.proofs.rules.balances.Goals as goal

pub loop-i-init : goal.loop-i-init
loop-i-init c = count_begin _ _ _ _ c.requires.within

pub bring-requires : goal.bring-requires
bring-requires c =
    record {
      has_arc = c.requires.table.arcs c.loop-i.i (omega arith);
      i_in_bounds = omega arith;
      within = λ u l. omega (arith, c.loop-i.invariant.small u l, c.loop-i.invariant.turns, c.requires.table.few);
    }

pub loop-i-preserved : goal.loop-i-preserved
loop-i-preserved c = count_next c.loop-i.invariant (omega arith) c.bring.ensures

pub shape_of-balance : goal.shape_of-balance
shape_of-balance c = c.loop-i.invariant.balanced.size

pub returns : goal.returns
returns c =
    let e : c.loop-i.i ≡ c.args.n = omega (arith, c.loop-i.invariant.turns) in
    rw e at c.loop-i.invariant.balanced
