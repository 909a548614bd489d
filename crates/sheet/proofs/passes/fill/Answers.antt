-- `sheet::passes::fill` meets its contract: the loop's invariant is `FillOn`.
use mathlib.Core.Path.{refl}
use native.Mathlib.Omega.{arith}
use Rattle.sheet.proofs.laws.FillingNumbers.{fill_end}
use Rattle.sheet.proofs.laws.Passes.{fill_start, fill_base, fill_is_found, fill_small, fill_fits, fill_on}
use Rattle.sheet.proofs.passes.fill.Goals as goal

pub loop-number-init : goal.loop-number-init
loop-number-init g c =
    fill_start g.O.Order.Leads _ _ c.requires.format_bytes c.requires.leads

pub number_above-requires : goal.number_above-requires
number_above-requires g c =
    omega (arith, fill_base g.met.O.Order.goes c.loop-number.invariant c.loop-number-test.true c.base-base.ensures)

pub unwrap-n-requires : goal.unwrap-n-requires
unwrap-n-requires g c =
    fill_is_found g.met.O.Order.goes c.loop-number.invariant c.loop-number-test.true c.base-base.ensures c.number_above.result
    c.number_above.ensures

pub overflow_cast-number : goal.overflow_cast-number
overflow_cast-number g c =
    omega (
      arith,
      fill_small g.met.O.Order.goes c.loop-number.invariant c.loop-number-test.true c.base-base.ensures c.number_above.result
          c.number_above.ensures c.unwrap-n.ensures,
    )

pub behind-s-requires : goal.behind-s-requires
behind-s-requires g c =
    fill_fits g.met.O.Order.goes c.loop-number.invariant c.loop-number-test.true c.base-base.ensures c.number_above.result
    c.number_above.ensures c.unwrap-n.ensures

pub loop-number-preserved : goal.loop-number-preserved
loop-number-preserved g c =
    rw c.behind-s.ensures
    (fill_on g.met.O.Order.goes c.loop-number.invariant c.loop-number-test.true c.base-base.ensures c.number_above.result
    c.number_above.ensures c.unwrap-n.ensures)

pub returns : goal.returns
returns g c =
    fill_end c.loop-number.invariant.left c.loop-number-test.false refl
