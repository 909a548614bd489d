-- `sheet::passes::put_numbers` meets its contract: the loop's invariant is `PutOn`.
use Prim.Native.Nat.{ℕ}
use mathlib.Core.Path.{sym, subst}
use Rattle.sheet.proofs.laws.Putting.{put_end}
use Rattle.sheet.proofs.laws.Passes.{put_start, put_fits, put_reached, put_form, put_has_room, put_on}
use Rattle.sheet.proofs.passes.put_numbers.Goals as goal

pub loop-number-init : goal.loop-number-init
loop-number-init g c =
    put_start g.O.Order.Leads _ _ c.requires.accepts c.requires.leads

pub overflow_sub-n : goal.overflow_sub-n
overflow_sub-n g c =
    rw c.from-n.ensures
    (put_reached g.met.O.Order.goes c.loop-number.invariant c.loop-number-test.true c.base-base.ensures)

pub put-at-requires : goal.put-at-requires
put-at-requires g c =
    rw c.from-n.ensures
    (record {
      n_lt_number_limit = put_form g.met.O.Order.goes c.loop-number.invariant c.loop-number-test.true c.base-base.ensures;
      room = put_has_room g.met.O.Order.goes c.loop-number.invariant c.loop-number-test.true c.base-base.ensures c.requires.room;
    })

pub behind-s-requires : goal.behind-s-requires
behind-s-requires g c =
    let P : ℕ → Type 0 = g.O.Order.Fits c.loop-number.s in
    subst P (sym c.from-n.ensures) (put_fits g.met.O.Order.goes c.loop-number.invariant c.loop-number-test.true)

pub loop-number-preserved : goal.loop-number-preserved
loop-number-preserved g c =
    rw (c.behind-s.ensures, c.from-n.ensures)
    (put_on g.met.O.Order.goes c.loop-number.invariant c.loop-number-test.true c.base-base.ensures
    (rw c.from-n.ensures at c.put-at.ensures))

pub returns : goal.returns
returns g c =
    put_end c.loop-number.invariant.left c.loop-number-test.false
