-- `circulation::input::rooted` meets its contract: the nodes before v hang.
use borrow.Author.Count.{below_more}
use native.Mathlib.Omega.{arith}
use Rattle.circulation.proofs.input.rooted.Goals as goal

pub returns-in_default : goal.returns-in_default
returns-in_default c =
    λ r. let h = r.hangs c.loop-v.v (omega arith) in
    c.in_default.ensures h.arc (omega arith) h.arc_in h.by

pub loop-v-preserved : goal.loop-v-preserved
loop-v-preserved c =
    below_more _ _ c.loop-v.invariant
    (record { arc = c.in-Some.i; arc_in = c.in-Some.ensures.0; by = c.in-Some.ensures.1 })
