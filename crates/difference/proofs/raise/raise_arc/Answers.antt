-- `difference::raise::raise_arc` meets its contract: the two constraints put together, or the first that is stuck.
use Rattle.difference.proofs.laws.Steps.{risen_same, stuck_after}
use Rattle.difference.proofs.laws.Passes.{tail_raised, head_raised, arc_raised}
use Rattle.difference.proofs.raise.raise_arc.Goals as goal

pub returns-in_err-first : goal.returns-in_err-first
returns-in_err-first c =
    let first = tail_raised c.requires.ready c.requires.i_lt_count c.part_of-t.ensures.0 c.part_of-h.ensures.0 c.part_of-k.ensures.0
    c.part_of.ensures.0 c.relax.new.values c.relax.result c.relax.ensures in
    stuck_after (risen_same c.requires.ready) first c.in_err-first.was c.from_residual.result c.from_residual.ensures.0

pub returns-in_err-second : goal.returns-in_err-second
returns-in_err-second c =
    let first = tail_raised c.requires.ready c.requires.i_lt_count c.part_of-t.ensures.0 c.part_of-h.ensures.0 c.part_of-k.ensures.0
    c.part_of.ensures.0 c.relax.new.values c.relax.result c.relax.ensures in
    let second = head_raised first.risen.ready c.requires.i_lt_count c.part_of-t.ensures.0 c.part_of-h.ensures.0 c.part_of-k.ensures.0
    c.part_of-2.ensures.0 c.relax-2.new.values c.relax-2.result c.relax-2.ensures in
    stuck_after first.risen second c.in_err-second.was c.from_residual-in_err-second.result c.from_residual-in_err-second.ensures.0

pub returns : goal.returns
returns c =
    let first = tail_raised c.requires.ready c.requires.i_lt_count c.part_of-t.ensures.0 c.part_of-h.ensures.0 c.part_of-k.ensures.0
    c.part_of.ensures.0 c.relax.new.values c.relax.result c.relax.ensures in
    let second = head_raised first.risen.ready c.requires.i_lt_count c.part_of-t.ensures.0 c.part_of-h.ensures.0 c.part_of-k.ensures.0
    c.part_of-2.ensures.0 c.relax-2.new.values c.relax-2.result c.relax-2.ensures in
    arc_raised c.args.i c.in_ok-first.first c.in_ok-second.second (rw c.in_ok-first.was at first) (rw c.in_ok-second.was at second)
