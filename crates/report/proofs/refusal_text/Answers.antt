-- `report::refusal_text` meets its contract: the text fits the room, and is delivered.
use Rattle.report.specs.Text.{refusal_text}
use native.Mathlib.Omega.{arith}
use Rattle.report.proofs.laws.Texts.{refusal_room, made_inside, made_count, made_answer, made_slice}
use Rattle.report.proofs.refusal_text.Goals as goal

pub put_refusal-count-requires : goal.put_refusal-count-requires
put_refusal-count-requires c =
    (refusal_room _ c.args.refusal (omega arith) (omega arith) (omega arith))

pub slice_bounds-room-end : goal.slice_bounds-room-end
slice_bounds-room-end c =
    let h =
    made_inside
    (refusal_room _ c.args.refusal (omega arith) (omega arith) (omega arith))
    c.put_refusal-count.ensures in
    omega arith

pub slice_bounds-deliver-end : goal.slice_bounds-deliver-end
slice_bounds-deliver-end c =
    made_count (refusal_room _ c.args.refusal (omega arith) (omega arith) (omega arith)) c.put_refusal-count.ensures

pub returns : goal.returns
unfolding refusal_text
returns c =
    let room =
    (refusal_room _ c.args.refusal (omega arith) (omega arith) (omega arith)) in
    record {
      answer = made_answer room c.put_refusal-count.ensures _ c.deliver.ensures.answer;
      slice = made_slice room c.put_refusal-count.ensures _ c.deliver.ensures.slice;
    }
