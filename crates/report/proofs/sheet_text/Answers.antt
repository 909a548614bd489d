-- `report::sheet_text` meets its contract: a node without a place, or a text that fits the room and is delivered.
use Rattle.leb128.specs.Format.{answered, filled}
use lib.ListN.{length}
use mathlib.Core.Path.{◌∙◌, sym, ap}
use native.Mathlib.Omega.{arith}
use Rattle.std.specs.Prelude.{Err}
use Rattle.report.proofs.laws.Nodes.{some_before, none_before}
use Rattle.report.proofs.laws.Texts.{drawing_room, made_inside, made_count, made_answer, made_slice, text_is, text_short, refused_answer, refused_slice}
use Rattle.report.proofs.sheet_text.Goals as goal

pub returns-then-is_some : goal.returns-then-is_some
returns-then-is_some c =
    let e =
    text_short c.args.numbers.now c.args.places.now c.args.total
    (some_before c.args.numbers.now (length c.args.places.now) c.locate.result c.locate.ensures (sym c.is_some.ensures ∙ c.if-is_some.true)) in
    record {
      answer = refused_answer e _ (ap Err c.new.ensures);
      slice = refused_slice e _;
    }

pub put_drawing-count-requires : goal.put_drawing-count-requires
put_drawing-count-requires c =
    record {
      laid_out = c.requires;
      numbers_in_bounds = none_before c.args.numbers.now (length c.args.places.now) c.locate.result c.locate.ensures (sym c.is_some.ensures ∙ c.if-is_some.false);
      room = (drawing_room _ c.args.numbers.now c.args.places.now c.args.total (omega arith) c.requires
          (λ v. omega (arith, c.type_inv.places v)) (omega arith));
    }

pub slice_bounds-room-end : goal.slice_bounds-room-end
slice_bounds-room-end c =
    let h =
    made_inside
    (drawing_room _ c.args.numbers.now c.args.places.now c.args.total (omega arith) c.requires
    (λ v. omega (arith, c.type_inv.places v)) (omega arith))
    c.put_drawing-count.ensures in
    omega arith

pub slice_bounds-deliver-end : goal.slice_bounds-deliver-end
slice_bounds-deliver-end c =
    made_count
    (drawing_room _ c.args.numbers.now c.args.places.now c.args.total (omega arith) c.requires
    (λ v. omega (arith, c.type_inv.places v)) (omega arith))
    c.put_drawing-count.ensures

pub returns : goal.returns
returns c =
    let e =
    text_is c.args.numbers.now c.args.places.now c.args.total
    (none_before c.args.numbers.now (length c.args.places.now) c.locate.result c.locate.ensures (sym c.is_some.ensures ∙ c.if-is_some.false)) in
    let room =
    (drawing_room _ c.args.numbers.now c.args.places.now c.args.total (omega arith) c.requires
    (λ v. omega (arith, c.type_inv.places v)) (omega arith)) in
    record {
      answer = made_answer room c.put_drawing-count.ensures _ c.deliver.ensures.answer ∙ sym (ap (answered _) e);
      slice = made_slice room c.put_drawing-count.ensures _ c.deliver.ensures.slice ∙ sym
          (ap (λ k. filled k c.args.text.now) e);
    }
