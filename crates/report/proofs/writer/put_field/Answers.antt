-- `report::writer::put_field` meets its contract: the digits, and the character behind them.
use Rattle.report.proofs.laws.Fields.{digits_room, stop_room, field_stored}
use Rattle.report.proofs.writer.put_field.Goals as goal

pub put-next-requires : goal.put-next-requires
put-next-requires c =
    digits_room c.args.n c.decimal-count.result _ c.decimal-count.ensures.len c.decimal-count.ensures.digits
    c.args.stop c.requires

pub bounds-text-next : goal.bounds-text-next
bounds-text-next c =
    stop_room c.args.n c.decimal-count.result _ c.decimal-count.ensures.len c.decimal-count.ensures.digits
    c.args.stop c.put-next.ensures c.requires

pub returns : goal.returns
returns c =
    field_stored c.args.n c.decimal-count.result _ c.decimal-count.ensures.len c.decimal-count.ensures.digits
    c.args.stop c.put-next.ensures
