-- `report::lines::put_total` meets its contract: the word and the number.
use Rattle.leb128.specs.laws.Storing.{puts_then, room_first, room_next}
use Rattle.report.specs.Text.{total_word, newline, field, total_line}
use Rattle.report.proofs.lines.put_total.Goals as goal

pub put-at-requires : goal.put-at-requires
unfolding total_line
put-at-requires c = room_first total_word (field c.args.total newline) c.requires

pub put_field-requires : goal.put_field-requires
unfolding total_line
put_field-requires c = rw c.from.ensures (room_next (field c.args.total newline) c.put-at.ensures c.requires)

pub returns : goal.returns
unfolding total_line
returns c = puts_then c.put-at.ensures (rw c.from.ensures at c.put_field.ensures)
