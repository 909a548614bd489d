-- `report::lines::put_refusal` meets its contract: two words and two numbers.
use mathlib.Core.List.{◌++◌}
use Rattle.leb128.specs.laws.Storing.{puts_then, room_first, room_next}
use Rattle.report.specs.Text.{space, newline, refused_word, at_word, field, refusal_line}
use Rattle.report.proofs.lines.put_refusal.Goals as goal

pub put-behind_refused-requires : goal.put-behind_refused-requires
unfolding refusal_line
put-behind_refused-requires c =
    let offset-field = field c.args.refusal.offset newline in
    let number-field = field c.args.refusal.number space in
    room_first refused_word number-field
    (room_first (refused_word ++ number-field) at_word (room_first (refused_word ++ number-field ++ at_word) offset-field c.requires))

pub put_field-behind_number-requires : goal.put_field-behind_number-requires
unfolding refusal_line
put_field-behind_number-requires c =
    let offset-field = field c.args.refusal.offset newline in
    let number-field = field c.args.refusal.number space in
    rw c.from.ensures
    (room_next number-field c.put-behind_refused.ensures
    (room_first (refused_word ++ number-field) at_word (room_first (refused_word ++ number-field ++ at_word) offset-field c.requires)))

pub put-behind_at-requires : goal.put-behind_at-requires
unfolding refusal_line
put-behind_at-requires c =
    let offset-field = field c.args.refusal.offset newline in
    let number-field = field c.args.refusal.number space in
    room_next at_word (puts_then c.put-behind_refused.ensures (rw c.from.ensures at c.put_field-behind_number.ensures))
    (room_first (refused_word ++ number-field ++ at_word) offset-field c.requires)

pub put_field-requires : goal.put_field-requires
unfolding refusal_line
put_field-requires c =
    let offset-field = field c.args.refusal.offset newline in
    room_next offset-field
    (puts_then (puts_then c.put-behind_refused.ensures (rw c.from.ensures at c.put_field-behind_number.ensures))
    c.put-behind_at.ensures) c.requires

pub returns : goal.returns
unfolding refusal_line
returns c =
    puts_then
    (puts_then (puts_then c.put-behind_refused.ensures (rw c.from.ensures at c.put_field-behind_number.ensures))
    c.put-behind_at.ensures) c.put_field.ensures
