-- `report::lines::put_node` meets its contract: three numbers, one behind the other. What is stored comes first, so that an edit of it is
-- refused for that and not for the room.
use mathlib.Core.List.{◌++◌}
use Rattle.leb128.specs.laws.Storing.{puts_then, room_first, room_next}
use Rattle.report.specs.Text.{space, newline, field, node_line}
use Rattle.report.proofs.lines.put_node.Goals as goal

pub returns : goal.returns
unfolding node_line
returns c =
    puts_then (puts_then c.put_field-behind_layer.ensures c.put_field-behind_position.ensures)
    (rw c.from.ensures at c.put_field.ensures)

pub put_field-behind_layer-requires : goal.put_field-behind_layer-requires
unfolding node_line
put_field-behind_layer-requires c =
    let place-field = field c.args.place newline in
    let position-field = field c.args.node.position space in
    let layer-field = field c.args.node.layer space in
    room_first layer-field position-field
    (room_first (layer-field ++ position-field) place-field c.requires)

pub put_field-behind_position-requires : goal.put_field-behind_position-requires
unfolding node_line
put_field-behind_position-requires c =
    let place-field = field c.args.place newline in
    let position-field = field c.args.node.position space in
    let layer-field = field c.args.node.layer space in
    room_next position-field c.put_field-behind_layer.ensures
    (room_first (layer-field ++ position-field) place-field c.requires)

pub put_field-requires : goal.put_field-requires
unfolding node_line
put_field-requires c =
    let place-field = field c.args.place newline in
    rw c.from.ensures
    (room_next place-field (puts_then c.put_field-behind_layer.ensures c.put_field-behind_position.ensures) c.requires)
