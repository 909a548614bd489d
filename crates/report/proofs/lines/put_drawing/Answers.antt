-- `report::lines::put_drawing` meets its contract: the total, and the nodes behind it.
use Rattle.leb128.specs.laws.Storing.{puts_then, room_first, room_next}
use Rattle.drawing.specs.Sheet.{sheet_of}
use Rattle.report.specs.Text.{total_line, layers_lines, drawing_lines}
use Rattle.report.proofs.lines.put_drawing.Goals as goal

pub put_total-at-requires : goal.put_total-at-requires
unfolding drawing_lines
put_total-at-requires c =
    room_first (total_line c.args.total)
    (layers_lines c.args.places.now 1 (sheet_of c.args.numbers.now).layers) c.requires.room

pub put_nodes-requires : goal.put_nodes-requires
unfolding drawing_lines
put_nodes-requires c =
    record {
      laid_out = c.requires.laid_out;
      numbers_in_bounds = c.requires.numbers_in_bounds;
      room = room_next (layers_lines c.args.places.now 1 (sheet_of c.args.numbers.now).layers)
          c.put_total-at.ensures c.requires.room;
    }

pub returns : goal.returns
unfolding drawing_lines
returns c = puts_then c.put_total-at.ensures c.put_nodes.ensures
