-- `sheet::writer::put` meets its contract: the number has its form and its room, so it is written.
use Rattle.sheet.proofs.laws.Putting.{put_next_answer, put_done}
use Rattle.sheet.proofs.writer.put.Goals as goal

pub unwrap-requires : goal.unwrap-requires
unwrap-requires c =
    rw
    (put_next_answer c.args.bytes.now c.args.at c.args.n c.requires.n_lt_number_limit c.requires.room
    c.write_number.ensures.answer)

pub returns : goal.returns
returns c =
    put_done c.args.bytes.now c.args.at c.args.n c.requires.n_lt_number_limit c.requires.room
    c.unwrap.ensures (c.write_number.ensures.answer, c.write_number.ensures.slice)
