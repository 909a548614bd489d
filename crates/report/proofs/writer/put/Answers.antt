-- `report::writer::put` meets its contract: the text is copied.
use Rattle.report.proofs.laws.Fields.{copied}
use Rattle.report.proofs.writer.put.Goals as goal

pub returns : goal.returns
returns c = copied c.requires c.copy_from_slice.ensures.after
