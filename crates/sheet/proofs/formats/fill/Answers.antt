-- `sheet::formats::fill` meets its contract: the state of each format leads to its grammar.
use Rattle.sheet.specs.Limits.{max_numbers}
use Rattle.sheet.proofs.laws.AwaitedGrammar.{file_same}
use Rattle.sheet.specs.laws.SheetNumbers.{each_sheet}
use Rattle.sheet.proofs.formats.fill.Goals as goal

pub fill-requires-clause-leads : goal.fill-requires-clause-leads
fill-requires-clause-leads c = (max_numbers, each_sheet)

pub fill-requires-in-Coordinates-clause-leads : goal.fill-requires-in-Coordinates-clause-leads
fill-requires-in-Coordinates-clause-leads c = (tt, file_same)
