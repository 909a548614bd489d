-- `sheet::formats::put_numbers` meets its contract: the state of each format leads to its grammar.
use Rattle.sheet.specs.Limits.{max_numbers}
use Rattle.sheet.proofs.laws.AwaitedGrammar.{file_same}
use Rattle.sheet.specs.laws.SheetNumbers.{each_sheet}
use Rattle.sheet.proofs.formats.put_numbers.Goals as goal

pub put_numbers-requires-clause-leads : goal.put_numbers-requires-clause-leads
put_numbers-requires-clause-leads c = (max_numbers, each_sheet)

pub put_numbers-requires-in-Coordinates-clause-leads : goal.put_numbers-requires-in-Coordinates-clause-leads
put_numbers-requires-in-Coordinates-clause-leads c = (tt, file_same)
