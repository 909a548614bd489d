-- Reading and writing a sheet, and a coordinate file: the format of numbers with its magic and its grammar.
use Rattle.std.specs.Prelude.{ℕ, List}
use Rattle.leb128.specs.Format.{Result, reading, writing}
use Rattle.sheet.specs.Limits.{magic, coordinate_magic}
use Rattle.sheet.specs.Grammar.{sheet}
use Rattle.sheet.specs.Coordinates.{coordinates}

-- what reading a sheet's bytes gives: its numbers, or the refusal
unfoldable pub read_sheet : List ℕ → Result
read_sheet bytes = reading magic sheet bytes

-- what writing a number list gives: the sheet's bytes, or the refusal
unfoldable pub write_sheet : List ℕ → Result
write_sheet numbers = writing magic sheet numbers

-- what reading a coordinate file's bytes gives: its numbers, or the refusal
unfoldable pub read_coordinates : List ℕ → Result
read_coordinates bytes = reading coordinate_magic coordinates bytes

-- what writing such a list gives: the file's bytes, or the refusal
unfoldable pub write_coordinates : List ℕ → Result
write_coordinates numbers = writing coordinate_magic coordinates numbers
