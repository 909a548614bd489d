-- The formats by the names that the code has for them.
use Rattle.std.specs.Prelude.{ℕ, ◌≡◌, true, false, List, length}
use Rattle.leb128.specs.Grammar.{Grammar}
use Rattle.leb128.specs.Format.{Result, walk_bytes, walk_list, reading, writing}
use Rattle.leb128.specs.Format.Result.{elements}
use Rattle.sheet.specs.Limits.{magic_bytes, magic, coordinate_magic}
use Rattle.sheet.specs.Grammar.{sheet}
use Rattle.sheet.specs.Coordinates.{coordinates}
use Rattle.sheet.specs.inside.Cursor.{Measure, measured}
use Rattle.sheet.specs.declared.Format.{Format}
use Rattle.sheet.specs.declared.Format.TheVariants.{Sheet, Coordinates}

-- the bytes that a format starts with
abbrev pub magic_of : Format → List ℕ
magic_of Sheet = magic
magic_of Coordinates = coordinate_magic

-- the grammar of a format
abbrev pub grammar_of : Format → Grammar
grammar_of Sheet = sheet
grammar_of Coordinates = coordinates

-- where a walk along a format's bytes ends, and how many numbers it finds
abbrev pub measured_bytes : Format → List ℕ → Measure
measured_bytes format bytes = measured true 0 (grammar_of format) (walk_bytes (magic_of format) (grammar_of format) bytes)

-- where a walk along a number list ends, and how many bytes its numbers take behind the magic
abbrev pub measured_list : Format → List ℕ → Measure
measured_list format numbers = measured false magic_bytes (grammar_of format) (walk_list (grammar_of format) numbers)

-- what reading a format's bytes gives
abbrev pub read_format : Format → List ℕ → Result
read_format format bytes = reading (magic_of format) (grammar_of format) bytes

-- what writing a number list in a format gives
abbrev pub write_format : Format → List ℕ → Result
write_format format numbers = writing (magic_of format) (grammar_of format) numbers

-- the bytes are good in a format, and hold count numbers
pub record FormatBytes (format : Format) (bytes : List ℕ) (count : ℕ) : Type 0 where
  pub numbers : List ℕ
  pub reads : read_format format bytes ≡ elements numbers
  pub counted : count ≡ length numbers
