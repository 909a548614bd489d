-- What holds of coordinate files, by the laws of any format at their magic and grammar: one to one, the bounds, the first
-- bytes, the offsets and the refusals of writer and reader; and no bytes are both a sheet and a coordinate file.
use Rattle.std.specs.Prelude.{ℕ, zero, suc, ◌+◌, ◌-◌, ◌≤◌, min, ◌≡◌, refl, false, List, ◌++◌, length, take}
use Rattle.std.proofs.Common.{arith, le-ltb}
use Rattle.leb128.specs.Refusals.{other_magic}
use Rattle.leb128.specs.Grammar.{Form, Grammar, Rule, within, Accepts}
use Rattle.leb128.specs.Source.{Source, refusal}
use Rattle.leb128.specs.Walk.{asked}
use Rattle.leb128.specs.Format.{Result, Outcome, encoded, same, walk_bytes, complete, made, reading, answered}
use Rattle.leb128.specs.Format.Result.{elements}
use Rattle.leb128.specs.Number.{AreBytes}
use Rattle.leb128.specs.laws.EachNumber.{Each, first, each_more, each_map, within_limits, most_asked as format-most-asked}
use Rattle.leb128.specs.laws.EachNumber.Each.{end}
use Rattle.leb128.specs.laws.AcceptedNumbers.{chain_accepts, most_numbers as accepted-most}
use Rattle.leb128.specs.laws.GoodFormat.{good_reading, good_writing}
use Rattle.leb128.specs.laws.OneToOne.{Fits, accepted_written as format-accepted-written, read_written as format-read-written}
use Rattle.leb128.specs.laws.OneToOne.{write_read as format-write-read}
use Rattle.leb128.specs.laws.Offsets.{reader_offsets as format-reader-offsets, writer_offsets as format-writer-offsets}
use Rattle.leb128.specs.laws.FirstBytes.{front_reading, most_bytes as format-most-bytes}
use Rattle.leb128.specs.laws.RefusalsGiven.{Gives, within_gives, gives_more, reader_gives, writer_gives}
use Rattle.leb128.specs.declared.Refusal.{Refusal}
use Rattle.sheet.specs.Limits.{magic, max_layers, max_layer_nodes, max_nodes}
use Rattle.sheet.specs.Limits.{coordinate_magic, max_coordinate, max_coordinate_numbers, max_coordinate_bytes}
use Rattle.sheet.specs.Grammar.{sheet}
use Rattle.sheet.specs.Coordinates.{right_nodes, layer_coordinates, coordinates}
use Rattle.sheet.specs.Reading.{read_sheet, read_coordinates, write_coordinates}
use Rattle.sheet.specs.Refusals.{Outside, ReaderRefusal, WriterRefusal}

-- what holds of each number of a coordinate file: its form can hold it, and it meets refusal 4 only
record CoordinateNumber (form : Form) (rule : Rule) : Type 0 where
  pub fits : Fits form rule
  pub gives : Gives Outside form rule

-- a number above a base, within limits
ranged : (base low high : ℕ) → base ≤ low → high ≤ max_coordinate → CoordinateNumber (Form.above base) (within low high)
ranged base low high b h =
    record {
      fits = λ n ok. (omega (arith, within_limits low high n ok), omega (arith, within_limits low high n ok));
      gives = within_gives Outside refl (Form.above base) low high;
    }

-- n nodes right of another
each_right : (n left m : ℕ) {next : Grammar} → Each CoordinateNumber m next → Each CoordinateNumber (n + m) (right_nodes n left next)
unfolding right_nodes
each_right zero left m s = each_more (omega arith) s
each_right (suc n) left m s =
    first (omega arith) (ranged left (left + 1) max_coordinate (omega arith) (omega arith)) λ place ok.
    each_more (omega arith) (each_right n place m s)

-- n layers of at most room nodes have a number for each layer and for each node
each_layers : (n room bound : ℕ) → n + room ≤ bound → Each CoordinateNumber bound (layer_coordinates n room)
unfolding layer_coordinates
each_layers zero room bound h = end
each_layers (suc n) room bound h =
    first (omega arith) (ranged 0 1 (min max_layer_nodes room) (omega arith) (omega arith)) λ nodes ok.
    let l = within_limits 1 (min max_layer_nodes room) nodes ok in
    first (omega (arith, l)) (ranged 0 0 max_coordinate (omega arith) (omega arith)) λ place fine.
    each_more (omega (arith, l))
    (each_right (nodes - 1) place (n + (room - nodes)) (each_layers n (room - nodes) (n + (room - nodes)) (omega arith)))

-- the coordinate file
each_coordinates : Each CoordinateNumber max_coordinate_numbers coordinates
unfolding coordinates
each_coordinates =
    first (omega arith) (ranged 0 1 max_layers (omega arith) (omega arith)) λ n ok.
    each_layers n max_nodes (max_coordinate_numbers - 1) (omega (arith, within_limits 1 max_layers n ok))

-- the number lists that are written are those that the grammar accepts: the good ones
pub accepted_written : (numbers : List ℕ) → Accepts coordinates numbers
    → write_coordinates numbers ≡ elements (coordinate_magic ++ encoded coordinates numbers)
unfolding write_coordinates
accepted_written = format-accepted-written coordinate_magic coordinates

-- a list that is written is good
pub written_accepted : (numbers bytes : List ℕ) → write_coordinates numbers ≡ elements bytes → Accepts coordinates numbers
unfolding write_coordinates
written_accepted numbers bytes e = (good_writing coordinate_magic coordinates numbers bytes e).0

-- numbers that are read are a good list
pub read_accepted : (bytes numbers : List ℕ) → read_coordinates bytes ≡ elements numbers → Accepts coordinates numbers
unfolding read_coordinates
read_accepted bytes numbers e = chain_accepts (good_reading coordinate_magic coordinates bytes numbers e).good.chain

-- one to one: every list that is written is read back as itself
pub read_written : (numbers bytes : List ℕ) → write_coordinates numbers ≡ elements bytes
    → read_coordinates bytes ≡ elements numbers
unfolding read_coordinates write_coordinates
read_written = format-read-written coordinate_magic coordinates (each_map (λ form rule p. p.fits) each_coordinates)

-- one to one: every byte string that is read is written again with the same bytes
pub write_read : (bytes numbers : List ℕ) → AreBytes bytes → read_coordinates bytes ≡ elements numbers
    → write_coordinates numbers ≡ elements bytes
unfolding read_coordinates write_coordinates
write_read = format-write-read coordinate_magic coordinates

-- a walk over any source asks for at most 321 numbers, refused or not
pub most_asked : (source : Source) (at : ℕ) → asked coordinates source at ≤ max_coordinate_numbers
most_asked = format-most-asked each_coordinates

-- a good file has at most 321 numbers
pub most_numbers : (numbers : List ℕ) → Accepts coordinates numbers → length numbers ≤ max_coordinate_numbers
most_numbers numbers = accepted-most each_coordinates

-- a good file has at most 645 bytes
pub most_bytes : (bytes numbers : List ℕ) → read_coordinates bytes ≡ elements numbers → length bytes ≤ max_coordinate_bytes
unfolding read_coordinates
most_bytes = format-most-bytes coordinate_magic each_coordinates

-- reading depends on the first 646 bytes only
pub first_bytes : (bytes : List ℕ) → read_coordinates (take (max_coordinate_bytes + 1) bytes) ≡ read_coordinates bytes
unfolding read_coordinates
first_bytes = front_reading coordinate_magic each_coordinates

-- the rules of a file's numbers give refusals of P, where refusal 4 is one
number_rules : (P : ℕ → Type 0) → ((n : ℕ) → Outside n → P n) → Each (Gives P) max_coordinate_numbers coordinates
number_rules P f = each_map (λ form rule p. gives_more f form rule p.gives) each_coordinates

-- the reader gives refusals 1, 2, 3, 4 and 6 only
pub reader_refusals : (bytes : List ℕ) (r : Refusal) → read_coordinates bytes ≡ Result.refused r → ReaderRefusal Outside r.number
unfolding read_coordinates
reader_refusals =
    reader_gives (ReaderRefusal Outside) ReaderRefusal.ended ReaderRefusal.follows ReaderRefusal.other ReaderRefusal.form
    (number_rules (ReaderRefusal Outside) (λ n w. ReaderRefusal.number w)) coordinate_magic

-- the writer gives refusals 1, 4, 6 and 7 only
pub writer_refusals : (numbers : List ℕ) (room : ℕ) (r : Refusal)
    → answered room (write_coordinates numbers) ≡ Outcome.refused r → WriterRefusal Outside r.number
unfolding write_coordinates
writer_refusals =
    writer_gives (WriterRefusal Outside) WriterRefusal.ended WriterRefusal.follows WriterRefusal.short
    (number_rules (WriterRefusal Outside) (λ n w. WriterRefusal.number w)) coordinate_magic

-- the reader refuses at an offset of at most 645
pub reader_offsets : (bytes : List ℕ) (r : Refusal) → read_coordinates bytes ≡ Result.refused r → r.offset ≤ max_coordinate_bytes
unfolding read_coordinates
reader_offsets = format-reader-offsets each_coordinates coordinate_magic

-- the writer refuses at an index of at most 321
pub writer_offsets : (numbers : List ℕ) (r : Refusal) → write_coordinates numbers ≡ Result.refused r
    → r.offset ≤ max_coordinate_numbers
unfolding write_coordinates
writer_offsets = format-writer-offsets each_coordinates coordinate_magic

-- bytes with another magic of the same length are refused 2
other_opening : (one other : List ℕ) (grammar : Grammar) (bytes : List ℕ) → length other ≡ length one
    → length one ≤ length bytes → take (length one) bytes ≡ one → same one other ≡ false
    → reading other grammar bytes ≡ Result.refused (refusal other_magic 0)
unfolding reading walk_bytes complete made
other_opening one other grammar bytes size long opens differ =
    rw (size, le-ltb (length bytes) (length one) long, opens, differ)

-- a good sheet is no coordinate file
pub sheet_refused : (bytes numbers : List ℕ) → read_sheet bytes ≡ elements numbers
    → read_coordinates bytes ≡ Result.refused (refusal other_magic 0)
unfolding read_sheet read_coordinates same
sheet_refused bytes numbers e =
    let g = (good_reading magic sheet bytes numbers e).good in
    other_opening magic coordinate_magic coordinates bytes refl g.long g.opens refl

-- and a good coordinate file is no sheet
pub file_refused : (bytes numbers : List ℕ) → read_coordinates bytes ≡ elements numbers
    → read_sheet bytes ≡ Result.refused (refusal other_magic 0)
unfolding read_sheet read_coordinates same
file_refused bytes numbers e =
    let g = (good_reading coordinate_magic coordinates bytes numbers e).good in
    other_opening coordinate_magic magic sheet bytes refl g.long g.opens refl
