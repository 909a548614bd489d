-- What holds of sheets, by the laws of any format at the sheet's magic and grammar: one to one, the bounds, the first
-- bytes, the offsets and the refusals of writer and reader.
use Rattle.std.specs.Prelude.{ℕ, ◌+◌, ◌≤◌, ◌≡◌, List, ◌++◌, length, take}
use Rattle.std.proofs.Common.{sym, ◌∙◌, ap, arith}
use Rattle.leb128.specs.Grammar.{Form, Rule, Accepts}
use Rattle.leb128.specs.Source.{Source}
use Rattle.leb128.specs.Walk.{asked}
use Rattle.leb128.specs.Format.{Result, Outcome, encoded, answered}
use Rattle.leb128.specs.Format.Result.{elements}
use Rattle.leb128.specs.Number.{AreBytes}
use Rattle.leb128.specs.Refusals.{something_follows}
use Rattle.leb128.specs.laws.EachNumber.{Each, each_map, most_asked as format-most-asked}
use Rattle.leb128.specs.laws.AcceptedNumbers.{chain_accepts, most_numbers as accepted-most}
use Rattle.leb128.specs.laws.GoodFormat.{good_reading, good_writing}
use Rattle.leb128.specs.laws.OneToOne.{Fits, accepted_written as format-accepted-written, read_written as format-read-written}
use Rattle.leb128.specs.laws.OneToOne.{write_read as format-write-read}
use Rattle.leb128.specs.laws.Offsets.{reader_offsets as format-reader-offsets, writer_offsets as format-writer-offsets}
use Rattle.leb128.specs.laws.FirstBytes.{front_reading, most_bytes as format-most-bytes}
use Rattle.leb128.specs.laws.RefusalsGiven.{Gives, gives_more, reader_gives, writer_gives}
use Rattle.leb128.specs.declared.Refusal.{Refusal}
use Rattle.sheet.specs.Limits.{magic, max_numbers, max_bytes}
use Rattle.sheet.specs.Grammar.{sheet}
use Rattle.sheet.specs.Reading.{read_sheet, write_sheet}
use Rattle.sheet.specs.laws.SheetNumbers.{SheetNumber, each_sheet}
use Rattle.sheet.specs.Refusals.{NumberRefusal, WriterRefusal, NumberTo, RefusalTo}
use Rattle.sheet.specs.Refusals.WriterRefusal.{ended, number, follows, short}
use Rattle.sheet.specs.laws.LaidOut.{laid_out}
use Rattle.sheet.specs.laws.Refusals.{number_given}
use Rattle.sheet.specs.Layout.{LaidOut}

-- the form holds each number
fits : (form : Form) (rule : Rule) → SheetNumber form rule → Fits form rule
fits form rule p n ok = rw p.is_plain (omega arith, omega (arith, p.small n ok))

-- the number lists that are written are those that the grammar accepts: the good ones
pub accepted_written : (numbers : List ℕ) → Accepts sheet numbers
    → write_sheet numbers ≡ elements (magic ++ encoded sheet numbers)
unfolding write_sheet
accepted_written = format-accepted-written magic sheet

-- a list that is written is good
pub written_accepted : (numbers bytes : List ℕ) → write_sheet numbers ≡ elements bytes → Accepts sheet numbers
unfolding write_sheet
written_accepted numbers bytes e = (good_writing magic sheet numbers bytes e).0

-- numbers that are read are a good list
pub read_accepted : (bytes numbers : List ℕ) → read_sheet bytes ≡ elements numbers → Accepts sheet numbers
unfolding read_sheet
read_accepted bytes numbers e = chain_accepts (good_reading magic sheet bytes numbers e).good.chain

-- one to one: every list that is written is read back as itself
pub read_written : (numbers bytes : List ℕ) → write_sheet numbers ≡ elements bytes
    → read_sheet bytes ≡ elements numbers
unfolding read_sheet write_sheet
read_written = format-read-written magic sheet (each_map fits each_sheet)

-- one to one: every byte string that is read is written again with the same bytes
pub write_read : (bytes numbers : List ℕ) → AreBytes bytes → read_sheet bytes ≡ elements numbers
    → write_sheet numbers ≡ elements bytes
unfolding read_sheet write_sheet
write_read = format-write-read magic sheet

-- a walk over any source asks for at most 2,559 numbers, refused or not
pub most_asked : (source : Source) (at : ℕ) → asked sheet source at ≤ max_numbers
most_asked = format-most-asked each_sheet

-- a good sheet has at most 2,559 numbers
pub most_numbers : (numbers : List ℕ) → Accepts sheet numbers → length numbers ≤ max_numbers
most_numbers numbers = accepted-most each_sheet

-- a good sheet has at most 256 nodes and 512 edges, and its numbers stand where the layout says
pub good_layout : (numbers : List ℕ) → Accepts sheet numbers → LaidOut numbers
good_layout = laid_out

-- a good sheet has at most 5,121 bytes
pub most_bytes : (bytes numbers : List ℕ) → read_sheet bytes ≡ elements numbers → length bytes ≤ max_bytes
unfolding read_sheet
most_bytes = format-most-bytes magic each_sheet

-- reading depends on the first 5,122 bytes only
pub first_bytes : (bytes : List ℕ) → read_sheet (take (max_bytes + 1) bytes) ≡ read_sheet bytes
unfolding read_sheet
first_bytes = front_reading magic each_sheet

-- so bytes that agree on them are read alike, and so is whatever starts with reading
pub read_alike : (one other : List ℕ) → take (max_bytes + 1) one ≡ take (max_bytes + 1) other
    → read_sheet one ≡ read_sheet other
read_alike one other e = sym (first_bytes one) ∙ (ap read_sheet e ∙ first_bytes other)

-- the rules of a sheet's numbers give refusals of P, where those of a number are
number_rules : (P : ℕ → Type 0) → ((n : ℕ) → NumberRefusal n → P n) → Each (Gives P) max_numbers sheet
number_rules P f = each_map (λ form rule p. gives_more f form rule p.gives) each_sheet

-- the writer gives refusals 1, 4, 5, 6 and 7 only
pub writer_refusals : (numbers : List ℕ) (room : ℕ) (r : Refusal)
    → answered room (write_sheet numbers) ≡ Outcome.refused r → WriterRefusal NumberRefusal r.number
unfolding write_sheet
writer_refusals =
    writer_gives (WriterRefusal NumberRefusal) ended follows short (number_rules (WriterRefusal NumberRefusal) (λ n r. number r)) magic

-- those of the reader are from 1 to 6
reader_numbers : (bytes : List ℕ) (r : Refusal) → read_sheet bytes ≡ Result.refused r → NumberTo something_follows r.number
unfolding read_sheet
reader_numbers =
    reader_gives (NumberTo something_follows)
    (omega arith, omega arith) (omega arith, omega arith) (omega arith, omega arith) (omega arith, omega arith)
    (number_rules (NumberTo something_follows) number_given) magic

-- at an offset of at most 5,121
reader_offsets : (bytes : List ℕ) (r : Refusal) → read_sheet bytes ≡ Result.refused r → r.offset ≤ max_bytes
unfolding read_sheet
reader_offsets = format-reader-offsets each_sheet magic

-- the refusals of reading
pub reader_refusals : (bytes : List ℕ) (r : Refusal) → read_sheet bytes ≡ Result.refused r → RefusalTo something_follows r
reader_refusals bytes r e = record { number_in = reader_numbers bytes r e; offset_in = reader_offsets bytes r e }

-- the writer refuses at an index of at most 2,559
pub writer_offsets : (numbers : List ℕ) (r : Refusal) → write_sheet numbers ≡ Result.refused r → r.offset ≤ max_numbers
unfolding write_sheet
writer_offsets = format-writer-offsets each_sheet magic
