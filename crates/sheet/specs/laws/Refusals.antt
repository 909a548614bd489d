-- The numbers of the refusals: a reader's are from 1 to 6 and a writer's from 1 to 7, where those that its numbers meet are from 1 to 6.
use Rattle.std.specs.Prelude.{ℕ}
use Rattle.std.proofs.Common.{arith}
use Rattle.leb128.specs.Refusals.{something_follows, slice_short}
use Rattle.sheet.specs.Refusals.{NumberRefusal, Outside, ReaderRefusal, WriterRefusal, NumberTo}
use Rattle.sheet.specs.Refusals.NumberRefusal.{outside, apart}

-- those of a sheet's number are 4 and 5
pub number_given : (n : ℕ) → NumberRefusal n → NumberTo something_follows n
number_given n outside = (omega arith, omega arith)
number_given n apart = (omega arith, omega arith)

-- that of a coordinate file's number is 4
pub outside_given : (n : ℕ) → Outside n → NumberTo something_follows n
outside_given n e = (omega arith, omega arith)

module _ {N : ℕ → Type 0} (given : (n : ℕ) → N n → NumberTo something_follows n) where
  -- those of a reader
  pub reader_given : {n : ℕ} → ReaderRefusal N n → NumberTo something_follows n
  reader_given ReaderRefusal.ended = (omega arith, omega arith)
  reader_given ReaderRefusal.other = (omega arith, omega arith)
  reader_given ReaderRefusal.form = (omega arith, omega arith)
  reader_given (ReaderRefusal.number {n} r) = given n r
  reader_given ReaderRefusal.follows = (omega arith, omega arith)

  -- those of a writer
  pub writer_given : {n : ℕ} → WriterRefusal N n → NumberTo slice_short n
  writer_given WriterRefusal.ended = (omega arith, omega arith)
  writer_given (WriterRefusal.number {n} r) = let g = given n r in (g.0, omega (arith, g.1))
  writer_given WriterRefusal.follows = (omega arith, omega arith)
  writer_given WriterRefusal.short = (omega arith, omega arith)
