-- What an answer with a count tells the second pass: good bytes of so many numbers, or a good list whose bytes have room.
use Prim.Native.Nat.{ℕ, ◌+◌, ◌≤◌}
use mathlib.Core.Path.{◌≡◌, sym, ◌∙◌, ap}
use mathlib.Core.List.{List, ◌++◌}
use native.Mathlib.Omega.{arith}
use lib.ListN.{length, take, drop, length-append}
use lib.Seq.{sets, length-take-le}
use Rattle.std.specs.Prelude.{Ok, Err}
use Rattle.leb128.specs.Grammar.{Accepts}
use Rattle.leb128.specs.Format.{Result, encoded, answered, filled, outcome}
use Rattle.leb128.specs.Format.Result.{elements}
use Rattle.leb128.specs.laws.Storing.{sets_append, sets_front}
use Rattle.leb128.specs.laws.GoodFormat.{good_writing, answered_wrote, filled_refused, filled_elements}
use Rattle.leb128.specs.declared.Refusal.{Refusal}
use Rattle.sheet.specs.Limits.{magic_bytes}
use Rattle.sheet.specs.inside.Formats.{magic_of, grammar_of, read_format, write_format, FormatBytes}
use Rattle.sheet.specs.declared.Format.{Format}
use Rattle.sheet.proofs.laws.WalkStarts.{magic_size}

-- a refusal leaves the slice as it was
pub refused_kept : (r : Refusal) (result : Result) (old : List ℕ) → outcome (Err r) ≡ answered (length old) result
    → old ≡ filled result old
unfolding outcome
refused_kept r result old e = filled_refused result old r (sym e)

module _ (count : ℕ) (format : Format) (old : List ℕ) where
  module _ (bytes : List ℕ) (e : outcome (Ok count) ≡ answered (length old) (read_format format bytes)) where
    -- the bytes are good, and their numbers have room
    pub read_done : FormatBytes format bytes count × (count ≤ length old)
    unfolding outcome
    read_done =
        let w = answered_wrote (length old) (read_format format bytes) count (sym e) in
        (record { numbers = w.0; reads = w.1; counted = w.2 }, omega (arith, w.2, w.3))

    -- the front of the slice, which has room for just them
    pub read_front : FormatBytes format bytes (length (take count old))
    read_front = rw (length-take-le count old read_done.1) read_done.0

    -- what is read goes in front of the old elements
    pub read_filled : {front : List ℕ} → read_format format bytes ≡ elements front
        → front ++ drop count old ≡ filled (read_format format bytes) old
    unfolding outcome
    read_filled {front} reads =
        let w = answered_wrote (length old) (read_format format bytes) count (sym e) in
        let same : elements w.0 ≡ elements front = sym w.1 ∙ reads in
        let front_is : w.0 ≡ front = cc in
        ap (λ (n : ℕ). front ++ drop n old) (w.2 ∙ ap length front_is)
        ∙ sym (filled_elements old reads (omega (arith, ap length front_is, w.3)))

  module _ (numbers : List ℕ) (e : outcome (Ok count) ≡ answered (length old) (write_format format numbers)) where
    -- the list is good, and its bytes have room
    pub record Writable : Type 0 where
      pub accepted : Accepts (grammar_of format) numbers
      pub bytes : write_format format numbers ≡ elements (magic_of format ++ encoded (grammar_of format) numbers)
      pub fits : magic_bytes + length (encoded (grammar_of format) numbers) ≤ length old

    -- it is
    pub write_done : Writable
    unfolding outcome
    write_done =
        let w = answered_wrote (length old) (write_format format numbers) count (sym e) in
        let g = good_writing (magic_of format) (grammar_of format) numbers w.0 w.1 in
        let size = length-append (magic_of format) (encoded (grammar_of format) numbers) in
        record {
          accepted = g.0;
          bytes = w.1 ∙ ap elements g.1;
          fits = omega (arith, w.3, ap length g.1 ∙ size, magic_size format);
        }

    -- the magic and the numbers are written in front of the old bytes
    pub write_filled : {middle new : List ℕ} → middle ≡ sets old 0 (magic_of format)
        → new ≡ sets middle magic_bytes (encoded (grammar_of format) numbers) → new ≡ filled (write_format format numbers) old
    write_filled m n =
        let all : List ℕ = magic_of format ++ encoded (grammar_of format) numbers in
        let size : length all ≡ _ = length-append (magic_of format) (encoded (grammar_of format) numbers) in
        let fits : length all ≤ length old = omega (arith, size, magic_size format, write_done.fits) in
        n ∙ ap (λ (l : List ℕ). sets l magic_bytes (encoded (grammar_of format) numbers)) m
        ∙ ap (λ (k : ℕ). sets (sets old 0 (magic_of format)) (0 + k) (encoded (grammar_of format) numbers)) (sym (magic_size format))
        ∙ sets_append (magic_of format) old 0 (encoded (grammar_of format) numbers)
        ∙ sets_front all old fits ∙ sym (filled_elements old write_done.bytes fits)
