-- `arcs::load` meets its contract: a refusal is the reader's, and what was read is good.
use mathlib.Core.Path.{◌≡◌, sym, ◌∙◌, ap}
use Rattle.std.specs.Prelude.{Err}
use borrow.Author.Rules.{rules}
use native.Mathlib.Omega.{arith}
use Rattle.std.proofs.lemmas.List.{length-take-le}
use Rattle.sheet.specs.laws.ReadInto.{read_room}
use Rattle.arcs.specs.Loading.{loading}
use Rattle.arcs.proofs.laws.Load.{done_good, done_loads, reader_loads}
use Rattle.arcs.proofs.load.Goals as goal

pub slice_bounds-numbers-end : goal.slice_bounds-numbers-end
slice_bounds-numbers-end c =
    let h = read_room c.args.bytes.now _ _ c.read.ensures.answer c.read.ensures.slice c.in_ok-count.was in
    omega arith

pub slice_bounds-load_numbers-end : goal.slice_bounds-load_numbers-end
slice_bounds-load_numbers-end c =
    let h = read_room c.args.bytes.now _ _ c.read.ensures.answer c.read.ensures.slice c.in_ok-count.was in
    sym (length-take-le c.in_ok-count.count c.read.new.numbers (omega arith))

pub load_numbers-requires : goal.load_numbers-requires
load_numbers-requires c =
    done_good c.args.bytes.now _ _ c.read.ensures.answer c.read.ensures.slice c.in_ok-count.was

pub returns-in_err-count : goal.returns-in_err-count
returns-in_err-count c =
    let both = reader_loads c.args.bytes.now _ _ c.read.ensures.answer c.read.ensures.slice (omega arith)
    c.in_err-count.was c.args.first.now c.args.arcs.now in
    record {
      answer = (let h : c.from_residual.result ≡ Err c.in_err-count.field-0.0 = search rules in ap loading h) ∙ both.0;
      first = both.1.0;
      arcs = both.1.1;
    }

pub returns : goal.returns
returns c =
    let both = done_loads c.args.bytes.now _ _ c.read.ensures.answer c.read.ensures.slice c.in_ok-count.was
    c.args.first.now c.args.arcs.now _ _ c.load_numbers.result
    (c.load_numbers.ensures.answer, (c.load_numbers.ensures.first, c.load_numbers.ensures.arcs)) in
    record {
      answer = both.0;
      first = both.1.0;
      arcs = both.1.1;
    }
