-- `leb128::writer::write_number` meets its contract: each return is a case of `placed`.
use native.Mathlib.Omega.{arith}
use Rattle.leb128.proofs.laws.Writing.{no_form, no_room, next_place}
use Rattle.leb128.specs.laws.NumberSize.{number_size_is}
use mathlib.Core.Path.{◌∙◌}
use Rattle.leb128.proofs.writer.write_number.Goals as goal

pub returns-then-n-ge-NUMBER_LIMIT : goal.returns-then-n-ge-NUMBER_LIMIT
returns-then-n-ge-NUMBER_LIMIT c =
    let both = no_form c.args.bytes.now c.args.at c.args.n
    (omega arith) in
    record {
      answer = both.0;
      slice = both.1;
    }

pub returns-then-bytes-size : goal.returns-then-bytes-size
returns-then-bytes-size c =
    let both = no_room c.args.bytes.now c.args.at c.args.n (omega arith)
    (omega (arith, c.number_size-size.ensures ∙ number_size_is c.args.n)) in
    record {
      answer = both.0;
      slice = both.1;
    }

pub store-requires : goal.store-requires
store-requires c =
    record {
      n_lt_number_limit = omega arith;
      room = record { fits = omega (arith, c.number_size-size.ensures ∙ number_size_is c.args.n) };
    }

pub returns : goal.returns
returns c =
    let both = next_place c.args.bytes.now c.args.at c.args.n (omega arith) _ _
    (omega (arith, c.number_size-size.ensures ∙ number_size_is c.args.n)) c.store.ensures in
    record {
      answer = both.0;
      slice = both.1;
    }
