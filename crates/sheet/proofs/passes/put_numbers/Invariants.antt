-- `sheet::passes::put_numbers` meets its contract: the loop's invariant is `PutOn`.
use Rattle.leb128.specs.Format.{encoded}
use Rattle.sheet.specs.inside.Formats.{grammar_of}
use Rattle.sheet.proofs.laws.Passes.{PutOn}
use Rattle.sheet.proofs.passes.put_numbers.Given as goal

abbrev pub invariant-loop-number : goal.invariant-loop-number
invariant-loop-number g l =
    PutOn g.O.Order.Leads l.numbers l.initial.bytes (encoded (grammar_of g.O.Order.format) l.numbers) l.bytes l.at l.number-index l.s
