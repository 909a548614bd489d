-- `strip::strip_write_drawing` meets its contract: a word holds the answer of the inner call.
use mathlib.Core.Path.{sym, ◌∙◌, ap, subst}
use Rattle.strip.specs.Words.{outcome_word}
use Rattle.strip.specs.HeldWords.{HeldOutcome}
use Rattle.strip.specs.laws.Values.{file_writing_held}
use Rattle.strip.proofs.laws.Mapped.{counted_told, counted_held}
use Rattle.strip.proofs.strip_write_drawing.Goals as goal

pub answer_word-requires : goal.answer_word-requires
answer_word-requires c = counted_held c.write_coordinates.result c.map.result c.map.ensures.cases (subst HeldOutcome (sym c.write_coordinates.ensures.answer) (file_writing_held c.args.numbers.now _))

pub returns : goal.returns
returns c =
    let word = c.answer_word.ensures ∙ counted_told c.write_coordinates.result c.map.result c.map.ensures.cases in
    record { answer = word ∙ ap outcome_word c.write_coordinates.ensures.answer; slice = c.write_coordinates.ensures.slice }
