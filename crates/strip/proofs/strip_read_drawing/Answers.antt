-- `strip::strip_read_drawing` meets its contract: a word holds the answer of the inner call.
use mathlib.Core.Path.{sym, ◌∙◌, ap, subst}
use Rattle.strip.specs.Words.{outcome_word}
use Rattle.strip.specs.HeldWords.{HeldOutcome}
use Rattle.strip.specs.laws.Values.{file_reading_held}
use Rattle.strip.proofs.laws.Mapped.{counted_told, counted_held}
use Rattle.strip.proofs.strip_read_drawing.Goals as goal

pub answer_word-requires : goal.answer_word-requires
answer_word-requires c = counted_held c.read_coordinates.result c.map.result c.map.ensures.cases (subst HeldOutcome (sym c.read_coordinates.ensures.answer) (file_reading_held c.args.file.now _))

pub returns : goal.returns
returns c =
    let word = c.answer_word.ensures ∙ counted_told c.read_coordinates.result c.map.result c.map.ensures.cases in
    record { answer = word ∙ ap outcome_word c.read_coordinates.ensures.answer; slice = c.read_coordinates.ensures.slice }
