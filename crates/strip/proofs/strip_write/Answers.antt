-- `strip::strip_write` meets its contract: a word holds the answer of the inner call.
use mathlib.Core.Path.{sym, ◌∙◌, ap, subst}
use Rattle.strip.specs.Words.{outcome_word}
use Rattle.strip.specs.HeldWords.{HeldOutcome}
use Rattle.strip.specs.laws.Values.{writing_held}
use Rattle.strip.proofs.laws.Mapped.{counted_told, counted_held}
use Rattle.strip.proofs.strip_write.Goals as goal

pub answer_word-requires : goal.answer_word-requires
answer_word-requires c = counted_held c.write.result c.map.result c.map.ensures.cases (subst HeldOutcome (sym c.write.ensures.answer) (writing_held c.args.numbers.now _))

pub returns : goal.returns
returns c =
    let word = c.answer_word.ensures ∙ counted_told c.write.result c.map.result c.map.ensures.cases in
    record { answer = word ∙ ap outcome_word c.write.ensures.answer; slice = c.write.ensures.slice }
