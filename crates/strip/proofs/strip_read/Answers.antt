-- `strip::strip_read` meets its contract: a word holds the answer of the inner call.
use mathlib.Core.Path.{sym, ◌∙◌, ap, subst}
use Rattle.strip.specs.Words.{outcome_word}
use Rattle.strip.specs.HeldWords.{HeldOutcome}
use Rattle.strip.specs.laws.Values.{reading_held}
use Rattle.strip.proofs.laws.Mapped.{counted_told, counted_held}
use Rattle.strip.proofs.strip_read.Goals as goal

pub answer_word-requires : goal.answer_word-requires
answer_word-requires c = counted_held c.read.result c.map.result c.map.ensures.cases (subst HeldOutcome (sym c.read.ensures.answer) (reading_held c.args.bytes.now _))

pub returns : goal.returns
returns c =
    let word = c.answer_word.ensures ∙ counted_told c.read.result c.map.result c.map.ensures.cases in
    record { answer = word ∙ ap outcome_word c.read.ensures.answer; slice = c.read.ensures.slice }
