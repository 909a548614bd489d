-- `strip::strip_totals` meets its contract: a word holds the answer of the inner call.
use mathlib.Core.Path.{sym, ◌∙◌, ap, subst}
use Rattle.strip.specs.Words.{outcome_word}
use Rattle.strip.specs.HeldWords.{HeldOutcome}
use Rattle.strip.specs.laws.Values.{totals_held}
use Rattle.strip.proofs.laws.Mapped.{counted_told, counted_held}
use Rattle.strip.proofs.strip_totals.Goals as goal

pub answer_word-requires : goal.answer_word-requires
answer_word-requires c = counted_held c.totals.result c.map.result c.map.ensures.cases (subst HeldOutcome (sym c.totals.ensures.answer) (totals_held c.args.bytes.now c.args.widths.now _))

pub returns : goal.returns
returns c =
    let word = c.answer_word.ensures ∙ counted_told c.totals.result c.map.result c.map.ensures.cases in
    record { answer = word ∙ ap outcome_word c.totals.ensures.answer; slice = c.totals.ensures.slice }
