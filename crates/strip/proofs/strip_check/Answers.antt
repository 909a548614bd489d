-- `strip::strip_check` meets its contract: a word holds the answer of the inner call.
use mathlib.Core.Path.{sym, ◌∙◌, ap, subst}
use Rattle.strip.specs.Words.{judgement_word}
use Rattle.strip.specs.HeldWords.{HeldJudgement}
use Rattle.strip.specs.laws.Values.{checking_held}
use Rattle.strip.proofs.laws.Mapped.{judged_told, judged_held}
use Rattle.strip.proofs.strip_check.Goals as goal

pub answer_word-requires : goal.answer_word-requires
answer_word-requires c = judged_held c.check.result c.map.result c.map.ensures.cases (subst HeldJudgement (sym c.check.ensures.answer)
    (checking_held c.args.bytes.now c.args.places.now c.args.list.now))

pub returns : goal.returns
returns c =
    let word = c.answer_word.ensures ∙ judged_told c.check.result c.map.result c.map.ensures.cases in
    word ∙ ap judgement_word c.check.ensures.answer
