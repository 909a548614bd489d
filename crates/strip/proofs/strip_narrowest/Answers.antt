-- `strip::strip_narrowest` meets its contract: a word holds the answer of the inner call.
use mathlib.Core.Path.{◌∙◌}
use Rattle.engine.specs.MinimumWidth.{narrowing}
use Rattle.strip.specs.laws.Values.{narrowing_held}
use Rattle.strip.proofs.laws.Mapped.{narrowed_told, narrowed_held}
use Rattle.strip.proofs.strip_narrowest.Goals as goal

pub answer_word-requires : goal.answer_word-requires
answer_word-requires c = narrowed_held c.minimum_width.result c.map.result c.map.ensures.cases (narrowing_held c.args.bytes.now (narrowing c.minimum_width.result) c.minimum_width.ensures)

pub returns : goal.returns
returns c =
    let word = c.answer_word.ensures ∙ narrowed_told c.minimum_width.result c.map.result c.map.ensures.cases in
    (narrowing c.minimum_width.result, word, c.minimum_width.ensures)
