-- `strip::strip_draw` meets its contract: a word holds the answer of the inner call.
use mathlib.Core.Path.{◌∙◌}
use Rattle.engine.specs.Draws.{drawn_of}
use Rattle.strip.specs.laws.Values.{drawing_held}
use Rattle.strip.proofs.laws.Mapped.{drawn_told, drawn_held}
use Rattle.strip.proofs.strip_draw.Goals as goal

pub answer_word-requires : goal.answer_word-requires
answer_word-requires c = drawn_held c.draw.result c.map.result c.map.ensures.cases (drawing_held c.args.bytes.now _ _ _ _ (drawn_of c.draw.result) c.draw.ensures)

pub returns : goal.returns
returns c =
    let word = c.answer_word.ensures ∙ drawn_told c.draw.result c.map.result c.map.ensures.cases in
    (drawn_of c.draw.result, word, c.draw.ensures)
