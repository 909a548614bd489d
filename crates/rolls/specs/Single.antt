-- What the call for one drawing answers at a width, by the entry of that width.
use Rattle.std.specs.Prelude.{ℕ, cond, eqb}
use Rattle.leb128.specs.Reply.{Reply}
use Rattle.leb128.specs.Source.{refusal}
use Rattle.engine.specs.Refusals.{no_drawing}
use Rattle.engine.specs.Draws.{Drawn}
use Rattle.rolls.specs.Limits.{no_total}

-- the entry is its total, and `no_total` stands for refusal 8
unfoldable pub single_answer : ℕ → Drawn
single_answer entry = cond (eqb entry no_total) (Reply.refused (refusal no_drawing 0)) (Reply.value entry)
