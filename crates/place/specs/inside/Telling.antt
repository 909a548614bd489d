-- What the telling of an answer relies on.
use Rattle.std.specs.Prelude.{ℕ, List, ℤ}
use Rattle.leb128.specs.Format.{Result, Outcome}
use Rattle.engine.specs.Draws.{Drawn}
use Rattle.place.specs.Prints.{Answers}

-- an answer of drawing, into whatever places and list
pub record Answered (read : Result) (places : List ℕ) (answer : Drawn) : Type 0 where
  pub places₀ : List ℕ
  pub list₀ : List ℤ
  pub answers : Answers read places₀ list₀ places answer

-- how many elements were written; on a refusal none
unfoldable pub count_of : Outcome → ℕ
count_of (Outcome.wrote count) = count
count_of (Outcome.refused r) = 0
