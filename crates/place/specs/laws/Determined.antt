-- What is printed is determined: two texts for the same input are equal.
use Rattle.std.specs.Prelude.{ℕ, ◌≡◌, List, ℤ, take}
use Rattle.std.proofs.Common.{sym, ◌∙◌, ap₂}
use Rattle.leb128.specs.Format.{Result}
use Rattle.leb128.specs.Format.Result.{elements}
use Rattle.engine.specs.laws.Determined.{determined}
use Rattle.place.specs.Prints.{answer_text, PrintsFrom}

-- one input, one text
pub one_text : (read : Result) (p₀ : List ℕ) (y₀ : List ℤ) (s t : List ℕ) (n m : ℕ) → PrintsFrom read p₀ y₀ s n → PrintsFrom read p₀ y₀ t m
    → take n s ≡ take m t
one_text read p₀ y₀ s t n m a b =
    let same =
    determined read p₀ y₀ a.places b.places a.answers.list b.answers.list a.answer b.answer a.answers.draws b.answers.draws in
    let text : elements (take n s) ≡ elements (take m t) =
    sym a.shows.is ∙ ap₂ (answer_text read) same.places same.answer ∙ b.shows.is in
    cc
