-- The answer of a test of which one side counts.
use mathlib.Core.Path.{◌≡◌, subst}
use mathlib.Core.Bool.{Bool, true}
use Rattle.leftmost.specs.inside.Shown.{Shown}

module _ {P : Type 0} where
  -- an answer that is true
  pub shown_yes : (b : Bool) → Shown P b → b ≡ true → P
  shown_yes b s e = subst (λ (b : Bool). Shown P b) e s
