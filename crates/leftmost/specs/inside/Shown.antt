-- What an answer shows where only one side of it counts.
use Rattle.std.specs.Prelude.{Bool, true, false}

-- true shows P, and false shows nothing
abbrev pub Shown : Type 0 → Bool → Type 0
Shown P true = P
Shown P false = Unit {0}
