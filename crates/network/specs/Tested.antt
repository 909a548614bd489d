-- What the answer of a test tells.
use Rattle.std.specs.Prelude.{Bool, true, false}

-- the answer of a test of P
abbrev pub Tested : Type 0 → Bool → Type 0
Tested P true = P
Tested P false = P → ⊥
