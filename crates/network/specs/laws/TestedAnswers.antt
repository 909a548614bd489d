-- The answer of a test, taken apart.
use Rattle.std.specs.Prelude.{◌≡◌, Bool, true, false}
use Rattle.std.proofs.Common.{subst}
use Rattle.network.specs.Tested.{Tested}

-- a test that is true
pub tested_yes : {P : Type 0} (b : Bool) → Tested P b → b ≡ true → P
tested_yes {P} b t e = subst (λ (b : Bool). Tested P b) e t

-- a test that is false
pub tested_no : {P : Type 0} (b : Bool) → Tested P b → b ≡ false → P → ⊥
tested_no {P} b t e = subst (λ (b : Bool). Tested P b) e t

-- a test of the same told in another way
pub tested_map : {P Q : Type 0} → (P → Q) → (Q → P) → (b : Bool) → Tested P b → Tested Q b
tested_map f g true p = f p
tested_map f g false no-p = λ q. no-p (g q)
