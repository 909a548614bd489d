-- What the state of a second pass says of the number that comes next, in any format.
use Rattle.std.specs.Prelude.{ℕ, ◌-◌, ◌≤◌, ◌<◌, ◌≡◌}
use Rattle.leb128.specs.Limits.{number_limit, list_limit}
use Rattle.leb128.specs.Grammar.{Form, Grammar, Rule}
use Rattle.leb128.specs.Grammar.Grammar.{number}
use Rattle.leb128.specs.laws.EachNumber.{Each}
use Rattle.sheet.specs.laws.SheetNumbers.{SheetNumber}
use Rattle.sheet.specs.inside.Awaited.{Steady, rest}
use Rattle.sheet.specs.declared.Awaited.{Awaited}
use Rattle.sheet.specs.declared.Plain.{Plain}

-- a number comes next, above the state's base, and what follows it is led to by the state after it
pub record Next {S : Type 0} (base_of : S → ℕ) (after : S → ℕ → S) (Leads : S → Grammar → Type 0) (Fits : S → ℕ → Type 0) (s : S)
    (grammar : Grammar) : Type 0 where
  pub rule : Rule
  pub next : ℕ → Grammar
  pub is : grammar ≡ number (Form.above (base_of s)) rule next
  pub small : base_of s < list_limit
  pub held : (n : ℕ) → rule n ≡ 0 → (base_of s ≤ n) × (n - base_of s < number_limit) × (n < list_limit)
  pub fits : (n : ℕ) → rule n ≡ 0 → Fits s n
  pub then : (n : ℕ) → rule n ≡ 0 → Leads (after s n) (next n)

-- each number of the grammar is a sheet's
abbrev pub SheetLeft : Plain → Grammar → Type 0
SheetLeft s grammar = (most : ℕ) × Each SheetNumber most grammar

-- the grammar is that of what is awaited
abbrev pub AwaitedLeft : Awaited → Grammar → Type 0
AwaitedLeft s grammar = Steady s × (grammar ≡ rest s)
