-- The numbers of a sheet are plain and small, whichever of them come next.
use Rattle.std.specs.Prelude.{ℕ, ◌<◌, ◌≡◌, refl}
use Rattle.std.proofs.Common.{ap, arith}
use Rattle.leb128.specs.Limits.{number_limit, list_limit}
use Rattle.leb128.specs.Grammar.{Form, Grammar, Rule, plain}
use Rattle.leb128.specs.Grammar.Grammar.{number, done}
use Rattle.leb128.specs.laws.EachNumber.{Each}
use Rattle.leb128.specs.laws.EachNumber.Each.{end, each}
use Rattle.sheet.specs.inside.Order.{Next as Generic, SheetLeft}
use Rattle.sheet.specs.declared.Plain.{Plain}
use Rattle.sheet.specs.laws.SheetNumbers.{SheetNumber}

-- a grammar that is not at its end takes a number next: it is plain and small
pub record Next (grammar : Grammar) : Type 0 where
  pub rule : Rule
  pub next : ℕ → Grammar
  pub is : grammar ≡ number plain rule next
  pub small : (n : ℕ) → rule n ≡ 0 → (n < number_limit) × (n < list_limit)
  pub most : ℕ
  pub others : (n : ℕ) → rule n ≡ 0 → Each SheetNumber most (next n)

-- of a sheet
next_plain : {m : ℕ} {grammar : Grammar} → Each SheetNumber m grammar → (grammar ≡ done → ⊥) → Next grammar
next_plain end h = absurd (h refl)
next_plain (each {m = m} {rule = rule} {next = next} p s) h =
    record { rule = rule; next = next; is = ap (λ (f : Form). number f rule next) p.is_plain; small = p.small; most = m; others = s }

-- where a sheet's grammar goes on, a plain number comes next
pub plain_goes : (s : Plain) (grammar : Grammar) → SheetLeft s grammar → (grammar ≡ done → ⊥)
    → Generic {S = Plain} (λ s. 0) (λ s n. s) SheetLeft (λ s n. Unit) s grammar
plain_goes s grammar left h =
    let f = next_plain left.1 h in
    record {
      rule = f.rule;
      next = f.next;
      is = f.is;
      small = omega arith;
      held = λ n ok. (omega arith, omega (arith, f.small n ok), (f.small n ok).1);
      fits = λ n ok. tt;
      then = λ n ok. (f.most, f.others n ok);
    }
