-- Places and a list that are long enough get the decision on the first of them.
use Rattle.std.specs.Prelude.{ℕ, ◌≤◌, ◌≡◌, Bool, List, ℤ, length, take}
use Rattle.std.proofs.Common.{ap, le-ltb}
use Rattle.drawing.specs.Sheet.{sheet_of}
use Rattle.drawing.specs.Certificate.{certificate_size}
use Rattle.drawing.specs.Judged.{judged}
use Rattle.leb128.specs.Reply.{Reply}
use Rattle.checker.specs.Verdict.{decided, judge_numbers}

-- the decision on a sheet's numbers
pub numbers_decided : (s p : List ℕ) (y : List ℤ) (b : Bool) → (sheet_of s).nodes ≤ length p → certificate_size (sheet_of s) ≤ length y
    → judged (sheet_of s) (take (sheet_of s).nodes p) (take (certificate_size (sheet_of s)) y) ≡ b → judge_numbers s p y ≡ Reply.value b
unfolding judge_numbers decided
numbers_decided s p y b places numbers e =
    rw (le-ltb (length p) (sheet_of s).nodes places, le-ltb (length y) (certificate_size (sheet_of s)) numbers) (ap Reply.value e)
