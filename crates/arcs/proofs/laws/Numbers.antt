-- The numbers of a list, seen from an index on.
use Prim.Native.Nat.{ℕ, suc, ◌+◌, ◌-◌}
use mathlib.Core.Path.{◌≡◌, sym, ◌∙◌, ap}
use mathlib.Core.List.{List}
use native.Mathlib.Nat.{add-zero}
use native.Mathlib.Omega.{arith}
use lib.ListN.{get_or, drop}
use lib.Seq.{get_or-drop}

-- one less than a successor
pub less_one : (n : ℕ) → suc n - 1 ≡ n
less_one n = omega arith

-- number i behind an index
pub number_behind : (at i : ℕ) (s : List ℕ) → get_or s (at + i) 0 ≡ get_or (drop at s) i 0
number_behind at i s = sym (get_or-drop at s i 0)

-- the number at an index
pub number_here : (at : ℕ) (s : List ℕ) → get_or s at 0 ≡ get_or (drop at s) 0 0
number_here at s = sym (get_or-drop at s 0 0 ∙ ap (λ (i : ℕ). get_or s i 0) (add-zero at))
