-- Packed arcs at another width: those that leave ground are the right boundaries, and their kink is the width.
use Rattle.std.specs.Prelude.{ℕ, zero, suc, ◌+◌, ◌/◌, cond, List, ◌++◌, eqb, length, get_or, set, take, drop}
use Rattle.network.specs.Packed.{tail_at, kink_at, stride, kink_zero}

module _ (ground : ℕ) (width : ℕ) where
  -- the stored kink of an arc by its tail: the width where it leaves ground, else what it was
  abbrev pub widened_kink : ℕ → ℕ → ℕ
  widened_kink tail kink = cond (eqb tail ground) (kink_zero + width) kink

  -- s with this kink in its first packed arc
  abbrev pub widened_first : List ℕ → List ℕ
  widened_first s = set s kink_at (widened_kink (get_or s tail_at 0) (get_or s kink_at 0))

  -- s with these kinks in its first n packed arcs
  abbrev pub widened_to : ℕ → List ℕ → List ℕ
  widened_to zero s = s
  widened_to (suc n) s = take stride (widened_first s) ++ widened_to n (drop stride s)

  -- the same in all packed arcs of s; numbers behind the last whole one stay
  unfoldable pub widened : List ℕ → List ℕ
  widened s = widened_to (length s / stride) s
