-- A number that is picked at one node: what is picked there, and at any other.
use Rattle.circulation.specs.inside.Slackness.{pick}
use Rattle.std.specs.Prelude.{◌≡◌, ℕ, ◌≤◌}
use Rattle.std.proofs.Math.Decide.{ℕ_discrete}
use Rattle.std.proofs.Common.{arith, eq-eqb, ne_eqb}

-- the picked one
pub pick_yes : (u v a : ℕ) → u ≡ v → pick u v a ≡ a
unfolding pick
pick_yes u v a e = rw (eq-eqb u v e)

-- another one
pub pick_no : (u v a : ℕ) → (u ≡ v → ⊥) → pick u v a ≡ 0
unfolding pick
pick_no u v a ne = rw (ne_eqb u v ne)

-- either way at most the number
pub pick_le : (u v a : ℕ) → pick u v a ≤ a
pick_le u v a = go (ℕ_discrete u v)
  where
    go : Dec (u ≡ v) → pick u v a ≤ a
    go (yes e) = omega (arith, pick_yes u v a e)
    go (no ne) = omega (arith, pick_no u v a ne)
