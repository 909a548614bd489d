-- The step of an arc is how far the reached nodes rise until it lets a node be reached, and a scan finds the least: case by case on which
-- end is reached.
use Rattle.network.specs.Net.{Net, arcs}
use Rattle.circulation.specs.inside.Search.{StepAt, Crosses, step}
use Rattle.circulation.specs.inside.Slackness.{Ready}
use Rattle.network.specs.Nodes.{potentials, size}
use Rattle.circulation.specs.laws.Columns.{column_length}
use Rattle.network.specs.WellFormed.{WellFormed}
use mathlib.Core.List.{List}
use Rattle.std.specs.Prelude.{Option, Some, None, IfSome, IsSomeAnd}
use mathlib.Core.Path.{◌≡◌, subst}
use Prim.Native.Nat.{ℕ, ◌+◌, ◌≤◌, ◌<◌}
use native.Mathlib.Omega.{arith}
use borrow.Author.Count.{below_more}

-- what is ready is so of the nodes as they are packed
pub ready_nodes : {N : Net} {x order : List ℕ} (nodes : List ℕ) → Ready N (potentials nodes) x order → WellFormed N (size nodes)
ready_nodes {N} nodes r = subst (λ (n : ℕ). WellFormed N n) (column_length 0 nodes) r.wf

-- among the first i arcs, best is the crossing one of the least step, with that step; none if none crosses
pub record Seeking (N : Net) (p x order : ℕ → ℕ) (best : Option (ℕ × ℕ)) (i : ℕ) : Type 0 where
  pub in_list : i ≤ arcs N
  pub found : IfSome best (λ b. (b.0 < i) × Crosses N p x order b.0 × (b.1 ≡ step N p b.0))
  pub least : (j : ℕ) → j < i → Crosses N p x order j → IsSomeAnd best (λ b. b.1 ≤ step N p j)

module _ {N : Net} {p x order : ℕ → ℕ} where
  module _ {best : Option (ℕ × ℕ)} {i : ℕ} (s : Seeking N p x order best i) (l : i < arcs N) where
    -- the arc found is before i + 1 too
    still : (best : Option (ℕ × ℕ)) → IfSome best (λ b. (b.0 < i) × Crosses N p x order b.0 × (b.1 ≡ step N p b.0))
        → IfSome best (λ b. (b.0 < i + 1) × Crosses N p x order b.0 × (b.1 ≡ step N p b.0))
    still (Some b) found = (omega (arith, found.0), found.1, found.2)
    still None found = tt

    -- arc i has a lesser step
    pub seek_take : {d : ℕ} → StepAt N p x order i (Some d) → IfSome best (λ b. d < b.1) → Seeking N p x order (Some (i, d)) (i + 1)
    seek_take {d} g less = record {
      in_list = omega arith;
      found = (omega arith, g.0, g.1);
      least = below_more _ i (λ j j-in w. lesser best less (s.least j j-in w)) (λ w. omega (arith, g.1));
    }
      where
        lesser : {k : ℕ} (best : Option (ℕ × ℕ)) → IfSome best (λ b. d < b.1) → IsSomeAnd best (λ b. b.1 ≤ k) → d ≤ k
        lesser (Some b) less some = omega arith
        lesser None less some = absurd some

    -- or it has not
    pub seek_keep : {d : ℕ} → StepAt N p x order i (Some d) → IsSomeAnd best (λ b. b.1 ≤ d) → Seeking N p x order best (i + 1)
    seek_keep {d} g more = record {
      in_list = omega arith;
      found = still best s.found;
      least = below_more _ i s.least (λ w. most best more);
    }
      where
        most : (best : Option (ℕ × ℕ)) → IsSomeAnd best (λ b. b.1 ≤ d) → IsSomeAnd best (λ b. b.1 ≤ step N p i)
        most (Some b) more = omega (arith, more, g.1)
        most None more = more

    -- or none
    pub seek_none : StepAt N p x order i None → Seeking N p x order best (i + 1)
    seek_none g = record { in_list = omega arith; found = still best s.found; least = below_more _ i s.least (λ w. absurd (g w)) }
