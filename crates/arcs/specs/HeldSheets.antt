-- A sheet that is kept in two lent slices: that they hold it, and what setting its width leaves.
use Rattle.std.specs.Prelude.{ℕ, ◌≡◌}
use Rattle.packed.specs.Widths.{widened}
use Rattle.arcs.specs.declared.Loaded.{Loaded}
use Rattle.arcs.specs.Held.{Holds}

-- the slices hold the first nodes and the packed arcs of a good sheet of these counts
abbrev pub HoldsSheet : Loaded → Type 0
HoldsSheet s = Holds s.first.now s.arcs.now s.counts

-- t is s at a width: the packed arcs are those at it, and all else is as it was
pub record AtWidth (s : Loaded) (width : ℕ) (t : Loaded) : Type 0 where
  pub firsts : t.first.now ≡ s.first.now
  pub arcs : t.arcs.now ≡ widened s.counts.nodes width s.arcs.now
  pub counts : t.counts ≡ s.counts
