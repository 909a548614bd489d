-- What packed arcs must be for a solver to take them: ends that are nodes, small kinks, not too many. The limits of flows are
-- no part of it.
use Rattle.std.specs.Prelude.{ℕ, ◌*◌, ◌≤◌, ◌<◌, length}
use Rattle.network.specs.Packed.{stride}
use Rattle.network.specs.Net.{Net, arcs, tail, head, kink}
use Rattle.network.specs.Limits.{most_nodes, most_arcs, kink_most}

-- the numbers of arc i, at n nodes: ends that are nodes, a kink from -65,535 to 65,535
pub record ArcIn (N : Net) (n i : ℕ) : Type 0 where
  pub tail_in : tail N i < n
  pub head_in : head N i < n
  pub kink_low : 1 ≤ kink N i
  pub kink_high : kink N i ≤ kink_most

-- every arc is such
pub record ArcsIn (N : Net) (n : ℕ) : Type 0 where
  pub each : (i : ℕ) → i < arcs N → ArcIn N n i

-- packed arcs between n nodes, of which the last is ground
pub record WellFormed (N : Net) (n : ℕ) : Type 0 where
  pub room : stride * arcs N ≤ length N.list
  pub some : 0 < n
  pub nodes : n ≤ most_nodes
  pub few : arcs N ≤ most_arcs
  pub arc_in : (i : ℕ) → i < arcs N → ArcIn N n i
