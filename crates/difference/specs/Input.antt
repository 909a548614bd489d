-- What the call takes: packed arcs, and room for a value of each node.
use Rattle.std.specs.Prelude.{ℕ, ◌≤◌, List, length}
use Rattle.network.specs.Net.{Net}
use Rattle.network.specs.WellFormed.{WellFormed}

-- n values or more
pub record Taken (N : Net) (n : ℕ) (values : List ℕ) : Type 0 where
  pub wf : WellFormed N n
  pub values_room : n ≤ length values
