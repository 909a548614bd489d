-- The tests of the input say what they test: an arc is on a forbidden side exactly where its first flow would be unlimited.
use Rattle.network.specs.Net.{at, Net, arcs}
use Rattle.network.specs.Nodes.{potentials, node_stride}
use Rattle.circulation.specs.Input.{Feasible, First}
use Rattle.circulation.specs.inside.Slackness.{Met, Small}
use mathlib.Core.List.{List}
use Prim.Native.Nat.{ℕ, ◌/◌, ◌≤◌, ◌<◌}
use native.Mathlib.Decide.{dec_lt}
use native.Mathlib.Omega.{arith}
use lib.ListN.{length}
use Rattle.circulation.specs.laws.Columns.{column_past}
use Rattle.network.specs.Packed.{flow_zero}

-- potentials that are small at the nodes are small everywhere
pub all_small : (nodes : List ℕ) → ((v : ℕ) → v < length nodes / node_stride → at (potentials nodes) v ≤ flow_zero)
    → First (at (potentials nodes))
all_small nodes b v = go (dec_lt v (length nodes / node_stride))
  where
    go : Dec (v < length nodes / node_stride) → at (potentials nodes) v ≤ flow_zero
    go (yes l) = b v l
    go (no past) = omega (arith, column_past 0 nodes v (omega arith))

-- potentials to start from are small
pub first_small : {p : ℕ → ℕ} → First p → Small p
first_small f v = omega (arith, f v)

-- feasible potentials, arc by arc
pub met_of : (N : Net) (p : ℕ → ℕ) → Feasible N p → (i : ℕ) → i < arcs N → Met N p i
met_of N p f i l = (f.not_right i l, f.not_left i l)
