-- What the call takes: packed arcs with small limits, potentials to start from that are feasible, and every node hung on ground.
use Rattle.network.specs.Net.{at, Net, arcs, low, high, stands, asks, HardHigh, HardLow}
use Rattle.std.specs.Prelude.{◌≡◌, List, ◌⊎◌, ℕ, ◌+◌, ◌-◌, ◌*◌, ◌≤◌, ◌<◌}
use Rattle.network.specs.Packed.{stride, tail_at, head_at, high_at, high_none, flow_zero}
use Rattle.network.specs.WellFormed.{WellFormed}
use Rattle.circulation.specs.Limits.{low_least, high_most, start_limit}

-- no arc is on a forbidden side
pub record Feasible (N : Net) (p : ℕ → ℕ) : Type 0 where
  pub not_right : (i : ℕ) → i < arcs N → HardHigh N i → stands N p i ≤ asks N p i
  pub not_left : (i : ℕ) → i < arcs N → HardLow N i → asks N p i ≤ stands N p i

-- a limit is unlimited, or at most 1024 away from 0 on its side
pub record LowIn (l : ℕ) : Type 0 where
  pub top : l ≤ flow_zero
  pub soft : (l ≡ 0 → ⊥) → low_least ≤ l

-- the same of a high limit
pub record HighIn (h : ℕ) : Type 0 where
  pub bottom : flow_zero ≤ h
  pub soft : (h ≡ high_none → ⊥) → h ≤ high_most

-- the limits of arc i
pub record LimitsIn (N : Net) (i : ℕ) : Type 0 where
  pub low_in : LowIn (low N i)
  pub high_in : HighIn (high N i)

-- the limits of every arc
pub record Limited (N : Net) : Type 0 where
  pub each : (i : ℕ) → i < arcs N → LimitsIn N i

-- potentials to start from
abbrev pub First : (ℕ → ℕ) → Type 0
First p = (v : ℕ) → p v ≤ start_limit

-- arc i of the list is unlimited, and goes from v to the ground g or to a node before v
pub record HangsBy (list : List ℕ) (g v i : ℕ) : Type 0 where
  pub from : at list (stride * i + tail_at) ≡ v
  pub hard : at list (stride * i + high_at) ≡ high_none
  pub to : (at list (stride * i + head_at) ≡ g) ⊎ (at list (stride * i + head_at) < v)

-- some arc is so
pub record Hangs (N : Net) (g v : ℕ) : Type 0 where
  pub arc : ℕ
  pub arc_in : arc < arcs N
  pub by : HangsBy N.list g v arc

-- every node but the ground hangs: none can go left for ever
pub record Rooted (N : Net) (n : ℕ) : Type 0 where
  pub hangs : (v : ℕ) → v < n - 1 → Hangs N (n - 1) v

-- arcs between n nodes that the method takes
pub record ArcsTaken (N : Net) (n : ℕ) : Type 0 where
  pub wf : WellFormed N n
  pub limited : Limited N
  pub rooted : Rooted N n

-- an input that the method takes
pub record Valid (N : Net) (n : ℕ) (p : List ℕ) : Type 0 where
  pub wf : WellFormed N n
  pub limited : Limited N
  pub p_in : First (at p)
  pub feasible : Feasible N (at p)
  pub rooted : Rooted N n
