-- What the steps of the method find, one by one.
use Rattle.network.specs.Net.{at, Net}
use Rattle.circulation.specs.Input.{HangsBy}
use Rattle.circulation.specs.inside.Slackness.{Balanced}
use Rattle.network.specs.Nodes.{size, potentials, deficits, orders, parents, residuals, deficit_zero}
use Rattle.circulation.specs.inside.Search.{Crosses, Crossing, step, Grown, Reached, State, total_deficit}
use Rattle.std.specs.Prelude.{Option, Some, None, ◌≡◌, List, ℕ, ◌+◌, ◌-◌, ◌≤◌, ◌<◌, length, set}

-- a node with a deficit
abbrev pub Source : (n : ℕ) (e : ℕ → ℕ) → Option ℕ → Type 0
Source n e (Some s) = (s < n) × (deficit_zero < e s)
Source n e None = (v : ℕ) → v < n → e v ≤ deficit_zero

-- a crossing arc of least step
abbrev pub Nearest : (N : Net) (m : ℕ) (p x order : ℕ → ℕ) (i : ℕ) → Type 0
Nearest N m p x order i = (i < m) × Crosses N p x order i × ((j : ℕ) → j < m → Crosses N p x order j → step N p i ≤ step N p j)

-- such an arc, and its step
abbrev pub NearestBy : (N : Net) (m : ℕ) (p x order : ℕ → ℕ) → ℕ × ℕ → Type 0
NearestBy N m p x order b = Nearest N m p x order b.0 × (b.1 ≡ step N p b.0)

-- the node v is reached too, and the potentials p became p', where nodes that were not reached have not risen
pub record Extends (N : Net) (s count : ℕ) (x p order p' order' parent' residual' : List ℕ) (v : ℕ) : Type 0 where
  pub v_in : v < length p
  pub v_new : at order v ≡ 0
  pub v_root : v ≡ s → ⊥
  pub stored : order' ≡ set order v (count + 1)
  pub size_same : length p' ≡ length p
  pub grown : Grown N s (count + 1) p' x order' parent' residual'
  pub kept : (u : ℕ) → u < length p → at order u ≡ 0 → at p' u ≡ at p u

-- a search over the nodes as they are packed
abbrev pub GrownAt : (N : Net) (s count : ℕ) (x nodes : List ℕ) → Type 0
GrownAt N s count x nodes = Grown N s count (potentials nodes) x (orders nodes) (parents nodes) (residuals nodes)

-- a search that has reached t
abbrev pub ReachedAt : (N : Net) (s t : ℕ) (x nodes : List ℕ) → Type 0
ReachedAt N s t x nodes = Reached N s t (potentials nodes) x (deficits nodes) (orders nodes) (parents nodes) (residuals nodes)

-- the state between two searches
abbrev pub StateAt : (N : Net) (x nodes : List ℕ) → Type 0
StateAt N x nodes = State N (potentials nodes) x (deficits nodes)

-- some arc crosses
abbrev pub CrossingAt : (N : Net) (x nodes : List ℕ) → Type 0
CrossingAt N x nodes = Crossing N (at (potentials nodes)) (at x) (at (orders nodes))

-- one node more is reached
pub record Extended (N : Net) (s count : ℕ) (x old new : List ℕ) (v : ℕ) : Type 0 where
  pub extends : Extends N s count x (potentials old) (orders old) (potentials new) (orders new) (parents new) (residuals new) v
  pub length_same : length new ≡ length old
  pub deficits_same : deficits new ≡ deficits old
  pub root_residual : at (residuals new) s ≡ at (residuals old) s

-- the search from s has found t, a node with an excess
pub record Searches (N : Net) (s : ℕ) (x old new : List ℕ) (t : ℕ) : Type 0 where
  pub reached : ReachedAt N s t x new
  pub length_same : length new ≡ length old
  pub deficits_same : deficits new ≡ deficits old

-- the total deficit is less
pub record Augments (N : Net) (x old new : List ℕ) : Type 0 where
  pub state : StateAt N x new
  pub less : total_deficit (size new) (at (deficits new)) < total_deficit (size old) (at (deficits old))
  pub length_same : length new ≡ length old

-- the flows are balanced
abbrev pub Ends : (N : Net) (n : ℕ) (x nodes : List ℕ) → Type 0
Ends N n x nodes = StateAt N x nodes × Balanced N n (at x)

-- a search from the ground has reached every node
pub record Flooded (N : Net) (n : ℕ) (x nodes : List ℕ) : Type 0 where
  pub grown : GrownAt N (n - 1) n x nodes
  pub whole : (v : ℕ) → v < n → 0 < at (orders nodes) v

-- what hanger answers: an arc from i on, and before m, by which v hangs, or none if there is none
abbrev pub Hanger : (list : List ℕ) (v g i m : ℕ) → Option ℕ → Type 0
Hanger list v g i m (Some r) = (r < m) × HangsBy list g v r
Hanger list v g i m None = (k : ℕ) → i ≤ k → k < m → HangsBy list g v k → ⊥
