-- The search of the method. The deficit e of a node is outflow − inflow + deficit_zero (2 ^ 30), an excess where it is less than
-- that; order is 0 for a node that is not reached, else its place in the order of reaching.
use Rattle.network.specs.Net.{at, Net, arcs, tail, head, low, high, asks, stands, HardLow, HardHigh}
use Rattle.network.specs.Sums.{sum_to}
use Rattle.circulation.specs.inside.Slackness.{pick, inflow, outflow, Ready, Slack, Small, Low}
use Rattle.network.specs.WellFormed.{WellFormed}
use Rattle.circulation.specs.Input.{Limited}
use Rattle.std.specs.Prelude.{Option, Some, None, ◌≡◌, ◌⊎◌, List, cond, ℕ, ◌+◌, ◌-◌, ◌*◌, ◌≤◌, ◌<◌, eqb, length, set}
use Rattle.network.specs.Packed.{stride, high_none, kink_zero, flow_zero}
use Rattle.network.specs.Nodes.{deficit_zero}
use Rattle.network.specs.Limits.{most_arcs}
use Rattle.circulation.specs.Limits.{rested_limit}

-- e is the deficit of each node
pub record Deficits (N : Net) (n : ℕ) (x e : ℕ → ℕ) : Type 0 where
  pub each : (v : ℕ) → v < n → e v + inflow N (arcs N) x v ≡ deficit_zero + outflow N (arcs N) x v

-- what is still to be moved
abbrev pub total_deficit : ℕ → (ℕ → ℕ) → ℕ
total_deficit n e = sum_to n (λ v. e v - deficit_zero)

-- an arc that enters the reached nodes and can take more once the head has come to the kink
pub record Enters (stands asks of-head of-tail x low high : ℕ) : Type 0 where
  pub from : 0 < of-head
  pub to : of-tail ≡ 0
  pub slack : stands ≤ asks
  pub residual : x < high

-- an arc that leaves the reached nodes and can give back once the tail has come to the kink
pub record Leaves (stands asks of-head of-tail x low high : ℕ) : Type 0 where
  pub from : 0 < of-tail
  pub to : of-head ≡ 0
  pub slack : asks ≤ stands
  pub residual : low < x

-- an arc that crosses, either way
abbrev pub CrossesBy : (stands asks of-head of-tail x low high : ℕ) → Type 0
CrossesBy a b h t x l c = Enters a b h t x l c ⊎ Leaves a b h t x l c

-- the distance of two numbers: how far the reached nodes rise until the arc is on its kink
abbrev pub apart : ℕ → ℕ → ℕ
apart a b = (b - a) + (a - b)

-- the step of an arc that crosses; none of any other
abbrev pub StepBy : (stands asks of-head of-tail x low high : ℕ) → Option ℕ → Type 0
StepBy stands asks of-head of-tail x low high (Some r) = CrossesBy stands asks of-head of-tail x low high × (r ≡ apart stands asks)
StepBy stands asks of-head of-tail x low high None = CrossesBy stands asks of-head of-tail x low high → ⊥

-- arc i crosses
abbrev pub Crosses : Net → (ℕ → ℕ) → (ℕ → ℕ) → (ℕ → ℕ) → ℕ → Type 0
Crosses N p x order i = CrossesBy (stands N p i) (asks N p i) (order (head N i)) (order (tail N i)) (x i) (low N i) (high N i)

-- the step of arc i
abbrev pub step : Net → (ℕ → ℕ) → ℕ → ℕ
step N p i = apart (stands N p i) (asks N p i)

-- r is the step of arc i, if it crosses
abbrev pub StepAt : Net → (ℕ → ℕ) → (ℕ → ℕ) → (ℕ → ℕ) → ℕ → Option ℕ → Type 0
StepAt N p x order i r = StepBy (stands N p i) (asks N p i) (order (head N i)) (order (tail N i)) (x i) (low N i) (high N i) r

-- from to's number to from's number is how far, if from is not past to and less < more: the step of an arc that crosses
abbrev pub Distance : (from to less more : ℕ) → Option ℕ → Type 0
Distance from to less more (Some r) = (from ≤ to) × (less < more) × (r ≡ to - from)
Distance from to less more None = from ≤ to → less < more → ⊥

-- arc i leads to v from its head, which is before v; v's residual is at most the head's and what the arc can take
abbrev pub FromHead : Net → (x order residual : ℕ → ℕ) → (v i : ℕ) → Type 0
FromHead N x order residual v i =
    (tail N i ≡ v) × (0 < order (head N i)) × (order (head N i) < order v) × (x i + residual v ≤ high N i)
    × (residual v ≤ residual (head N i))

-- the same from its tail, and what the arc can give back
abbrev pub FromTail : Net → (x order residual : ℕ → ℕ) → (v i : ℕ) → Type 0
FromTail N x order residual v i =
    (head N i ≡ v) × (0 < order (tail N i)) × (order (tail N i) < order v) × (low N i + residual v ≤ x i)
    × (residual v ≤ residual (tail N i))

-- node v was reached over the arc i, which is on its kink
pub record Link (N : Net) (p x order residual : ℕ → ℕ) (v i : ℕ) : Type 0 where
  pub arc_in : i < arcs N
  pub tight : asks N p i ≡ stands N p i
  pub some : 0 < residual v
  pub ends : FromHead N x order residual v i ⊎ FromTail N x order residual v i

-- the reached nodes: s is the first, and each other was reached over an arc
pub record Tree (N : Net) (n s : ℕ) (p x order parent residual : ℕ → ℕ) : Type 0 where
  pub s_in : s < n
  pub root : order s ≡ 1
  pub root_residual : 0 < residual s
  pub links : (v : ℕ) → v < n → 0 < order v → (v ≡ s → ⊥) → Link N p x order residual v (parent v)

-- r is a residual over arc i to its end v, of x and the residuals given
pub record ResidualOver (N : Net) (x residual : ℕ → ℕ) (i v r : ℕ) : Type 0 where
  pub up : tail N i ≡ v → x i < high N i → 0 < residual (head N i) → (0 < r) × (x i + r ≤ high N i) × (r ≤ residual (head N i))
  pub down : (tail N i ≡ v → ⊥) → low N i < x i → 0 < residual (tail N i) → (0 < r) × (low N i + r ≤ x i) × (r ≤ residual (tail N i))

-- the potential a of a node whose place is o, with the reached nodes raised by d
unfoldable pub lift : ℕ → ℕ → ℕ → ℕ
lift o a d = cond (eqb o 0) a (a + d)

-- the potentials, with the reached nodes raised by d
abbrev pub lifted : (ℕ → ℕ) → (ℕ → ℕ) → ℕ → ℕ → ℕ
lifted order p d v = lift (order v) (p v) d

-- the potentials p' are p with the reached nodes raised by d
pub record Moved (n d : ℕ) (order p p' : ℕ → ℕ) : Type 0 where
  pub moved : (v : ℕ) → v < n → p' v ≡ lifted order p d v
  pub small : Small p'

-- a reached node is at most 2 ^ 16 times its place in the order away from the source
pub record Near (n s : ℕ) (order p : ℕ → ℕ) : Type 0 where
  pub above : (v : ℕ) → v < n → 0 < order v → p v ≤ p s + kink_zero * order v
  pub below : (v : ℕ) → v < n → 0 < order v → p s ≤ p v + kink_zero * order v

-- some arc crosses
abbrev pub Crossing : Net → (p x order : ℕ → ℕ) → Type 0
Crossing N p x order = ((i : ℕ) → i < arcs N → Crosses N p x order i → ⊥) → ⊥

-- how many nodes are not reached
abbrev pub unreached : ℕ → (ℕ → ℕ) → ℕ
unreached n order = sum_to n (λ v. cond (eqb (order v) 0) 1 0)

-- a search from s that has reached count nodes
pub record Grown (N : Net) (s count : ℕ) (p x order parent residual : List ℕ) : Type 0 where
  pub ready : Ready N p x order
  pub parent_size : length parent ≡ length p
  pub residual_size : length residual ≡ length p
  pub slack : Slack N (at p) (at x)
  pub tree : Tree N (length p) s (at p) (at x) (at order) (at parent) (at residual)
  pub orders : (v : ℕ) → at order v ≤ count
  pub rest : unreached (length p) (at order) + count ≡ length p
  pub near : Near (length p) s (at order) (at p)
  pub low : (v : ℕ) → v < length p → at order v ≡ 0 → at p v ≤ rested_limit

-- between two searches: the potentials and flows fit, e is the deficit that is left, and a node with an excess has
-- not risen
pub record State (N : Net) (p x e : List ℕ) : Type 0 where
  pub wf : WellFormed N (length p)
  pub limited : Limited N
  pub x_size : length x ≡ arcs N
  pub e_size : length e ≡ length p
  pub p_in : Low (at p)
  pub calm : (v : ℕ) → v < length p → at e v < deficit_zero → at p v ≤ flow_zero
  pub slack : Slack N (at p) (at x)
  pub deficits_are : Deficits N (length p) (at x) (at e)
  pub spare_high : (i : ℕ) → i < arcs N → HardHigh N i → at x i + total_deficit (length p) (at e) < high_none
  pub spare_low : (i : ℕ) → i < arcs N → HardLow N i → total_deficit (length p) (at e) < at x i

-- a search from s has reached t, a node with an excess
pub record Reached (N : Net) (s t : ℕ) (p x e order parent residual : List ℕ) : Type 0 where
  pub state : State N p x e
  pub order_size : length order ≡ length p
  pub parent_size : length parent ≡ length p
  pub residual_size : length residual ≡ length p
  pub tree : Tree N (length p) s (at p) (at x) (at order) (at parent) (at residual)
  pub root_fits : at residual s + deficit_zero ≤ at e s
  pub t_in : t < length p
  pub t_reached : 0 < at order t
  pub excess : at e t < deficit_zero

-- d can be moved from s to t
pub record Amount (s t d : ℕ) (e residual : ℕ → ℕ) : Type 0 where
  pub some : 0 < d
  pub residual_fits : d ≤ residual t
  pub excess_fits : e t + d ≤ deficit_zero

-- arc i can move d from its other end to v
pub record Pushable (N : Net) (x : List ℕ) (i v d : ℕ) : Type 0 where
  pub i_arc : i < arcs N
  pub list_room : stride * i + stride ≤ length N.list
  pub i_x : i < length x
  pub i_in : i < most_arcs
  pub up : tail N i ≡ v → at x i + d ≤ high_none
  pub down : (tail N i ≡ v → ⊥) → (d ≤ at x i) × (at x i ≤ high_none)

-- d is moved over arc i: by more flow where v is its tail, else by less
pub record Pushed (N : Net) (x : List ℕ) (i v d : ℕ) (x' : List ℕ) (u : ℕ) : Type 0 where
  pub up : tail N i ≡ v → (u ≡ head N i) × (x' ≡ set x i (at x i + d))
  pub down : (tail N i ≡ v → ⊥) → (u ≡ tail N i) × (x' ≡ set x i (at x i - d))

-- d is moved from s to t: only the deficits of the two are still to be counted
pub record Walked (N : Net) (s t d : ℕ) (p e x₀ x : List ℕ) : Type 0 where
  pub size_same : length x ≡ length x₀
  pub slack : Slack N (at p) (at x)
  pub steps : (i : ℕ) → (at x i ≤ at x₀ i + d) × (at x₀ i ≤ at x i + d)
  pub moved : (y : ℕ) → y < length p
      → at e y + inflow N (arcs N) (at x) y + pick t y d ≡ deficit_zero + outflow N (arcs N) (at x) y + pick s y d
