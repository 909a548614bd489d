-- Flows and potentials that fit each other, in stored numbers, and what flows in and out at a node.
use Rattle.network.specs.Net.{at, Net, arcs, tail, head, low, high, stands, asks, HardHigh, HardLow}
use Rattle.network.specs.Sums.{sum_to}
use Rattle.network.specs.WellFormed.{WellFormed}
use Rattle.circulation.specs.Input.{Limited}
use Rattle.std.specs.Prelude.{◌≡◌, List, cond, ℕ, ◌+◌, ◌≤◌, ◌<◌, eqb, length}
use Rattle.network.specs.Packed.{high_none, flow_zero}
use Rattle.circulation.specs.Limits.{flow_least, flow_most, rested_limit, potential_limit}

-- complementary slackness, and flows that are allowed
pub record Slack (N : Net) (p x : ℕ → ℕ) : Type 0 where
  pub within : (i : ℕ) → i < arcs N → (low N i ≤ x i) × (x i ≤ high N i)
  pub not_full : (i : ℕ) → i < arcs N → HardHigh N i → x i < high_none
  pub not_empty : (i : ℕ) → i < arcs N → HardLow N i → 0 < x i
  pub left : (i : ℕ) → i < arcs N → stands N p i < asks N p i → x i ≡ low N i
  pub right : (i : ℕ) → i < arcs N → asks N p i < stands N p i → x i ≡ high N i

-- a where u is v, else 0
unfoldable pub pick : ℕ → ℕ → ℕ → ℕ
pick u v a = cond (eqb u v) a 0

-- the sum of x over the first m arcs whose end is v
abbrev pub flow : ℕ → (ℕ → ℕ) → (ℕ → ℕ) → ℕ → ℕ
flow m ends x v = sum_to m (λ i. pick (ends i) v (x i))

-- what flows in and out at v, with what was added to the flows counted on the other side
abbrev pub inflow : Net → ℕ → (ℕ → ℕ) → ℕ → ℕ
inflow N m x v = flow m (head N) x v + flow m (tail N) (λ i. flow_zero) v

-- and out
abbrev pub outflow : Net → ℕ → (ℕ → ℕ) → ℕ → ℕ
outflow N m x v = flow m (tail N) x v + flow m (head N) (λ i. flow_zero) v

-- the first m flows are small enough to be counted
abbrev pub Countable : ℕ → (ℕ → ℕ) → Type 0
Countable m x = (i : ℕ) → i < m → (flow_least ≤ x i) × (x i ≤ flow_most)

-- as much flows in as out at each of n nodes
pub record Balanced (N : Net) (n : ℕ) (x : ℕ → ℕ) : Type 0 where
  pub balance : (v : ℕ) → v < n → inflow N (arcs N) x v ≡ outflow N (arcs N) x v

-- potentials between searches
abbrev pub Low : (ℕ → ℕ) → Type 0
Low p = (v : ℕ) → p v ≤ rested_limit

-- potentials at any time
abbrev pub Small : (ℕ → ℕ) → Type 0
Small p = (v : ℕ) → p v ≤ potential_limit

-- the network with potentials p, flows x and the order, of fitting lengths
pub record Ready (N : Net) (p x order : List ℕ) : Type 0 where
  pub wf : WellFormed N (length p)
  pub limited : Limited N
  pub x_size : length x ≡ arcs N
  pub order_size : length order ≡ length p
  pub p_in : Small (at p)

-- the flow that an arc starts with: its low slope left of the kink, its high one right of it, on it 0
pub record Filled (stands asks low high x : ℕ) : Type 0 where
  pub left : stands < asks → x ≡ low
  pub right : asks < stands → x ≡ high
  pub on : stands ≡ asks → x ≡ flow_zero

-- the flow that arc i starts with
abbrev pub FilledAt : Net → (ℕ → ℕ) → ℕ → ℕ → Type 0
FilledAt N p i x = Filled (stands N p i) (asks N p i) (low N i) (high N i) x

-- arc i is on no forbidden side
abbrev pub Met : Net → (ℕ → ℕ) → ℕ → Type 0
Met N p i = (HardHigh N i → stands N p i ≤ asks N p i) × (HardLow N i → asks N p i ≤ stands N p i)
