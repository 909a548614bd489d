-- The flow at a node, and that over all nodes as much flows in as out: by exchanging sums over nodes and arcs.
use Rattle.network.specs.Net.{at, Net, tail, head}
use Rattle.network.specs.Sums.{sum_to}
use Rattle.network.specs.laws.SumsTo.{sum_to_le, sum_to_eq, sum_to_change, sum_to_zero, sum_to_add, sum_to_swap, sum_to_set}
use Rattle.circulation.specs.inside.Slackness.{pick, flow, inflow, outflow}
use mathlib.Core.Path.{◌≡◌, refl, sym, ◌∙◌}
use mathlib.Core.List.{List}
use Prim.Native.Nat.{ℕ, ◌+◌, ◌≤◌, ◌<◌}
use native.Mathlib.Omega.{arith}
use lib.ListN.{length, set}
use Rattle.network.specs.Packed.{flow_zero}
use Rattle.circulation.specs.laws.Picks.{pick_yes, pick_no, pick_le}

-- of all nodes only one is picked
pub sum_pick : (n u a : ℕ) → u < n → sum_to n (λ v. pick u v a) ≡ a
sum_pick n u a l =
    omega (
      arith,
      sum_to_change n (λ v. pick u v a) (λ v. 0) u l (λ w w-in ne. pick_no u w a (λ e. ne (sym e))),
      sum_to_zero n,
      pick_yes u u a refl,
    )

-- the flows at all nodes make up the flow of all arcs
pub flow_total : (n m : ℕ) (ends : ℕ → ℕ) (x : ℕ → ℕ) → ((i : ℕ) → i < m → ends i < n) → sum_to n (flow m ends x) ≡ sum_to m x
flow_total n m ends x inside =
    sum_to_swap n m (λ v i. pick (ends i) v (x i))
    ∙ sum_to_eq m (λ i. sum_to n (λ v. pick (ends i) v (x i))) x (λ i l. sum_pick n (ends i) (x i) (inside i l))

-- one node's flow is at most that of all arcs
pub flow_le : (m : ℕ) (ends : ℕ → ℕ) (x : ℕ → ℕ) (v : ℕ) → flow m ends x v ≤ sum_to m x
flow_le m ends x v = sum_to_le m (λ i. pick (ends i) v (x i)) x (λ i l. pick_le (ends i) v (x i))

-- a flow after a store
pub flow_set : (m : ℕ) (ends : ℕ → ℕ) (x : List ℕ) (i a w : ℕ) → i < m → i < length x
    → flow m ends (at (set x i a)) w + pick (ends i) w (at x i) ≡ flow m ends (at x) w + pick (ends i) w a
flow_set m ends x i a w l in_List = sum_to_set m (λ j b. pick (ends j) w b) x i a l in_List

-- over all nodes as much flows in as out
pub in_is_out : (N : Net) (n m : ℕ) (x : ℕ → ℕ) → ((i : ℕ) → i < m → tail N i < n) → ((i : ℕ) → i < m → head N i < n)
    → sum_to n (inflow N m x) ≡ sum_to n (outflow N m x)
in_is_out N n m x tails heads = omega (
  arith,
  sum_to_add n (flow m (head N) x) (flow m (tail N) (λ i. flow_zero)),
  sum_to_add n (flow m (tail N) x) (flow m (head N) (λ i. flow_zero)),
  flow_total n m (head N) x heads,
  flow_total n m (tail N) x tails,
  flow_total n m (head N) (λ i. flow_zero) heads,
  flow_total n m (tail N) (λ i. flow_zero) tails,
)
