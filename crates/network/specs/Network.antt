-- Networks and their potentials. A node is a number below the count of nodes; potentials are a list, an integer for each node.
-- Any number past the list is ground, whose potential is 0.
-- An arc has a convex cost of its tension with one kink: 0 there, slope `high` to the right of it and slope `low` to the left.
-- An unlimited slope forbids its side.
use Rattle.std.specs.Prelude.{ℕ, zero, suc, ◌≡◌, Bool, true, false, ◌&&◌, List, map, T, eqb, ℤ, pos, negsuc, ◌-ℤ◌, ◌*ℤ◌, length, get_or, ◌≤ℤ◌}
use Rattle.std.specs.Int.Signed.{le_z}
use Rattle.network.specs.Integers.{eqZ}
use Rattle.network.specs.Sums.{sum, all}

-- a slope of a cost, which is also a limit of a flow
pub data Limit : Type 0 where
  unlimited : Limit
  limit : ℤ → Limit

-- there is a limit
abbrev pub finite : Limit → Bool
finite unlimited = false
finite (limit x) = true

-- the limit, where there is one
abbrev pub value : Limit → ℤ
value unlimited = pos 0
value (limit x) = x

-- y is the limit
abbrev pub reached : Limit → ℤ → Bool
reached unlimited y = false
reached (limit x) y = eqZ y x

-- y is at most the limit
abbrev pub at_most : ℤ → Limit → Bool
at_most y unlimited = true
at_most y (limit x) = le_z y x

-- y is at least the limit
abbrev pub at_least : ℤ → Limit → Bool
at_least y unlimited = true
at_least y (limit x) = le_z x y

-- an arc from its tail to its head
pub record Arc : Type 0 where
  pub tail : ℕ
  pub head : ℕ
  pub kink : ℤ
  pub low : Limit
  pub high : Limit

-- the arcs between so many nodes and ground
pub record Network : Type 0 where
  pub nodes : ℕ
  pub arcs : List Arc

-- the head is at most k right of the tail; the flow is a push, which drives the head to smaller and the tail to greater
-- coordinates
abbrev pub upper_bound : ℕ → ℕ → ℤ → Arc
upper_bound u v k = record { tail = u; head = v; kink = k; low = limit (pos 0); high = unlimited }

-- where an arc is d past its kink: the side is not forbidden
abbrev pub legal_at : Arc → ℤ → Bool
legal_at a (pos zero) = true
legal_at a (pos (suc n)) = finite a.high
legal_at a (negsuc n) = finite a.low

-- where an arc is d past its kink: the cost
abbrev pub cost_at : Arc → ℤ → ℤ
cost_at a (pos n) = value a.high *ℤ pos n
cost_at a (negsuc n) = value a.low *ℤ negsuc n

-- the potential of a node; ground's is 0
abbrev pub potential : List ℤ → ℕ → ℤ
potential p v = get_or p v (pos 0)

-- natural numbers as potentials
abbrev pub integers : List ℕ → List ℤ
integers p = map pos p

-- the potential of an arc's head minus that of its tail
abbrev pub tension : List ℤ → Arc → ℤ
tension p a = potential p a.head -ℤ potential p a.tail

-- how far an arc is past its kink, to the right
abbrev pub past_kink : List ℤ → Arc → ℤ
past_kink p a = tension p a -ℤ a.kink

-- an arc is on no forbidden side of its kink
abbrev pub legal : List ℤ → Arc → Bool
legal p a = legal_at a (past_kink p a)

-- the cost of an arc
abbrev pub cost : List ℤ → Arc → ℤ
cost p a = cost_at a (past_kink p a)

-- a potential for each node, and every arc legal
pub record Feasible (N : Network) (p : List ℤ) : Type 0 where
  pub size : length p ≡ N.nodes
  pub legals : T (all (legal p) N.arcs)

-- the same as a test
unfoldable pub is_feasible : Network → List ℤ → Bool
is_feasible N p = eqb (length p) N.nodes && all (legal p) N.arcs

-- the total cost
unfoldable pub total : Network → List ℤ → ℤ
total N p = sum (cost p) N.arcs

-- no feasible potentials have a smaller total
pub record Least (N : Network) (p : List ℤ) : Type 0 where
  pub feasible : Feasible N p
  pub least : (q : List ℤ) → Feasible N q → total N p ≤ℤ total N q

-- and where the total is the same, no node has a smaller potential
pub record LeftmostLeast (N : Network) (p : List ℤ) : Type 0 where
  pub is_least : Least N p
  pub leftmost : (q : List ℤ) → Feasible N q → total N q ≡ total N p → (v : ℕ) → potential p v ≤ℤ potential q v
