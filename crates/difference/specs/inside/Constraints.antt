-- Difference constraints of a network's hard sides, their solutions in natural numbers, and the least one. The ground's
-- value is 0.
--
use Rattle.std.specs.Prelude.{◌≡◌, List, ℕ, ◌+◌, ◌-◌, ◌*◌, ◌≤◌, ◌<◌, length}
use Rattle.network.specs.Net.{at, Net, arcs, tail, head, kink, HardHigh, HardLow}
use Rattle.network.specs.WellFormed.{WellFormed}
use Rattle.network.specs.Packed.{kink_zero}
use Rattle.network.specs.Limits.{kink_most, kink_size, most_nodes}
use Rattle.difference.specs.Limits.{value_limit}

-- the head is at most the kink right of the tail; f is taken at the node that forces, and g at the node that is raised
abbrev pub MetHigh : Net → ℕ → (ℕ → ℕ) → (ℕ → ℕ) → Type 0
MetHigh N i f g = HardHigh N i → f (head N i) + kink_zero ≤ g (tail N i) + kink N i

-- the head is at least the kink right of the tail
abbrev pub MetLow : Net → ℕ → (ℕ → ℕ) → (ℕ → ℕ) → Type 0
MetLow N i f g = HardLow N i → f (tail N i) + kink N i ≤ g (head N i) + kink_zero

-- both constraints of arc i
abbrev pub Met : Net → ℕ → (ℕ → ℕ) → (ℕ → ℕ) → Type 0
Met N i f g = MetHigh N i f g × MetLow N i f g

-- the constraints of all arcs
abbrev pub AllMet : Net → (ℕ → ℕ) → (ℕ → ℕ) → Type 0
AllMet N f g = (i : ℕ) → i < arcs N → Met N i f g

-- the values q of n nodes meet every constraint, and the ground's is 0
pub record Solution (N : Net) (n : ℕ) (q : ℕ → ℕ) : Type 0 where
  pub ground : q (n - 1) ≡ 0
  pub meets : AllMet N q q

-- each of the n values of v is at most q's
abbrev pub Below : ℕ → (ℕ → ℕ) → (ℕ → ℕ) → Type 0
Below n v q = (u : ℕ) → u < n → v u ≤ q u

-- values on their way: small, and at most each solution's
pub record Ready (N : Net) (v : List ℕ) : Type 0 where
  pub wf : WellFormed N (length v)
  pub ground : at v (length v - 1) ≡ 0
  pub small : (u : ℕ) → at v u ≤ value_limit
  pub under : (q : ℕ → ℕ) → Solution N (length v) q → Below (length v) (at v) q

-- no value fell
pub record Risen (N : Net) (v₀ v : List ℕ) : Type 0 where
  pub ready : Ready N v
  pub size : length v ≡ length v₀
  pub up : (u : ℕ) → at v₀ u ≤ at v u

-- some value rose
pub record Grew (v₀ v : List ℕ) : Type 0 where
  pub node : ℕ
  pub node_in : node < length v₀
  pub rose : at v₀ node < at v node

-- the values of v are the least solution
pub record Least (N : Net) (n : ℕ) (v : List ℕ) : Type 0 where
  pub solves : Solution N n (at v)
  pub least : (q : ℕ → ℕ) → Solution N n q → Below n (at v) q
  pub small : (u : ℕ) → u < n → at v u ≤ n * kink_size

-- no solution exists
abbrev pub None : Net → ℕ → Type 0
None N n = (q : ℕ → ℕ) → Solution N n q → ⊥

-- what one constraint's step needs
pub record Relaxing (v : List ℕ) (from to a b : ℕ) : Type 0 where
  pub from_in : from < length v
  pub to_in : to < length v
  pub from_small : at v from ≤ value_limit
  pub to_small : at v to ≤ value_limit
  pub a_in : a ≤ kink_most
  pub b_in : b ≤ kink_most
  pub few : length v ≤ most_nodes
