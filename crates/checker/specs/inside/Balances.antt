-- The balance of each node, as it is added up.
use Rattle.std.specs.Prelude.{ℕ, ◌≤◌, ◌<◌, ◌≡◌, List, ℤ, pos, nat_abs, ◌+ℤ◌, length, get_or}
use Rattle.network.specs.Sums.{sum, only, upto}
use Rattle.network.specs.Flows.{Flow, inflow}
use Rattle.network.specs.Packed.{flow_at}
use Rattle.checker.specs.inside.Sizes.{amount_size}

-- each element's size is at most k
abbrev pub Within : List ℤ → ℕ → Type 0
Within b k = (u : ℕ) → u < length b → nat_abs (get_or b u (pos 0)) ≤ k

-- x is added at v, where the list has a v
pub record Shifted (old : List ℤ) (v : ℕ) (x : ℤ) (new : List ℤ) : Type 0 where
  pub size : length new ≡ length old
  pub moved : (u : ℕ) → u < length old → get_or new u (pos 0) ≡ get_or old u (pos 0) +ℤ only v x u

-- what a flow brings to its ends is added, and the flow is a number of 32 bits
pub record Brought (f : Flow) (old new : List ℤ) : Type 0 where
  pub size : length new ≡ length old
  pub moved : (u : ℕ) → u < length old → get_or new u (pos 0) ≡ get_or old u (pos 0) +ℤ inflow u f
  pub small : nat_abs f.amount ≤ amount_size

-- each element is what the first n flows bring to its node
pub record Balanced (a : List ℕ) (y : List ℤ) (n : ℕ) (old new : List ℤ) : Type 0 where
  pub size : length new ≡ length old
  pub sums : (u : ℕ) → u < length old → get_or new u (pos 0) ≡ sum (inflow u) (upto n (flow_at a y))
