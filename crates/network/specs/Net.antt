-- Packed arcs by index, as the solvers read them: all numbers natural, kinks, limits and flows with a number added. Nodes
-- count from 0, and the last one is ground.
use Rattle.std.specs.Prelude.{ℕ, ◌+◌, ◌-◌, ◌*◌, ◌≡◌, List, get_or}
use Rattle.network.specs.Network.{Network}
use Rattle.network.specs.Packed.{stride, tail_at, head_at, kink_at, low_at, high_at, kink_zero, low_none, high_none, network_of}

-- the number at an index of a list; behind its end 0
abbrev pub at : List ℕ → ℕ → ℕ
at list i = get_or list i 0

-- packed arcs: the numbers, and how many arcs they are
pub record Net : Type 0 where
  pub list : List ℕ
  pub count : ℕ

-- packed arcs of their parts
abbrev pub net : List ℕ → ℕ → Net
net list count = record { list = list; count = count }

-- how many arcs
abbrev pub arcs : Net → ℕ
arcs N = N.count

-- the number of arc i at an offset
abbrev pub part : Net → ℕ → ℕ → ℕ
part N i offset = at N.list (stride * i + offset)

-- the node that arc i leaves
abbrev pub tail : Net → ℕ → ℕ
tail N i = part N i tail_at

-- the node that it enters
abbrev pub head : Net → ℕ → ℕ
head N i = part N i head_at

-- its kink, with kink_zero added
abbrev pub kink : Net → ℕ → ℕ
kink N i = part N i kink_at

-- its low limit, with flow_zero added
abbrev pub low : Net → ℕ → ℕ
low N i = part N i low_at

-- its high limit, with flow_zero added
abbrev pub high : Net → ℕ → ℕ
high N i = part N i high_at

-- the arc may not be right of its kink
abbrev pub HardHigh : Net → ℕ → Type 0
HardHigh N i = high N i ≡ high_none

-- the arc may not be left of its kink
abbrev pub HardLow : Net → ℕ → Type 0
HardLow N i = low N i ≡ low_none

-- where the head of arc i stands, with kink_zero added
abbrev pub stands : Net → (ℕ → ℕ) → ℕ → ℕ
stands N p i = p (head N i) + kink_zero

-- where its kink asks the head to stand, with kink_zero added: the arc is right of its kink where asks < stands
abbrev pub asks : Net → (ℕ → ℕ) → ℕ → ℕ
asks N p i = p (tail N i) + kink N i

-- the network that packed arcs are, of n nodes with ground
abbrev pub meant : Net → ℕ → Network
meant N n = network_of N.list (n - 1) N.count
