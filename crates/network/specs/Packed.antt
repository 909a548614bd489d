-- A network's arcs as natural numbers, five to an arc, as a slice of 32-bit elements holds them, and what such numbers mean.
-- Kinks, limits and flows are stored with a number added, so that none is negative. Flows stand in a slice of their own.
use Rattle.std.specs.Prelude.{ℕ, suc, ◌+◌, ◌-◌, ◌*◌, Bool, true, cond, ◌&&◌, List, [], ◌∷◌, eqb, ltb, ℤ, pos, negsuc, nat_abs, ◌-ℤ◌, get_or}
use Rattle.network.specs.Sums.{upto}
use Rattle.network.specs.Network.{Limit, unlimited, limit, Arc, Network}
use Rattle.network.specs.Flows.{Flow}

-- in an arc: its tail
abbrev pub tail_at : ℕ
tail_at = 0

-- in an arc: its head
abbrev pub head_at : ℕ
head_at = 1

-- in an arc: its kink
abbrev pub kink_at : ℕ
kink_at = 2

-- in an arc: its low limit
abbrev pub low_at : ℕ
low_at = 3

-- in an arc: its high limit
abbrev pub high_at : ℕ
high_at = 4

-- from an arc to the next one
abbrev pub stride : ℕ
stride = 5

-- how many values a stored number has: 2^32
abbrev pub word_limit : ℕ
word_limit = 4294967296

-- what is added to a kink: 2^16
abbrev pub kink_zero : ℕ
kink_zero = 65536

-- what is added to a limit and to a flow: 2^28
abbrev pub flow_zero : ℕ
flow_zero = 268435456

-- an unlimited low
abbrev pub low_none : ℕ
low_none = 0

-- an unlimited high: 2^29
abbrev pub high_none : ℕ
high_none = 536870912

-- an integer with k added
abbrev pub raised : ℕ → ℤ → ℕ
raised k (pos n) = k + n
raised k (negsuc n) = k - suc n

-- a low limit as a number
abbrev pub low_number : Limit → ℕ
low_number unlimited = low_none
low_number (limit x) = raised flow_zero x

-- a high limit as a number
abbrev pub high_number : Limit → ℕ
high_number unlimited = high_none
high_number (limit x) = raised flow_zero x

-- arcs as numbers, one arc after the other
unfoldable pub packs : List Arc → List ℕ
packs [] = []
packs (a ∷ arcs) = a.tail ∷ a.head ∷ raised kink_zero a.kink ∷ low_number a.low ∷ high_number a.high ∷ packs arcs

-- the arcs of a network as numbers
unfoldable pub packed : Network → List ℕ
packed N = packs N.arcs

-- a limit that has a number of its own
abbrev pub inside : Limit → Bool
inside unlimited = true
inside (limit x) = ltb (nat_abs x) flow_zero

-- an arc that packing keeps apart from every other
abbrev pub storable : Arc → Bool
storable a = ltb (nat_abs a.kink) kink_zero && (inside a.low && inside a.high)

-- the low limit that a number means
unfoldable pub low_of : ℕ → Limit
low_of n = cond (eqb n low_none) unlimited (limit (pos n -ℤ pos flow_zero))

-- the high limit that a number means
unfoldable pub high_of : ℕ → Limit
high_of n = cond (eqb n high_none) unlimited (limit (pos n -ℤ pos flow_zero))

-- the arc that five numbers mean
abbrev pub arc_of : ℕ → ℕ → ℕ → ℕ → ℕ → Arc
arc_of t h k l u = record { tail = t; head = h; kink = pos k -ℤ pos kink_zero; low = low_of l; high = high_of u }

-- arc i of a list of numbers
abbrev pub arc_at : List ℕ → ℕ → Arc
arc_at a i =
    arc_of (get_or a (stride * i + tail_at) 0) (get_or a (stride * i + head_at) 0) (get_or a (stride * i + kink_at) 0)
    (get_or a (stride * i + low_at) 0) (get_or a (stride * i + high_at) 0)

-- the first n arcs of a list of numbers
abbrev pub arcs_to : List ℕ → ℕ → List Arc
arcs_to a n = upto n (arc_at a)

-- the network of the first n arcs of a list of numbers
abbrev pub network_of : List ℕ → ℕ → ℕ → Network
network_of a nodes n = record { nodes = nodes; arcs = arcs_to a n }

-- number i of a list of flows, on arc i
abbrev pub flow_at : List ℕ → List ℤ → ℕ → Flow
flow_at a y i = record { on = arc_at a i; amount = get_or y i (pos 0) }
