-- The ends and weights of packed edges.
use Rattle.std.specs.Prelude.{ℕ, ◌-◌, ◌*◌, ◌/◌, cond, List, [], eqb, ltb, length, get_or, drop}
use Rattle.network.specs.Packed.{tail_at, head_at, high_at, stride, flow_zero, high_none}

-- packed edge i of s and what stands behind it; where s has no such edge, nothing
abbrev pub edge_from : ℕ → List ℕ → List ℕ
edge_from i s = cond (ltb i (length s / stride)) (drop (stride * i) s) []

-- the upper end of the packed edge in front of s
abbrev pub upper_at : List ℕ → ℕ
upper_at s = get_or s tail_at 0

-- its lower end
abbrev pub lower_at : List ℕ → ℕ
lower_at s = get_or s head_at 0

-- the weight that a high limit stands for: a straight edge has none, and counts nothing
abbrev pub weight_of : ℕ → ℕ
weight_of high = cond (eqb high high_none) 0 (high - flow_zero)

-- the weight of the packed edge in front of s
abbrev pub weight_at : List ℕ → ℕ
weight_at s = weight_of (get_or s high_at 0)
