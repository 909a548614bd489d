-- What packed edges count: their lengths (runs) times their weights, added.
use Rattle.std.specs.Prelude.{ℕ, ◌+◌, ◌-◌, ◌*◌, ◌/◌, Bool, cond, ◌&&◌, List, leb, ltb, length}
use Rattle.network.specs.Sums.{sum_to}
use Rattle.network.specs.Packed.{stride}
use Rattle.drawing.specs.Drawing.{coordinate}
use Rattle.packed.specs.Ends.{edge_from, upper_at, lower_at, weight_at}

-- how far apart two coordinates are
abbrev pub distance : ℕ → ℕ → ℕ
distance a b = (b - a) + (a - b)

-- the length of the packed edge in front of s, at coordinates p
abbrev pub length_at : List ℕ → List ℕ → ℕ
length_at p s = distance (coordinate p (upper_at s)) (coordinate p (lower_at s))

-- what it counts
abbrev pub counted_at : List ℕ → List ℕ → ℕ
counted_at p s = weight_at s * length_at p s

-- what all packed edges of s count, added; numbers behind the last whole one are not looked at
abbrev pub lengths_of : List ℕ → List ℕ → ℕ
lengths_of p s = sum_to (length s / stride) (λ i. counted_at p (edge_from i s))

-- the same of those whose lower end passes a test
abbrev pub lengths_where : (ℕ → Bool) → List ℕ → List ℕ → ℕ
lengths_where test p s = sum_to (length s / stride) (λ i. cond (test (lower_at (edge_from i s))) (counted_at p (edge_from i s)) 0)

-- of those whose lower end is node v or one behind it
abbrev pub lengths_from : ℕ → List ℕ → List ℕ → ℕ
lengths_from v = lengths_where (leb v)

-- of those whose lower end is node v or one behind it, and before node w
abbrev pub lengths_between : ℕ → ℕ → List ℕ → List ℕ → ℕ
lengths_between v w = lengths_where (λ x. leb v x && ltb x w)
