-- The problem of source 004 (Jünger, Mutzel and Spisla) for a sheet: integer coordinates, negative ones too, whose width is
-- the greatest minus the least.
use Rattle.std.specs.Prelude.{◌≡◌, List, [], ◌∷◌, map, Bool, true, ◌&&◌, cond, ℕ, zero, suc, ◌*◌, ◌≤◌, T, length, ℤ, pos, ◌+ℤ◌, ◌-ℤ◌, nat_abs, ◌≤ℤ◌}
use Rattle.std.specs.Int.Signed.{le_z}
use Rattle.network.specs.Integers.{eqZ, gap}
use Rattle.network.specs.Sums.{sumℕ, all}
use Rattle.network.specs.Network.{potential}
use Rattle.drawing.specs.Sheet.{Pair, Edge, Sheet}
use Rattle.drawing.specs.Traces.{traces}

-- the lesser of two
abbrev pub lesser : ℤ → ℤ → ℤ
lesser a b = cond (le_z a b) a b

-- the greater of two
abbrev pub greater : ℤ → ℤ → ℤ
greater a b = cond (le_z a b) b a

-- the least of a list; of none: 0
abbrev pub least_of : List ℤ → ℤ
least_of [] = pos 0
least_of (x ∷ []) = x
least_of (x ∷ z ∷ zs) = lesser x (least_of (z ∷ zs))

-- the greatest of a list; of none: 0
abbrev pub greatest_of : List ℤ → ℤ
greatest_of [] = pos 0
greatest_of (x ∷ []) = x
greatest_of (x ∷ z ∷ zs) = greater x (greatest_of (z ∷ zs))

-- source 004's width: the greatest minus the least
abbrev pub extent : List ℤ → ℤ
extent x = greatest_of x -ℤ least_of x

-- b is at most the maximum right of a, where one is set
abbrev pub within_maximumZ : ℕ → ℤ → ℤ → Bool
within_maximumZ zero a b = true
within_maximumZ (suc maximum) a b = le_z b (a +ℤ pos (suc maximum))

-- the separations of a pair
abbrev pub separatedZ : List ℤ → Pair → Bool
separatedZ x n = le_z (potential x n.left +ℤ pos n.minimum) (potential x (suc n.left)) && within_maximumZ n.maximum (potential x n.left) (potential x (suc n.left))

-- the ends of a straight edge are equal
abbrev pub alignedZ : ℕ → ℤ → ℤ → Bool
alignedZ zero a b = true
alignedZ (suc kind) a b = eqZ a b

-- the same of an edge
abbrev pub edge_alignedZ : List ℤ → Edge → Bool
edge_alignedZ x e = alignedZ e.kind (potential x e.upper) (potential x e.lower)

-- a coordinate for each node, with the separations in each layer, straight edges straight, and the prescribed width
pub record Assignment (S : Sheet) (x : List ℤ) : Type 0 where
  pub size : length x ≡ S.nodes
  pub separations : T (all (λ l. all (separatedZ x) l.pairs) S.layers)
  pub straight : T (all (edge_alignedZ x) S.edges)
  pub narrow : extent x ≤ℤ pos S.width

-- the (horizontal) length of an edge
abbrev pub edge_lengthZ : List ℤ → Edge → ℕ
edge_lengthZ x e = nat_abs (potential x e.lower -ℤ potential x e.upper)

-- what an edge counts in the total
abbrev pub weighted_lengthZ : List ℤ → Edge → ℕ
weighted_lengthZ x e = e.weight * edge_lengthZ x e

-- the total (horizontal) length, over all traces
unfoldable pub total_lengthZ : Sheet → List ℤ → ℕ
total_lengthZ S x = sumℕ (weighted_lengthZ x) (traces S.edges)

-- every assignment has at least this one's total length
pub record LeastAssignment (S : Sheet) (x : List ℤ) : Type 0 where
  pub assignment : Assignment S x
  pub least : (z : List ℤ) → Assignment S z → total_lengthZ S x ≤ total_lengthZ S z

-- an assignment shifted to start at 0: the distances from its least coordinate
abbrev pub shifted : List ℤ → List ℕ
shifted x = map (gap (least_of x)) x
