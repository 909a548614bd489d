-- What the promises determine: the leftmost least drawing is one, and its total is small.
use Rattle.std.specs.Prelude.{◌≡◌, List, [], ◌∷◌, ℕ, ◌*◌, ◌≤◌, Bool, length, T}
use Rattle.std.proofs.Common.{sym, ◌∙◌, mul-le-mul, arith}
use Rattle.network.specs.Sums.{sumℕ, all}
use Rattle.network.specs.laws.Tests.{and_left, and_right}
use Rattle.network.specs.laws.LeftmostUnique.{leftmost_one}
use Rattle.sheet.specs.Limits.{max_width, max_edges, max_weight}
use Rattle.drawing.specs.Sheet.{Edge, Sheet}
use Rattle.drawing.specs.Traces.{traces}
use Rattle.drawing.specs.Proper.{max_total, proper_edge, Proper}
use Rattle.drawing.specs.Drawing.{Drawing, weighted_length, total_length, LeftmostDrawing}
use Rattle.drawing.specs.laws.Traces.{traces_length}
use Rattle.drawing.proofs.laws.ProperEdges.{edge_parts, proper_traces}
use Rattle.drawing.proofs.laws.SameDrawings.{inside_at}

-- a sheet has one leftmost least drawing at most
pub leftmost_unique : (S : Sheet) (p q : List ℕ) → LeftmostDrawing S p → LeftmostDrawing S q → p ≡ q
leftmost_unique S p q a b =
    leftmost_one (Drawing S) (total_length S) p q (a.is_least.candidate.size ∙ sym b.is_least.candidate.size) a b

-- numbers of at most w for each edge that passes a test add up to at most w for each edge
sum_le : (t : Edge → Bool) (f : Edge → ℕ) (w : ℕ) → ((e : Edge) → T (t e) → f e ≤ w)
    → (es : List Edge) → T (all t es) → sumℕ f es ≤ length es * w
sum_le t f w h [] a = omega arith
sum_le t f w h (e ∷ es) a = omega (arith, h e (and_left (t e) (all t es) a), sum_le t f w h es (and_right (t e) (all t es) a))

-- no edge counts more than the width times the greatest weight, so no total is above their product with the count of edges
pub total_le : (S : Sheet) (p : List ℕ) → Proper S → Drawing S p → total_length S p ≤ length S.edges * (max_weight * S.width)
unfolding total_length
total_le S p proper d =
    rw (← traces_length S.edges)
    (sum_le (proper_edge S.nodes) (weighted_length p) (max_weight * S.width)
    (λ e t. mul-le-mul (edge_parts S.nodes e t).weight
    (omega (arith, inside_at S.width p d.inside e.upper, inside_at S.width p d.inside e.lower)))
    (traces S.edges) (proper_traces S proper))

-- so no total of a proper sheet is above the greatest number of edges × the greatest weight × the greatest width
pub total_small : (S : Sheet) (p : List ℕ) → Proper S → Drawing S p → total_length S p ≤ max_edges * (max_weight * max_width)
total_small S p proper d = omega (arith, total_le S p proper d, mul-le-mul proper.few proper.width)

-- which is 2,096,640
pub total_most : (S : Sheet) (p : List ℕ) → Proper S → Drawing S p → total_length S p ≤ max_total
total_most S p proper d = omega (arith, total_small S p proper d)
