-- What a sheet's packed edges count, from each node on, is what its traces count in a drawing: a packed edge has the ends of its edge and,
-- if it is plain, the weight. So it is the running sum and, from node 0 on, the total, far below the greatest number of 32 bits.
use Rattle.std.specs.Prelude.{ℕ, zero, suc, ◌+◌, ◌*◌, ◌/◌, min, ◌≡◌, refl, Bool, cond, List, [], ◌∷◌, map, leb, length}
use Rattle.std.proofs.Common.{sym, ◌∙◌, ap, ap₂, subst, mul-zero, arith, eqb→eq}
use Rattle.std.proofs.Math.Dec.{T}
use Rattle.std.proofs.lemmas.List.{length-map}
use Rattle.network.specs.Sums.{sumℕ, sum_to, all}
use Rattle.network.specs.Packed.{stride, packs}
use Rattle.network.proofs.laws.PackedBack.{packs_length}
use Rattle.network.specs.laws.SumsTo.{sum_to_first}
use Rattle.drawing.specs.Sheet.{Edge, Sheet}
use Rattle.drawing.specs.Traces.{traces}
use Rattle.drawing.specs.Drawing.{coordinate, aligned, edge_aligned, edge_length, weighted_length, total_length, total_from, Drawing}
use Rattle.drawing.specs.Arcs.{edge_arc}
use Rattle.drawing.specs.Proper.{proper_edge, Proper}
use Rattle.drawing.proofs.laws.AlignedTraces.{aligned_traces}
use Rattle.drawing.specs.Carriers.{At}
use Rattle.drawing.specs.laws.Carriers.{at_listed}
use Rattle.drawing.specs.Carriers.At.{here, later}
use Rattle.drawing.proofs.laws.ProperEdges.{edge_parts, proper_traces}
use Rattle.drawing.proofs.laws.RunningSums as drawing
use Rattle.leb128.specs.Words.{u32_most}
use Rattle.arcs.specs.Held.{Packs}
use Rattle.arcs.specs.laws.PackedEdges.{packed_edge}
use Rattle.totals.specs.laws.LowerEnds.{from_all}
use Rattle.packed.specs.Ends.{edge_from, lower_at, weight_at}
use Rattle.totals.specs.Lengths.{distance, counted_at, lengths_of, lengths_where, lengths_from}

-- what a packed edge counts is the edge's length times its weight, where a straight edge is straight
edge_counted : (p : List ℕ) {s : List ℕ} {e : Edge} → Packs s e → T (edge_aligned p e) → counted_at p s ≡ weighted_length p e
edge_counted p {s} {e} packed t =
    ap₂ (λ (u v : ℕ). weight_at s * distance (coordinate p u) (coordinate p v)) packed.upper packed.lower
    ∙ by_kind e.kind packed.weight t
  where
    -- a straight edge has no length
    by_kind : (kind : ℕ) {w : ℕ} → (kind ≡ 0 → w ≡ e.weight) → T (aligned kind (coordinate p e.upper) (coordinate p e.lower))
        → w * edge_length p e ≡ weighted_length p e
    by_kind zero weight t = ap (λ (w : ℕ). w * edge_length p e) (weight refl)
    by_kind (suc kind) {w} weight t =
        let none : edge_length p e ≡ 0 = omega (arith, eqb→eq (coordinate p e.upper) (coordinate p e.lower) t) in
        rw none (mul-zero w ∙ sym (mul-zero e.weight))

-- a sum over indices is that over the edges that stand there
sum_at : (es : List Edge) (f : ℕ → ℕ) (g : Edge → ℕ) → ((i : ℕ) (e : Edge) → At es i e → f i ≡ g e)
    → sum_to (length es) f ≡ sumℕ g es
unfolding sum_to
sum_at [] f g h = refl
sum_at (e ∷ es) f g h = sum_to_first (length es) f ∙ ap₂ ◌+◌ (h 0 e here) (sum_at es (λ i. f (suc i)) g (λ i x a. h (suc i) x (later a)))

-- what packed edges count whose lower end passes a test
edges_where : (n : ℕ) (p : List ℕ) (test : ℕ → Bool) (es : List Edge) → T (all (proper_edge n) es) → T (all (edge_aligned p) es)
    → lengths_where test p (packs (map edge_arc es)) ≡ sumℕ (λ e. cond (test e.lower) (weighted_length p e) 0) es
edges_where n p test es proper aligned =
    let s : List ℕ = packs (map edge_arc es) in
    let f : ℕ → ℕ = λ i. cond (test (lower_at (edge_from i s))) (counted_at p (edge_from i s)) 0 in
    let count : length s / stride ≡ length es = omega (arith, packs_length (map edge_arc es), length-map es edge_arc) in
    ap (λ (k : ℕ). sum_to k f) count ∙ sum_at es f _ each
  where
    -- one of them
    each : (i : ℕ) (e : Edge) → At es i e
        → cond (test (lower_at (edge_from i (packs (map edge_arc es))))) (counted_at p (edge_from i (packs (map edge_arc es)))) 0
        ≡ cond (test e.lower) (weighted_length p e) 0
    each i e a =
        let packed : Packs (edge_from i (packs (map edge_arc es))) e =
        packed_edge a (edge_parts n e ((at_listed a).passes (proper_edge n) proper)).weight in
        ap₂ (λ (x k : ℕ). cond (test x) k 0) packed.lower (edge_counted p packed ((at_listed a).passes (edge_aligned p) aligned))

module _ (S : Sheet) (p : List ℕ) (proper : Proper S) (d : Drawing S p) where
  -- a sheet's packed edges
  abbrev packed_edges : List ℕ
  packed_edges = packs (map edge_arc (traces S.edges))

  -- what they count from a node on is what the traces count
  sheet_from : (v : ℕ) → lengths_from v p packed_edges ≡ total_from v S p
  unfolding total_from
  sheet_from v =
      edges_where S.nodes p (leb v) (traces S.edges) (proper_traces S proper)
      (subst T (sym (aligned_traces p S.edges)) d.straight)

  -- which is what a running sum of the code is: no cap is reached
  pub running_sum : (v : ℕ) → min u32_most (lengths_from v p (packs (map edge_arc (traces S.edges)))) ≡ total_from v S p
  running_sum v = omega (arith, sheet_from v, drawing.from_small S p v proper d)

  -- and from node 0 on, the total
  pub drawing_total : min u32_most (lengths_of p (packs (map edge_arc (traces S.edges)))) ≡ total_length S p
  drawing_total = ap (min u32_most) (sym (from_all p packed_edges)) ∙ running_sum 0 ∙ drawing.from_all S p
