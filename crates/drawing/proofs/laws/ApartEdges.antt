-- Edges of which no two are parallel carry themselves, since no list but `traces` is what edges carry. So the total of a sheet without
-- parallel edges is the sum of all lengths, as in document 01; with them it is at most that sum.
use Rattle.std.specs.Prelude.{ℕ, zero, suc, ◌≤◌, ◌≡◌, refl, Bool, true, not, ◌&&◌, List, [], ◌∷◌, T, leb, eqb, get_or, drop}
use Rattle.std.proofs.Common.{◌∙◌, ap, add-le-add, mul-le-mul_right, arith, le→leb, eqb→eq}
use Rattle.sheet.specs.Layout.{layers_at, first_layer_at, edge_count_at, edges_at, edge_stride, behind_layers}
use Rattle.network.specs.Sums.{all, sumℕ}
use Rattle.network.specs.laws.Tests.{chosen, and_left, and_right, and_both, all_map}
use Rattle.network.specs.laws.Sums.{sumℕ_ext}
use Rattle.drawing.specs.Sheet.{Edge, Sheet, first_nodes, edges_of, sheet_of}
use Rattle.drawing.specs.Traces.{any_parallel, greatest_parallel, whole_trace, bare, traces_behind, traces}
use Rattle.drawing.specs.Drawing.{edge_length, weighted_length, total_length}
use Rattle.drawing.specs.laws.Traces.{greatest_le}
use Rattle.drawing.specs.Carriers.{At, NoneOf, Greatest, Carried, Apart}
use Rattle.drawing.specs.laws.Carriers.{ends_back, ends_own, at_one, itself, carried_unique}
use Rattle.drawing.specs.Carriers.At.{here, later}
use Rattle.drawing.proofs.laws.CarriedTraces.{none_parallel, parallel_none, traces_are}

-- no two edges have the same ends, as a test
abbrev pub apart : List Edge → Bool
apart [] = true
apart (e ∷ es) = not (any_parallel e es) && apart es

-- the first of edges that pass the test has its ends alone
alone : (e : Edge) (es : List Edge) → T (apart (e ∷ es)) → NoneOf es e
alone e es t = none_parallel e es (and_left (not (any_parallel e es)) (apart es) t)

-- edges that pass the test are apart
pub test_apart : (es : List Edge) → T (apart es) → Apart es
test_apart [] t i j a b x4 _ s = elim x4 [ ]
test_apart (e ∷ es) t zero zero a b here here s = refl
test_apart (e ∷ es) t zero (suc j) a b here (later q) s = absurd (alone e es t j b q (ends_back s))
test_apart (e ∷ es) t (suc i) zero a b (later p) here s = absurd (alone e es t i a p s)
test_apart (e ∷ es) t (suc i) (suc j) a b (later p) (later q) s =
    ap suc (test_apart es (and_right (not (any_parallel e es)) (apart es) t) i j a b p q s)

-- and edges that are apart pass it
pub apart_test : (es : List Edge) → Apart es → T (apart es)
apart_test [] f = tt
apart_test (e ∷ es) f =
    and_both (not (any_parallel e es)) (apart es)
    (parallel_none e es (λ j x a s. omega (arith, f (suc j) 0 x e (later a) here s)))
    (apart_test es (λ i j a b p q s. omega (arith, f (suc i) (suc j) a b (later p) (later q) s)))

module _ (es : List Edge) (f : Apart es) where
  -- the greatest of an edge that is apart is its own
  own_greatest : (g : Edge → ℕ) {i : ℕ} {e : Edge} → At es i e → Greatest es e g (g e)
  own_greatest g {i} {e} a = record {
    most = λ j x b s. omega (arith, ap g (at_one (rw (f j i x e b a s) at b) a));
    attained = itself (λ j x. g x ≡ g e) a refl;
  }

  -- so it carries itself
  own_carried : {i : ℕ} {e : Edge} → At es i e → Carried es i e e
  own_carried {i} {e} a = record {
    first = λ n. record { ends = ends_own e; kind = own_greatest (λ x. x.kind) a; weight = own_greatest (λ x. x.weight) a };
    other = λ n. absurd (n (λ j x h b s. omega (arith, f j i x e b a s)));
  }

  -- the traces of edges that are apart are these edges
  pub traces_apart : traces es ≡ es
  traces_apart = carried_unique (traces_are es) (record { size = refl; each = λ i e t a b. rw (at_one b a) (own_carried a) })

-- so the total is the sum of what they count
pub total_apart : (S : Sheet) (p : List ℕ) → Apart S.edges → total_length S p ≡ sumℕ (weighted_length p) S.edges
unfolding total_length
total_apart S p f = ap (sumℕ (weighted_length p)) (traces_apart S.edges f)

-- edges of numbers weigh 1
weights : (first : List ℕ) (n : ℕ) (s : List ℕ) → T (all (λ e. eqb e.weight 1) (edges_of first n s))
weights first zero s = tt
weights first (suc n) s = weights first n (drop edge_stride s)

-- so do those of a sheet
sheet_weights : (s : List ℕ) → T (all (λ e. eqb e.weight 1) (sheet_of s).edges)
unfolding sheet_of
sheet_weights s =
    let layers : ℕ = get_or s layers_at 0 in
    let behind : List ℕ = behind_layers layers (drop first_layer_at s) in
    weights (first_nodes layers 0 (drop first_layer_at s)) (get_or behind edge_count_at 0) (drop edges_at behind)

-- the total of a sheet of numbers whose edges are apart is the sum of their lengths
pub total_plain : (s p : List ℕ) → Apart (sheet_of s).edges → total_length (sheet_of s) p ≡ sumℕ (edge_length p) (sheet_of s).edges
total_plain s p f =
    total_apart (sheet_of s) p f
    ∙ sumℕ_ext (λ e. eqb e.weight 1) (weighted_length p) (edge_length p) (λ e t. rw (eqb→eq e.weight 1 t) (omega arith))
    (sheet_of s).edges (sheet_weights s)

-- of edges of weight at most 1 each counts at most once
behind_most : (p : List ℕ) (es before rest : List Edge) → T (all (λ e. leb e.weight 1) es)
    → sumℕ (weighted_length p) (traces_behind es before rest) ≤ sumℕ (edge_length p) rest
behind_most p es before [] t = omega arith
behind_most p es before (e ∷ rest) t =
    let weight : greatest_parallel (λ x. x.weight) e es ≤ 1 = greatest_le (λ x. x.weight) 1 e es t in
    add-le-add
    (chosen (λ x. weighted_length p x ≤ edge_length p e) (any_parallel e before) (bare e) (whole_trace es e) (λ y. omega arith)
    (λ n. omega (arith, mul-le-mul_right (edge_length p e) weight)))
    (behind_most p es (e ∷ before) rest t)

-- the total of a sheet of numbers is at most the sum of its edges' lengths
pub each_once : (s p : List ℕ) → total_length (sheet_of s) p ≤ sumℕ (edge_length p) (sheet_of s).edges
unfolding total_length traces
each_once s p =
    let es : List Edge = (sheet_of s).edges in
    behind_most p es [] es
    (all_map (λ e. eqb e.weight 1) (λ e. leb e.weight 1) (λ e t. le→leb e.weight 1 (omega (arith, eqb→eq e.weight 1 t))) es
    (sheet_weights s))
