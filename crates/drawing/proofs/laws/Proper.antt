-- A good sheet is proper: within document 01's limits, and every end and every neighbour is a node.
use Rattle.std.specs.Prelude.{ℕ, zero, suc, ◌+◌, ◌-◌, ◌<◌, ◌≡◌, refl, ◌&&◌, List, T, ltb, leb, length, get_or, drop}
use Rattle.std.proofs.Common.{◌∙◌, ap, arith, lt→ltb, le→leb}
use Rattle.network.specs.Sums.{all}
use Rattle.network.specs.laws.Tests.{and_both}
use Rattle.leb128.specs.Grammar.{Accepts}
use Rattle.sheet.specs.Limits.{max_separation}
use Rattle.sheet.specs.Layout.{layers_at, first_layer_at, nodes_at, separations_at, separation_stride, minimum_at, maximum_at, edge_count_at, edges_at, edge_stride, next_layer, behind_layers, node_count}
use Rattle.sheet.specs.Grammar.{sheet}
use Rattle.sheet.specs.laws.Sheets.{good_layout}
use Rattle.drawing.specs.Sheet.{Edge, pairs_of, layers_of, first_nodes, edge_of, edges_of, sheet_of}
use Rattle.drawing.specs.laws.Good.{GoodPair, GoodPairs, GoodLayers, GoodEdges}
use Rattle.drawing.specs.Proper.{not_crossed, proper_pair, proper_edge, Proper}
use Rattle.drawing.proofs.laws.ProperEdges.{parts_edge}
use Rattle.drawing.specs.laws.GoodNumbers.{last_first_node, accepts_good}

-- a good pair is proper
pair_proper : (n v : ℕ) (s : List ℕ) → suc v < n → GoodPair s
    → T (proper_pair n (record { left = v; minimum = get_or s minimum_at 0; maximum = get_or s maximum_at 0 }))
pair_proper n v s h g =
    let minimum : ℕ = get_or s minimum_at 0 in
    let maximum : ℕ = get_or s maximum_at 0 in
    and_both (ltb (suc v) n) ((leb 1 minimum && leb minimum max_separation) && (leb maximum max_separation && not_crossed minimum maximum)) (lt→ltb (suc v) n h)
    (and_both (leb 1 minimum && leb minimum max_separation) (leb maximum max_separation && not_crossed minimum maximum)
    (and_both (leb 1 minimum) (leb minimum max_separation) (le→leb 1 minimum g.minimum.0) (le→leb minimum max_separation g.minimum.1))
    (and_both (leb maximum max_separation) (not_crossed minimum maximum) (le→leb maximum max_separation g.maximum) g.apart))

-- good pairs are proper
pairs_proper : (n m v : ℕ) (s : List ℕ) → v + m < n → GoodPairs m s → T (all (proper_pair n) (pairs_of m v s))
pairs_proper n zero v s h g = tt
pairs_proper n (suc m) v s h g =
    and_both (proper_pair n (record { left = v; minimum = get_or s minimum_at 0; maximum = get_or s maximum_at 0 })) (all (proper_pair n) (pairs_of m (suc v) (drop separation_stride s)))
    (pair_proper n v s (omega arith) g.0) (pairs_proper n m (suc v) (drop separation_stride s) (omega arith) g.1)

-- good layers are proper
layers_proper : (n k v : ℕ) (s : List ℕ) → GoodLayers n k v s → T (all (λ l. all (proper_pair n) l.pairs) (layers_of k v s))
layers_proper n zero v s g = tt
layers_proper n (suc k) v s g =
    let c : ℕ = get_or s nodes_at 0 in
    and_both (all (proper_pair n) (pairs_of (c - 1) v (drop separations_at s))) (all (λ l. all (proper_pair n) l.pairs) (layers_of k (v + c) (next_layer s)))
    (pairs_proper n (c - 1) v (drop separations_at s) (omega (arith, g.0.some, g.0.room)) g.0.pairs)
    (layers_proper n k (v + c) (next_layer s) g.1)

-- good edges are proper
pub edges_proper : (n : ℕ) (first : List ℕ) (m : ℕ) (s : List ℕ) → GoodEdges n first m s
    → T (all (proper_edge n) (edges_of first m s))
edges_proper n first zero s g = tt
edges_proper n first (suc m) s g =
    let e : Edge = edge_of first s in
    and_both (proper_edge n e) (all (proper_edge n) (edges_of first m (drop edge_stride s)))
    (parts_edge n e (record { upper = g.0.upper; lower = g.0.lower; kind = g.0.kind; weight = omega arith }))
    (edges_proper n first m (drop edge_stride s) g.1)

-- there are as many edges as their count says
pub edges_length : (first : List ℕ) (m : ℕ) (s : List ℕ) → length (edges_of first m s) ≡ m
edges_length first zero s = refl
edges_length first (suc m) s = ap suc (edges_length first m (drop edge_stride s))

-- a sheet has as many nodes as its layers say
pub nodes_are : (s : List ℕ) → (sheet_of s).nodes ≡ node_count s
unfolding sheet_of
nodes_are s = last_first_node (get_or s layers_at 0) 0 (drop first_layer_at s) ∙ omega arith

-- accepted numbers are a proper sheet's
pub accepts_proper : (s : List ℕ) → Accepts sheet s → Proper (sheet_of s)
unfolding sheet_of
accepts_proper s a =
    let k : ℕ = get_or s layers_at 0 in
    let t : List ℕ = drop first_layer_at s in
    let first : List ℕ = first_nodes k 0 t in
    let behind : List ℕ = behind_layers k t in
    let g = accepts_good (get_or first k 0) (omega (arith, nodes_are s)) a in
    record {
      width = g.width;
      nodes = omega (arith, nodes_are s, (good_layout s a).nodes);
      few = omega (arith, g.rest.few, edges_length first (get_or behind edge_count_at 0) (drop edges_at behind));
      pairs = layers_proper (get_or first k 0) k 0 t g.layers;
      ends = edges_proper (get_or first k 0) first (get_or behind edge_count_at 0) (drop edges_at behind) g.rest.edges;
    }
