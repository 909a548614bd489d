-- Document 01's drawings and totals are those of the network, and so are least and leftmost: each arc tests and costs
-- what document 01 says.
use Rattle.std.specs.Prelude.{◌≡◌, refl, ◌&&◌, get_or, drop}
use Rattle.std.proofs.Math.Path.{sym, ap₂}
use Rattle.std.proofs.Common.{◌∙◌, ap, subst, ⊎_elim, le_of_eq, le_trans, arith, leb→le}
use mathlib.Core.List.{List, [], ◌∷◌, map, flat_map}
use Rattle.std.proofs.Math.Bool.{Bool}
use Prim.Native.Nat.{ℕ, zero, suc, ◌+◌, ◌-◌, ◌≤◌, ◌<◌, zero-le}
use Rattle.std.proofs.Math.Dec.{T, leb, le→leb}
use Rattle.std.proofs.Math.ListN.{length, length-map, get_or-eq_default}
use Rattle.std.proofs.Math.IntN.{ℤ, pos, ◌+ℤ◌, +ℤ_idr}
use Rattle.leb128.specs.laws.Cases.{lt_or_le, eq_or_ne}
use Rattle.network.specs.Sums.{sum, all}
use Rattle.network.specs.laws.Tests.{and_left, and_right, and_both, all_ext, all_and, all_map, all_append, all_flat, all_image}
use Rattle.network.specs.laws.Sums.{sum_append, sum_image, sum_flat, sum_null, sum_pos}
use Rattle.network.specs.Network.{Arc, Feasible, integers, Least, LeftmostLeast, legal, cost, total}
use Rattle.drawing.specs.Sheet.{Pair, Layer, Edge, Sheet, pairs_of, layers_of, first_nodes, sheet_of}
use Rattle.drawing.specs.Traces.{traces}
use Rattle.sheet.specs.Layout.{layers_at, first_layer_at, nodes_at, separations_at, separation_stride, minimum_at, maximum_at, next_layer}
use Rattle.drawing.specs.Drawing.{coordinate, within_maximum, separated, edge_aligned, Drawing, weighted_length, total_length}
use Rattle.drawing.specs.Drawing.{LeastDrawing, LeftmostDrawing}
use Rattle.drawing.specs.Arcs.{edge_arc, layer_arcs, network}
use Rattle.network.specs.laws.Integers.{+ℤ_none}
use Rattle.network.specs.laws.Models.{Models, models_least, models_leftmost}
use Rattle.drawing.proofs.laws.AlignedTraces.{aligned_traces}
use Rattle.drawing.proofs.laws.ArcTests.{edge_is, layer_is, edge_cost, layer_cost}

-- a layer's pairs have their separations, and its last node is within the width
abbrev layer_test : ℕ → List ℕ → Layer → Bool
layer_test width p l = all (separated p) l.pairs && leb (coordinate p (l.first + length l.pairs)) width

-- the arcs of a sheet are legal where straight edges are straight and each layer passes its test
legals_is : (S : Sheet) (p : List ℕ) → coordinate p S.nodes ≡ 0
    → all (legal (integers p)) (network S).arcs ≡ (all (edge_aligned p) S.edges && all (layer_test S.width p) S.layers)
unfolding network
legals_is S p e =
    let arcs : Layer → List Arc = layer_arcs S.width S.nodes in
    let test : Arc → Bool = legal (integers p) in
    let ts : List Edge = traces S.edges in
    all_append test (map edge_arc ts) (flat_map arcs S.layers)
    ∙ ap₂ ◌&&◌
    (all_image test edge_arc ts
    ∙ all_ext (λ x. test (edge_arc x)) (edge_aligned p) (λ x. edge_is p x.kind x.weight x.upper x.lower) ts
    ∙ aligned_traces p S.edges)
    (all_flat test arcs S.layers ∙ all_ext (λ l. all test (arcs l)) (layer_test S.width p) (layer_is p S.width S.nodes e)
    S.layers)

-- where every coordinate is within w, each node's is
pub inside_at : (w : ℕ) (p : List ℕ) → T (all (λ x. leb x w) p) → (v : ℕ) → coordinate p v ≤ w
inside_at w [] t v = zero-le
inside_at w (x ∷ p) t zero = leb→le x w (and_left (leb x w) (all (λ x. leb x w) p) t)
inside_at w (x ∷ p) t (suc v) = inside_at w p (and_right (leb x w) (all (λ x. leb x w) p) t) v

-- where each node's coordinate is within w, every one is
pub at_inside : (w : ℕ) (p : List ℕ) → ((v : ℕ) → v < length p → coordinate p v ≤ w) → T (all (λ x. leb x w) p)
at_inside w [] f = tt
at_inside w (x ∷ p) f =
    and_both (leb x w) (all (λ x. leb x w) p) (le→leb x w (f 0 (omega arith)))
    (at_inside w p (λ v h. f (suc v) (omega arith)))

module _ (S : Sheet) (p : List ℕ) where
  -- ground, the node behind the last one, stands at 0
  pub ground_zero : length p ≡ S.nodes → coordinate p S.nodes ≡ 0
  ground_zero e = get_or-eq_default p 0 (omega arith)

  -- a drawing is feasible in the network
  pub drawing_feasible : Drawing S p → Feasible (network S) (integers p)
  unfolding network
  drawing_feasible d =
      let last : Layer → ℕ = λ l. l.first + length l.pairs in
      let apart : Layer → Bool = λ l. all (separated p) l.pairs in
      let within : Layer → Bool = λ l. leb (coordinate p (last l)) S.width in
      record {
        size = length-map p pos ∙ d.size;
        legals = rw (legals_is S p (ground_zero d.size))
            (and_both (all (edge_aligned p) S.edges) (all (layer_test S.width p) S.layers) d.straight
            (rw (all_and apart within S.layers)
            (and_both (all apart S.layers) (all within S.layers) d.separations
            (always within (λ l. le→leb (coordinate p (last l)) S.width (inside_at S.width p d.inside (last l))) S.layers))));
      }
    where
      -- a test that each layer passes, all layers of a list pass
      always : (t : Layer → Bool) → ((l : Layer) → T (t l)) → (ls : List Layer) → T (all t ls)
      always t f [] = tt
      always t f (l ∷ ls) = and_both (t l) (all t ls) (f l) (always t f ls)

  -- a drawing's total is its total in the network
  pub same_total : Drawing S p → total (network S) (integers p) ≡ pos (total_length S p)
  unfolding network total total_length
  same_total d =
      let arcs : Layer → List Arc = layer_arcs S.width S.nodes in
      let costs : Arc → ℤ = cost (integers p) in
      let ts : List Edge = traces S.edges in
      sum_append costs (map edge_arc ts) (flat_map arcs S.layers)
      ∙ ap₂ ◌+ℤ◌
      (sum_image costs edge_arc ts
      ∙ sum_pos (edge_aligned p) (λ e. costs (edge_arc e)) (weighted_length p)
      (λ e. edge_cost p e.kind e.weight e.upper e.lower) ts (subst T (sym (aligned_traces p S.edges)) d.straight))
      (sum_flat costs arcs S.layers ∙ sum_null (λ l. sum costs (arcs l)) (layer_cost p S.width S.nodes) S.layers)
      ∙ +ℤ_idr (pos (total_length S p))

-- there are as many pairs as are asked for
pub length_pairs : (c v : ℕ) (s : List ℕ) → length (pairs_of c v s) ≡ c
length_pairs zero v s = refl
length_pairs (suc c) v s = ap suc (length_pairs c (suc v) (drop separation_stride s))

-- the last of a layer's nodes is the rightmost, with one more node on the left
one_more : (p : List ℕ) (c v : ℕ) → coordinate p v ≤ coordinate p (suc v)
    → ((u : ℕ) → suc v ≤ u → u ≤ suc v + c → coordinate p u ≤ coordinate p (suc v + c))
    → (u : ℕ) → v ≤ u → u ≤ v + suc c → coordinate p u ≤ coordinate p (v + suc c)
one_more p c v step rest u a b =
    let same : suc v + c ≡ v + suc c = omega arith in
    subst (λ (w : ℕ). coordinate p u ≤ coordinate p w) same
    (⊎_elim
    (λ (e : u ≡ v). subst (λ (w : ℕ). coordinate p w ≤ coordinate p (suc v + c)) (sym e)
    (omega (arith, rest (suc v) (omega arith) (omega arith))))
    (λ (ne : u ≡ v → ⊥). rest u (omega arith) (omega arith))
    (eq_or_ne u v))

-- a pair's right node is the minimum separation or more right of its left one
pub separated_least : (p : List ℕ) (x : Pair) → T (separated p x)
    → coordinate p x.left + x.minimum ≤ coordinate p (suc x.left)
separated_least p x t =
    leb→le (coordinate p x.left + x.minimum) (coordinate p (suc x.left))
    (and_left (leb (coordinate p x.left + x.minimum) (coordinate p (suc x.left)))
    (within_maximum x.maximum (coordinate p x.left) (coordinate p (suc x.left))) t)

-- no node of c pairs is right of the last one
rightmost : (p : List ℕ) (c v : ℕ) (s : List ℕ) → T (all (separated p) (pairs_of c v s)) → (u : ℕ) → v ≤ u → u ≤ v + c
    → coordinate p u ≤ coordinate p (v + c)
rightmost p zero v s t u a b = le_of_eq (ap (coordinate p) (omega arith))
rightmost p (suc c) v s t u a b =
    let x : Pair = record { left = v; minimum = get_or s minimum_at 0; maximum = get_or s maximum_at 0 } in
    let xs : List Pair = pairs_of c (suc v) (drop separation_stride s) in
    one_more p c v (omega (arith, separated_least p x (and_left (separated p x) (all (separated p) xs) t)))
    (rightmost p c (suc v) (drop separation_stride s) (and_right (separated p x) (all (separated p) xs) t)) u a b

-- the nodes of a layer of c nodes that passes its test are within the width
in_layer : (width : ℕ) (p : List ℕ) (c v : ℕ) (s : List ℕ) → T (layer_test width p (record { first = v; pairs = pairs_of (c - 1) v s }))
    → (u : ℕ) → v ≤ u → u < v + c → coordinate p u ≤ width
in_layer width p c v s t u a b =
    let xs : List Pair = pairs_of (c - 1) v s in
    let last : coordinate p (v + length xs) ≤ width =
    leb→le (coordinate p (v + length xs)) width (and_right (all (separated p) xs) (leb (coordinate p (v + length xs)) width) t) in
    le_trans (rightmost p (c - 1) v s (and_left (all (separated p) xs) (leb (coordinate p (v + length xs)) width) t) u a (omega arith))
    (subst (λ (n : ℕ). coordinate p (v + n) ≤ width) (length_pairs (c - 1) v s) last)

-- the nodes of layers that pass their tests are within the width
in_layers : (width : ℕ) (p : List ℕ) (k v : ℕ) (s : List ℕ) → T (all (layer_test width p) (layers_of k v s))
    → (u : ℕ) → v ≤ u → u < get_or (first_nodes k v s) k 0 → coordinate p u ≤ width
in_layers width p zero v s t u a b = absurd (omega arith)
in_layers width p (suc k) v s t u a b =
    let c : ℕ = get_or s nodes_at 0 in
    let l : Layer = record { first = v; pairs = pairs_of (c - 1) v (drop separations_at s) } in
    let ls : List Layer = layers_of k (v + c) (next_layer s) in
    ⊎_elim
    (λ (here : u < v + c). in_layer width p c v (drop separations_at s)
    (and_left (layer_test width p l) (all (layer_test width p) ls) t) u a here)
    (λ (past : v + c ≤ u). in_layers width p k (v + c) (next_layer s)
    (and_right (layer_test width p l) (all (layer_test width p) ls) t) u past b)
    (lt_or_le u (v + c))

module _ (s p : List ℕ) where
  -- natural numbers that are feasible in the network are a drawing
  pub feasible_drawing : Feasible (network (sheet_of s)) (integers p) → Drawing (sheet_of s) p
  unfolding network sheet_of
  feasible_drawing d =
      let S : Sheet = sheet_of s in
      let size : length p ≡ S.nodes = sym (length-map p pos) ∙ d.size in
      let t : T (all (edge_aligned p) S.edges && all (layer_test S.width p) S.layers) =
      rw (legals_is S p (ground_zero S p size)) at d.legals in
      let ls : T (all (layer_test S.width p) S.layers) =
      and_right (all (edge_aligned p) S.edges) (all (layer_test S.width p) S.layers) t in
      record {
        size = size;
        inside =
            at_inside S.width p
            (λ v h. in_layers S.width p (get_or s layers_at 0) 0 (drop first_layer_at s) ls v zero-le (omega arith));
        separations = all_map (layer_test S.width p) (λ l. all (separated p) l.pairs)
            (λ l. and_left (all (separated p) l.pairs) (leb (coordinate p (l.first + length l.pairs)) S.width)) S.layers ls;
        straight = and_left (all (edge_aligned p) S.edges) (all (layer_test S.width p) S.layers) t;
      }

-- the network of a sheet models its drawings and their totals
pub drawings_modelled : (s : List ℕ) → Models (Drawing (sheet_of s)) (total_length (sheet_of s)) (network (sheet_of s)) (pos 0)
drawings_modelled s = record {
  feasible = drawing_feasible (sheet_of s);
  candidate = feasible_drawing s;
  totals = λ q d. sym (same_total (sheet_of s) q d) ∙ sym (+ℤ_none (total (network (sheet_of s)) (integers q)));
}

-- what is least in the network is a least drawing
pub least_drawing : (s p : List ℕ) → Least (network (sheet_of s)) (integers p) → LeastDrawing (sheet_of s) p
least_drawing s = models_least (Drawing (sheet_of s)) (total_length (sheet_of s)) (drawings_modelled s)

-- what is leftmost among the least in the network is the leftmost least drawing
pub leftmost_drawing : (s p : List ℕ) → LeftmostLeast (network (sheet_of s)) (integers p) → LeftmostDrawing (sheet_of s) p
leftmost_drawing s = models_leftmost (Drawing (sheet_of s)) (total_length (sheet_of s)) (drawings_modelled s)
