-- Every node of a sheet hangs on ground, by its left boundary or by the minimum separation from its left neighbour; so
-- every integer solution of a sheet's network is a drawing, from 0 to the width.
use Rattle.std.specs.Prelude.{ℕ, zero, suc, ◌+◌, ◌-◌, ◌≤◌, ◌<◌, ◌≡◌, refl, ℤ, pos, neg_ℤ, length, get_or, drop, ◌≤ℤ◌}
use Rattle.std.proofs.Common.{zero-le, sym, subst, inl, inr, ⊎_elim, arith}
use mathlib.Core.List.{List, [], ◌∷◌, ◌++◌, map, flat_map}
use Rattle.std.specs.Int.Signed.{le_z_yes}
use Rattle.leb128.specs.laws.Cases.{lt_or_le, eq_or_ne}
use Rattle.network.specs.Network.{Arc, Feasible, LeftmostLeast, integers, upper_bound}
use Rattle.network.specs.Integers.{up}
use Rattle.network.specs.laws.Tests.{listed_here}
use Rattle.network.specs.laws.Models.{leftmost_models}
use Rattle.network.specs.laws.Hanging.{Hook, Hangs, hook_first, hook_second, natural_potentials}
use Rattle.sheet.specs.Layout.{layers_at, first_layer_at, nodes_at, separations_at, separation_stride, minimum_at, maximum_at, next_layer}
use Rattle.drawing.specs.Sheet.{Pair, Layer, pairs_of, layers_of, first_nodes, sheet_of}
use Rattle.drawing.specs.Traces.{traces}
use Rattle.drawing.specs.Drawing.{Drawing, total_length, LeftmostDrawing}
use Rattle.drawing.specs.Arcs.{edge_arc, minimum_arc, maximum_arc, separation_arcs, layer_arcs, network}
use Rattle.drawing.proofs.laws.SameDrawings.{feasible_drawing, drawings_modelled}

-- a number that is taken away is not positive
minus_le : (n : ℕ) → neg_ℤ (pos n) ≤ℤ pos 0
minus_le zero = le_z_yes tt
minus_le (suc n) = le_z_yes tt

-- a pair's right node hangs on its left one
pair_hook : (nodes : ℕ) (x : Pair) → Hook nodes (separation_arcs x) (suc x.left)
pair_hook nodes x =
    record {
      arc = minimum_arc x;
      listed = listed_here (minimum_arc x) (maximum_arc x.maximum x.left ∷ []);
      tail_is = refl;
      hard = refl;
      not_right = minus_le x.minimum;
      onto = inr (omega arith);
    }

-- each node behind the first of m pairs hangs on its left neighbour
pairs_hook : (nodes m v : ℕ) (s : List ℕ) (u : ℕ) → v < u → u ≤ v + m → Hook nodes (flat_map separation_arcs (pairs_of m v s)) u
unfolding flat_map
pairs_hook nodes zero v s u h k = absurd (omega arith)
pairs_hook nodes (suc m) v s u h k =
    let x : Pair = record { left = v; minimum = get_or s minimum_at 0; maximum = get_or s maximum_at 0 } in
    let rest : List Arc = flat_map separation_arcs (pairs_of m (suc v) (drop separation_stride s)) in
    ⊎_elim
    (λ (e : u ≡ suc v). subst (λ (w : ℕ). Hook nodes (separation_arcs x ++ rest) w) (sym e)
    (hook_first (separation_arcs x) rest (pair_hook nodes x)))
    (λ (ne : u ≡ suc v → ⊥). hook_second (separation_arcs x) rest
    (pairs_hook nodes m (suc v) (drop separation_stride s) u (omega arith) (omega arith)))
    (eq_or_ne u (suc v))

-- a layer's first node hangs on ground
first_hook : (width ground : ℕ) (l : Layer) → Hook ground (layer_arcs width ground l) l.first
first_hook width ground l =
    record {
      arc = upper_bound l.first ground (pos 0);
      listed =
          listed_here (upper_bound l.first ground (pos 0))
          (flat_map separation_arcs l.pairs ++ upper_bound ground (l.first + length l.pairs) (pos width) ∷ []);
      tail_is = refl;
      hard = refl;
      not_right = le_z_yes tt;
      onto = inl (omega arith);
    }

-- each node of a layer hangs
layer_hook : (width ground c v : ℕ) (s : List ℕ) (u : ℕ) → v ≤ u → u < v + c
    → Hook ground (layer_arcs width ground (record { first = v; pairs = pairs_of (c - 1) v s })) u
layer_hook width ground c v s u h k =
    let l : Layer = record { first = v; pairs = pairs_of (c - 1) v s } in
    let left : List Arc = upper_bound v ground (pos 0) ∷ [] in
    let pairs : List Arc = flat_map separation_arcs l.pairs in
    let right : List Arc = upper_bound ground (v + length l.pairs) (pos width) ∷ [] in
    ⊎_elim
    (λ (e : u ≡ v). subst (λ (w : ℕ). Hook ground (layer_arcs width ground l) w) (sym e) (first_hook width ground l))
    (λ (ne : u ≡ v → ⊥). hook_second left (pairs ++ right)
    (hook_first pairs right (pairs_hook ground (c - 1) v s u (omega arith) (omega arith))))
    (eq_or_ne u v)

-- each node of k layers hangs
layers_hook : (width ground k v : ℕ) (s : List ℕ) (u : ℕ) → v ≤ u → u < get_or (first_nodes k v s) k 0
    → Hook ground (flat_map (layer_arcs width ground) (layers_of k v s)) u
unfolding flat_map
layers_hook width ground zero v s u h i = absurd (omega arith)
layers_hook width ground (suc k) v s u h i =
    let c : ℕ = get_or s nodes_at 0 in
    let l : Layer = record { first = v; pairs = pairs_of (c - 1) v (drop separations_at s) } in
    let rest : List Arc = flat_map (layer_arcs width ground) (layers_of k (v + c) (next_layer s)) in
    ⊎_elim
    (λ (here : u < v + c). hook_first (layer_arcs width ground l) rest (layer_hook width ground c v (drop separations_at s) u h here))
    (λ (past : v + c ≤ u). hook_second (layer_arcs width ground l) rest (layers_hook width ground k (v + c) (next_layer s) u past i))
    (lt_or_le u (v + c))

-- every node of a sheet hangs on ground
pub sheet_hangs : (s : List ℕ) → Hangs (network (sheet_of s))
unfolding network sheet_of
sheet_hangs s =
    record {
      hook = λ v h.
          hook_second (map edge_arc (traces (sheet_of s).edges))
          (flat_map (layer_arcs (sheet_of s).width (sheet_of s).nodes) (sheet_of s).layers)
          (layers_hook (sheet_of s).width (sheet_of s).nodes (get_or s layers_at 0) 0 (drop first_layer_at s) v zero-le h);
    }

-- every integer solution is a drawing, as natural numbers
pub solution_drawing : (s : List ℕ) (q : List ℤ) → Feasible (network (sheet_of s)) q
    → (integers (map up q) ≡ q) × Drawing (sheet_of s) (map up q)
solution_drawing s q f =
    let e = natural_potentials (sheet_hangs s) q f in
    (e, feasible_drawing s (map up q) (subst (Feasible (network (sheet_of s))) (sym e) f))

-- the leftmost least drawing is leftmost among the least in the network
pub drawing_leftmost : (s p : List ℕ) → LeftmostDrawing (sheet_of s) p → LeftmostLeast (network (sheet_of s)) (integers p)
drawing_leftmost s =
    leftmost_models (Drawing (sheet_of s)) (total_length (sheet_of s)) (drawings_modelled s) (λ q d. (solution_drawing s q d).0)
