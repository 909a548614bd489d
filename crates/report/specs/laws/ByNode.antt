-- The lines of a good sheet's nodes, node after node, each with the layer and the position where it stands.
use Prim.Native.Nat.{ℕ, zero, suc, ◌+◌, ◌-◌, ◌≤◌}
use Rattle.std.specs.Prelude.{◌≡◌, length, drop}
use Rattle.std.proofs.Math.Path.{refl}
use Rattle.std.proofs.Common.{sym, ◌∙◌, ap, ap₂}
use mathlib.Core.List.{List, [], ◌++◌, append_assoc}
use native.Mathlib.Omega.{arith}
use Rattle.std.proofs.Math.ListN.{get_or}
use Rattle.sheet.specs.Layout.{layers_at, first_layer_at, nodes_at, separations_at, next_layer, nodes_of, node_count, Limited, LaidOut}
use Rattle.sheet.specs.Nodes.{Located, node_among, node_of}
use Rattle.sheet.specs.Nodes.Located.{found, missing}
use Rattle.sheet.specs.laws.Nodes.{node_here, node_past}
use Rattle.drawing.specs.Sheet.{pairs_of, layers_of, sheet_of}
use Rattle.drawing.specs.Drawing.{coordinate}
use Rattle.drawing.proofs.laws.SameDrawings.{length_pairs}
use Rattle.report.specs.Text.{node_line, node_lines, layer_lines, layers_lines}

-- the line of what stands somewhere
unfoldable pub line_of : Located → ℕ → List ℕ
line_of (found layer position) place = node_line layer position place
line_of missing place = []

-- the lines of n nodes from node v on; u nodes stand before node 0
unfoldable pub lines_from : (ℕ → Located) → List ℕ → ℕ → ℕ → ℕ → List ℕ
lines_from at p u zero v = []
lines_from at p u (suc n) v = line_of (at v) (coordinate p (u + v)) ++ lines_from at p u n (v + 1)

-- the first m nodes and the n others
lines_split : (at : ℕ → Located) (p : List ℕ) (u m n v : ℕ)
    → lines_from at p u (m + n) v ≡ lines_from at p u m v ++ lines_from at p u n (v + m)
unfolding lines_from
lines_split at p u zero n v =
    let none : 0 + n ≡ n = omega arith in
    let same : v + 0 ≡ v = omega arith in
    rw (none, same)
lines_split at p u (suc m) n v =
    let one : suc m + n ≡ suc (m + n) = omega arith in
    let same : v + 1 + m ≡ v + suc m = omega arith in
    rw (one, append_assoc) (ap (λ (l : List ℕ). line_of (at v) (coordinate p (u + v)) ++ l) (rw same at (lines_split at p u m n (v + 1))))

-- the first of suc k layers, of the numbers from it on
module _ (p : List ℕ) (k layer u : ℕ) (s : List ℕ) where
  -- the lines of m of its nodes
  lines_here : (m v : ℕ) → v + m ≤ get_or s nodes_at 0
      → lines_from (node_among (suc k) layer s) p u m v ≡ node_lines p layer m (v + 1) (u + v)
  unfolding lines_from line_of node_lines
  lines_here zero v h = refl
  lines_here (suc m) v h =
      let next : u + v + 1 ≡ u + (v + 1) = omega arith in
      rw (node_here k layer s v (omega arith), next)
      (ap (λ (l : List ℕ). node_line layer (v + 1) (coordinate p (u + v)) ++ l) (lines_here m (v + 1) (omega arith)))

  -- the lines of n nodes behind it
  lines_past : (n v : ℕ)
      → lines_from (node_among (suc k) layer s) p u n (get_or s nodes_at 0 + v)
      ≡ lines_from (node_among k (layer + 1) (next_layer s)) p (u + get_or s nodes_at 0) n v
  unfolding lines_from
  lines_past zero v = refl
  lines_past (suc n) v =
      let c : ℕ = get_or s nodes_at 0 in
      let back : c + v - c ≡ v = omega arith in
      let next : c + v + 1 ≡ c + (v + 1) = omega arith in
      let node : u + (c + v) ≡ u + c + v = omega arith in
      rw (node_past k layer s (c + v) (omega arith), back, next, node)
      (ap (λ (l : List ℕ). line_of (node_among k (layer + 1) (next_layer s) v) (coordinate p (u + c + v)) ++ l) (lines_past n (v + 1)))

-- the lines of layers are those of their nodes
layers_by_node : (p : List ℕ) (k layer u : ℕ) (s : List ℕ) → Limited k s
    → layers_lines p layer (layers_of k u s) ≡ lines_from (node_among k layer s) p u (nodes_of k s) 0
unfolding lines_from layers_lines layer_lines
layers_by_node p zero layer u s g = refl
layers_by_node p (suc k) layer u s g =
    let c : ℕ = get_or s nodes_at 0 in
    let size : suc (length (pairs_of (c - 1) u (drop separations_at s))) ≡ c = ap suc (length_pairs (c - 1) u (drop separations_at s)) ∙ omega (arith, g.0) in
    let first : u + 0 ≡ u = omega arith in
    let one : 0 + 1 ≡ 1 = omega arith in
    let here = rw first at (lines_here p k layer u s c 0 (omega arith)) in
    let past = lines_past p k layer u s (nodes_of k (next_layer s)) 0 in
    let start : 0 + c ≡ c + 0 = omega arith in
    let split = rw start at (lines_split (node_among (suc k) layer s) p u c (nodes_of k (next_layer s)) 0) in
    ap (λ (n : ℕ). node_lines p layer n 1 u ++ layers_lines p (layer + 1) (layers_of k (u + c) (next_layer s))) size
    ∙ ap (λ (l : List ℕ). node_lines p layer c 1 u ++ l) (layers_by_node p k (layer + 1) (u + c) (next_layer s) g.2)
    ∙ sym (ap₂ (λ (a b : List ℕ). a ++ b) here past)
    ∙ sym split

-- the lines of a good sheet are those of its nodes
pub by_node : (numbers p : List ℕ) → LaidOut numbers
    → layers_lines p 1 (sheet_of numbers).layers ≡ lines_from (node_of numbers) p 0 (node_count numbers) 0
unfolding sheet_of node_of
by_node numbers p good = layers_by_node p (get_or numbers layers_at 0) 1 0 (drop first_layer_at numbers) good.layers
