-- The numbers that the sheet's grammar accepts are good: each number's rule gives its limits, and the counts of nodes
-- say which positions are nodes.
use Prim.Native.Nat.{ℕ, zero, suc, ◌+◌, ◌-◌, ◌*◌, ◌≤◌, ◌<◌, min}
use Rattle.std.specs.Prelude.{◌≡◌, refl, T, length}
use Rattle.std.proofs.Common.{sym, ◌∙◌, add-zero, le→leb, get_or-drop}
use Rattle.std.proofs.Math.Path.{ap, subst}
use mathlib.Core.List.{List, [], ◌∷◌, ◌++◌, append_assoc, append-nil}
use native.Mathlib.Omega.{arith}
use Rattle.std.proofs.Math.ListN.{get_or, drop}
use Rattle.std.proofs.Math.Seq.{drop-drop}
use Rattle.leb128.specs.Grammar.{Grammar, Accepts}
use Rattle.leb128.specs.laws.EachNumber.{within_limits}
use Rattle.sheet.specs.Limits.{max_width, max_layers, max_layer_nodes, max_nodes, max_separation, max_edges, max_kind}
use Rattle.sheet.specs.Layout.{layers_at, first_layer_at, nodes_at, edge_count_at, edge_stride, edge_layer_at, edge_upper_at, edge_lower_at, edge_kind_at, next_layer, behind_layers, nodes_of, node_count}
use Rattle.sheet.specs.Grammar.{maximum_rule, separation, separations, layers, edge, edges, sheet}
use Rattle.sheet.specs.laws.SheetNumbers.{maximum_within, maximum_apart}
use Rattle.sheet.specs.laws.LaidOut.{opened, behind_layer}
use Rattle.drawing.specs.Sheet.{first_nodes}
use Rattle.drawing.specs.laws.Good.{GoodPairs, GoodLayers, GoodEdges, Good}
use Rattle.drawing.specs.Proper.{not_crossed}

-- a maximum that is accepted is not crossed
apart : (minimum maximum : ℕ) → maximum_rule minimum maximum ≡ 0 → T (not_crossed minimum maximum)
apart minimum zero e = tt
apart minimum (suc maximum) e = le→leb minimum (suc maximum) (maximum_apart minimum (suc maximum) e (omega arith))

-- the pairs of a layer
good_pairs : (m : ℕ) (next : Grammar) {s : List ℕ} → Accepts (separations m next) s → GoodPairs m s
unfolding separations separation
good_pairs zero next a = tt
good_pairs (suc m) next {s} a =
    let minimum = opened a in
    let maximum = opened minimum.rest in
    let second : get_or (drop 1 s) 0 0 ≡ get_or s 1 0 = get_or-drop 1 s 0 0 in
    let rule = rw second at maximum.meets in (
      record {
        minimum = within_limits 1 max_separation (get_or s 0 0) minimum.meets;
        maximum = maximum_within (get_or s 0 0) (get_or s 1 0) rule;
        apart = apart (get_or s 0 0) (get_or s 1 0) rule;
      },
      rw (drop-drop 1 1 s) at (good_pairs m next maximum.rest),
    )

-- the counts of nodes of k layers
abbrev pub node_counts : ℕ → List ℕ → List ℕ
node_counts zero s = []
node_counts (suc k) s = get_or s nodes_at 0 ∷ node_counts k (next_layer s)

-- there are k of them
pub node_counts_length : (k : ℕ) (s : List ℕ) → length (node_counts k s) ≡ k
node_counts_length zero s = refl
node_counts_length (suc k) s = ap suc (node_counts_length k (next_layer s))

-- there is one first node more than layers
pub first_nodes_length : (k v : ℕ) (s : List ℕ) → length (first_nodes k v s) ≡ suc k
first_nodes_length zero v s = refl
first_nodes_length (suc k) v s = ap suc (first_nodes_length k (v + get_or s nodes_at 0) (next_layer s))

-- the last one is the count of nodes
pub last_first_node : (k v : ℕ) (s : List ℕ) → get_or (first_nodes k v s) k 0 ≡ v + nodes_of k s
last_first_node zero v s = omega arith
last_first_node (suc k) v s = omega (arith, last_first_node k (v + get_or s nodes_at 0) (next_layer s))

-- behind the nodes of layer j stand those of the next one
pub next_first : (k v : ℕ) (s : List ℕ) (j : ℕ) → j < k
    → get_or (first_nodes k v s) j 0 + get_or (node_counts k s) j 0 ≡ get_or (first_nodes k v s) (suc j) 0
next_first zero v s j h = absurd (omega arith)
next_first (suc zero) v s zero h = refl
next_first (suc (suc k)) v s zero h = refl
next_first (suc k) v s (suc j) h = next_first k (v + get_or s nodes_at 0) (next_layer s) j (omega arith)

-- the nodes of layer j are among the first n
layer_ends : (n k v : ℕ) (s : List ℕ) → GoodLayers n k v s → (j : ℕ) → j < k
    → get_or (first_nodes k v s) j 0 + get_or (node_counts k s) j 0 ≤ n
layer_ends n zero v s g j h = absurd (omega arith)
layer_ends n (suc k) v s g zero h = g.0.room
layer_ends n (suc k) v s g (suc j) h = layer_ends n k (v + get_or s nodes_at 0) (next_layer s) g.1 j (omega arith)

-- layer j has few nodes
layer_few : (n k v : ℕ) (s : List ℕ) → GoodLayers n k v s → (j : ℕ) → j < k → get_or (node_counts k s) j 0 ≤ max_layer_nodes
layer_few n zero v s g j h = absurd (omega arith)
layer_few n (suc k) v s g zero h = g.0.few
layer_few n (suc k) v s g (suc j) h = layer_few n k (v + get_or s nodes_at 0) (next_layer s) g.1 j (omega arith)

-- k layers are good, and what follows them is accepted
pub record LayersGood (n k v : ℕ) (counts : List ℕ) (next : List ℕ → Grammar) (s : List ℕ) : Type 0 where
  pub good : GoodLayers n k v s
  pub rest : Accepts (next (counts ++ node_counts k s)) (behind_layers k s)

-- the layers of accepted numbers
good_layers : (n k room v : ℕ) (counts : List ℕ) {next : List ℕ → Grammar} {s : List ℕ} → v + nodes_of k s ≤ n
    → Accepts (layers k room counts next) s → LayersGood n k v counts next s
unfolding layers
good_layers n zero room v counts {next} {s} h a = record { good = tt; rest = rw append-nil a }
good_layers n (suc k) room v counts {next} {s} h a =
    let o = opened a in
    let c : ℕ = get_or s nodes_at 0 in
    let l = within_limits 1 (min max_layer_nodes room) c o.meets in
    let b = behind_layer s (omega (arith, o.there)) o.rest in
    let others = good_layers n k (room - c) (v + c) (counts ++ c ∷ []) (omega arith) b.rest in
    record {
      good = (
        record {
          some = l.0;
          few = omega arith;
          room = omega arith;
          there = b.there;
          pairs = good_pairs (c - 1) (layers k (room - c) (counts ++ c ∷ []) next) o.rest;
        },
        others.good,
      );
      rest = rw append_assoc at others.rest;
    }

-- the edges, where the nodes of each layer are few, stand before those of the next and are among the first n
module _ (n : ℕ) (first counts : List ℕ) (long : length first ≡ suc (length counts))
    (next : (j : ℕ) → j < length counts → get_or first j 0 + get_or counts j 0 ≡ get_or first (suc j) 0)
    (ends : (j : ℕ) → j < length counts → get_or first j 0 + get_or counts j 0 ≤ n)
    (few : (j : ℕ) → j < length counts → get_or counts j 0 ≤ max_layer_nodes) where
  -- m edges are good, and all of their numbers are there
  good_edges : (m : ℕ) {s : List ℕ} → Accepts (edges m counts) s → (edge_stride * m ≤ length s) × GoodEdges n first m s
  unfolding edges edge
  good_edges zero a = (omega arith, tt)
  good_edges (suc m) {s} a =
      let o1 = opened a in
      let o2 = opened o1.rest in
      let o3 = opened o2.rest in
      let o4 = opened o3.rest in
      let s1 : List ℕ = drop 1 s in
      let s2 : List ℕ = drop 1 s1 in
      let s3 : List ℕ = drop 1 s2 in
      let r : ℕ = get_or s edge_layer_at 0 in
      let l1 = within_limits 1 (length counts - 1) r o1.meets in
      let l2 = within_limits 1 (get_or counts (r - 1) 0) (get_or s1 0 0) o2.meets in
      let l3 = within_limits 1 (get_or counts r 0) (get_or s2 0 0) o3.meets in
      let l4 = within_limits 0 max_kind (get_or s3 0 0) o4.meets in
      let e1 : get_or s1 0 0 ≡ get_or s edge_upper_at 0 = simp (get_or-drop, add-zero) in
      let e2 : get_or s2 0 0 ≡ get_or s edge_lower_at 0 = simp (get_or-drop, add-zero) in
      let e3 : get_or s3 0 0 ≡ get_or s edge_kind_at 0 = simp (get_or-drop, add-zero) in
      let others = good_edges m o4.rest in
      let last : r + 1 - 1 ≡ r = omega arith in
      let four : drop 1 s3 ≡ drop edge_stride s = ap (drop 1) (ap (drop 1) (drop-drop 1 1 s)) ∙ ap (drop 1) (drop-drop 1 2 s) ∙ drop-drop 1 3 s in (
        omega (arith, others.0, o1.there, o2.there, o3.there, o4.there),
        (
          record {
            layer = (l1.0, omega (arith, l1.0, l1.1));
            positions = (rw (← e1) l2.0, rw (← e2) l3.0);
            inside =
                let behind : suc (r - 1) ≡ r = omega (arith, l1.0) in
                omega (arith, l2.0, l2.1, e1, next (r - 1) (omega (arith, l1.0, l1.1)) ∙ ap (λ (j : ℕ). get_or first j 0) behind);
            upper = omega (arith, l1.0, l1.1, l2.0, l2.1, e1, ends (r - 1) (omega (arith, l1.0, l1.1)));
            lower = rw last (omega (arith, l1.0, l1.1, l3.0, l3.1, e2, ends r (omega (arith, l1.0, l1.1))));
            near = omega (arith, l3.1, e2, few r (omega (arith, l1.0, l1.1)));
            kind = rw (← e3) l4.1;
          },
          subst (GoodEdges n first m) four others.1,
        ),
      )

-- accepted numbers are good, for any bound of their nodes
pub accepts_good : {s : List ℕ} (n : ℕ) → node_count s ≤ n → Accepts sheet s → Good n s
unfolding sheet
accepts_good {s} n h a =
    let width = opened a in
    let count = opened width.rest in
    let s2 : List ℕ = drop 1 (drop 1 s) in
    let two : s2 ≡ drop first_layer_at s = drop-drop 1 1 s in
    let k : ℕ = get_or (drop 1 s) 0 0 in
    let is-k : k ≡ get_or s layers_at 0 = simp (get_or-drop, add-zero) in
    let few = within_limits 1 max_layers k count.meets in
    let l = good_layers n k max_nodes 0 [] (omega (arith, rw (← is-k, ← two) at h)) count.rest in
    let total = opened l.rest in
    let m : ℕ = get_or (behind_layers k s2) edge_count_at 0 in
    let some = within_limits 0 max_edges m total.meets in
    let e = good_edges n (first_nodes k 0 s2) (node_counts k s2) (first_nodes_length k 0 s2 ∙ ap suc (sym (node_counts_length k s2)))
    (λ j i. next_first k 0 s2 j (omega (arith, node_counts_length k s2)))
    (λ j i. layer_ends n k 0 s2 l.good j (omega (arith, node_counts_length k s2)))
    (λ j i. layer_few n k 0 s2 l.good j (omega (arith, node_counts_length k s2))) m total.rest in
    record {
      head = omega (arith, width.there, count.there);
      width = (within_limits 0 max_width (get_or s 0 0) width.meets).1;
      few = rw (← is-k) few.1;
      layers = rw (← is-k, ← two) l.good;
      rest = rw (← is-k, ← two) (record { few = some.1; there = omega (arith, e.0, total.there); edges = e.1 });
    }
