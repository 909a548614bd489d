-- Where a node of a number list stands: it is the node at that layer and position, and every node stands somewhere.
use Rattle.std.specs.Prelude.{ℕ, zero, suc, ◌+◌, ◌-◌, ◌≤◌, ◌<◌, ◌≡◌, List, get_or, drop}
use Rattle.std.proofs.Common.{sym, ◌∙◌, ap, ap₂, ⊎_elim, arith}
use Rattle.leb128.specs.laws.Cases.{lt_or_le}
use Rattle.sheet.specs.Layout.{layers_at, first_layer_at, nodes_at, next_layer, nodes_of, node_count}
use Rattle.sheet.specs.Nodes.{node_among, node_of}
use Rattle.sheet.specs.Nodes.Located.{found, missing}
use Rattle.sheet.specs.laws.Nodes.{node_here, node_past, no_node}
use Rattle.drawing.specs.Sheet.{first_nodes, node_at}
use Rattle.drawing.specs.laws.GoodNumbers.{node_counts}

-- node v of n layers, the first of which is number `layer` and starts at node u, stands so many layers further, at an index
record Among (n layer u : ℕ) (s : List ℕ) (v : ℕ) : Type 0 where
  pub further : ℕ
  pub index : ℕ
  pub is : node_among n layer s v ≡ found (layer + further) (index + 1)
  pub inside : further < n
  pub within : index < get_or (node_counts n s) further 0
  pub node : get_or (first_nodes n u s) further 0 + index ≡ u + v

-- every node does
among : (n layer u : ℕ) (s : List ℕ) (v : ℕ) → v < nodes_of n s → Among n layer u s v
among zero layer u s v h = absurd (omega arith)
among (suc n) layer u s v h =
    let c : ℕ = get_or s nodes_at 0 in
    ⊎_elim
    (λ (i : v < c).
    record {
      further = 0;
      index = v;
      is = node_here n layer s v i ∙ ap (λ (l : ℕ). found l (v + 1)) (omega arith);
      inside = omega arith;
      within = i;
      node = omega arith;
    })
    (λ (i : c ≤ v).
    let others = among n (layer + 1) (u + c) (next_layer s) (v - c) (omega arith) in
    record {
      further = suc others.further;
      index = others.index;
      is = node_past n layer s v i ∙ others.is ∙ ap (λ (l : ℕ). found l (others.index + 1)) (omega arith);
      inside = omega (arith, others.inside);
      within = others.within;
      node = omega (arith, others.node);
    })
    (lt_or_le v c)

-- where node v of a number list stands, and that the node there is v
pub record Stands (numbers : List ℕ) (v : ℕ) : Type 0 where
  pub layer : ℕ
  pub position : ℕ
  pub is : node_of numbers v ≡ found layer position
  pub layers : (1 ≤ layer) × (layer ≤ get_or numbers layers_at 0)
  pub positions : (1 ≤ position) × (position ≤ get_or (node_counts (get_or numbers layers_at 0) (drop first_layer_at numbers)) (layer - 1) 0)
  pub node : node_at (first_nodes (get_or numbers layers_at 0) 0 (drop first_layer_at numbers)) layer position ≡ v

-- every node below the count of nodes stands somewhere
pub stands : (numbers : List ℕ) (v : ℕ) → v < node_count numbers → Stands numbers v
unfolding node_of
stands numbers v h =
    let n : ℕ = get_or numbers layers_at 0 in
    let s : List ℕ = drop first_layer_at numbers in
    let a = among n 1 0 s v h in
    let back : 1 + a.further - 1 ≡ a.further = omega arith in
    record {
      layer = 1 + a.further;
      position = a.index + 1;
      is = a.is;
      layers = (omega arith, omega (arith, a.inside));
      positions = (omega arith, rw back (omega (arith, a.within)));
      node = rw back (omega (arith, a.node));
    }

-- what is found is a node of the list
pub found_node : (numbers : List ℕ) (v layer position : ℕ) → node_of numbers v ≡ found layer position → v < node_count numbers
found_node numbers v layer position e =
    ⊎_elim
    (λ (h : v < node_count numbers). h)
    (λ (h : node_count numbers ≤ v).
    let never : found layer position ≡ missing = sym e ∙ no_node numbers v h in
    let z : ◌≡◌ {A = ℕ} 0 1 = cc in absurd (omega arith))
    (lt_or_le v (node_count numbers))

-- the node at the layer and the position found is v
pub located : (numbers : List ℕ) (v layer position : ℕ) → node_of numbers v ≡ found layer position
    → node_at (first_nodes (get_or numbers layers_at 0) 0 (drop first_layer_at numbers)) layer position ≡ v
located numbers v layer position e =
    let w = stands numbers v (found_node numbers v layer position e) in
    let same : found layer position ≡ found w.layer w.position = sym e ∙ w.is in
    let same_layer : layer ≡ w.layer = cc in
    let same-position : position ≡ w.position = cc in
    ap₂ (node_at (first_nodes (get_or numbers layers_at 0) 0 (drop first_layer_at numbers))) same_layer same-position ∙ w.node
