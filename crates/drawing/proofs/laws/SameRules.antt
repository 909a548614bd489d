-- The certificate's rules and bound are the network's: a test or a sum over the flows is one over edges, layers and
-- pairs.
use Rattle.std.specs.Prelude.{◌≡◌, refl, List, Bool, cond, ℕ, zero, suc, ◌<◌, ℤ, pos, neg_ℤ, ◌+ℤ◌, ◌-ℤ◌, ◌*ℤ◌}
use Rattle.std.proofs.Common.{◌∙◌, ap, arith, ne_eqb}
use Rattle.std.proofs.Math.Path.{ap₂}
use Rattle.std.proofs.Math.Bool.{◌&&◌, and-true}
use Rattle.std.proofs.Math.IntN.{+ℤ_idl, +ℤ_idr, *ℤ-zero, *ℤ_comm, neg_ℤ-neg_ℤ}
use Rattle.std.specs.Int.Signed.{le_z, le_z_yes}
use Rattle.network.specs.laws.Integers.{≤ℤ_antisym, ≤ℤ_of_eq, -ℤ_swap, to_other_side, from_other_side, *ℤ_negℤ, eqZ→eq, eq→eqZ}
use Rattle.network.specs.Integers.{eqZ}
use Rattle.network.specs.Sums.{sum, all, only}
use Rattle.network.specs.laws.Tests.{below_ext, and_left, and_right, and_both, test_ext, all_ext}
use Rattle.network.specs.laws.Sums.{sum_ext, sum_sub, sum_times, sum_null}
use Rattle.network.specs.Flows.{flows, allowed, inflow, rules, bound_term, bound as network-bound}
use Rattle.drawing.specs.Sheet.{Sheet}
use Rattle.drawing.specs.Arcs.{edge_arc_between, maximum_arc, network}
use Rattle.drawing.specs.Certificate.{PairTerm, LayerTerm, Certificate, certificate, edge_limits, unset_limit, pair_limits, layer_limits, limits, from_edges, pair_greater, pair_smaller, layer_greater, layer_smaller, balanced_at, meets_rules, bound, last_node}
use Rattle.drawing.specs.laws.Terms.{edge_flow, minimum_flow, maximum_flow, layer_flows, layer_all, layer_sum, network_all, network_sum}

-- an edge's arc allows what the limits of its multiplier do
same_edge_limits : (kind weight u v : ℕ) (y : ℤ)
    → allowed (record { on = edge_arc_between kind weight u v; amount = y }) ≡ edge_limits kind weight y
same_edge_limits zero weight u v y = refl
same_edge_limits (suc kind) weight u v y = refl

-- so does the arc of a maximum separation, set or not
same_maximum_limits : (maximum v : ℕ) (y : ℤ)
    → allowed (record { on = maximum_arc maximum v; amount = y }) ≡ (le_z (pos 0) y && unset_limit maximum y)
same_maximum_limits zero v y = test_ext (le_z (pos 0) y && le_z y (pos 0)) (le_z (pos 0) y && eqZ y (pos 0))
    (λ t. and_both (le_z (pos 0) y) (eqZ y (pos 0)) (and_left (le_z (pos 0) y) (le_z y (pos 0)) t)
    (eq→eqZ y (pos 0) (≤ℤ_antisym (le_z_yes (and_right (le_z (pos 0) y) (le_z y (pos 0)) t)) (le_z_yes (and_left (le_z (pos 0) y) (le_z y (pos 0)) t)))))
    (λ t. and_both (le_z (pos 0) y) (le_z y (pos 0)) (and_left (le_z (pos 0) y) (eqZ y (pos 0)) t)
    (≤ℤ_of_eq (eqZ→eq y (pos 0) (and_right (le_z (pos 0) y) (eqZ y (pos 0)) t))).le)
same_maximum_limits (suc maximum) v y = refl

-- so do the two arcs of a pair
same_pair_limits : (x : PairTerm) → (allowed (minimum_flow x) && allowed (maximum_flow x)) ≡ pair_limits x
same_pair_limits x =
    ap₂ ◌&&◌ (and-true (le_z (pos 0) x.minimum)) (same_maximum_limits x.pair.maximum x.pair.left x.maximum)

-- so do the arcs of a layer
same_layer_limits : (width ground : ℕ) (l : LayerTerm) → all allowed (layer_flows width ground l) ≡ layer_limits l
same_layer_limits width ground l =
    layer_all width ground allowed l
    ∙ ap₂ ◌&&◌ (and-true (le_z (pos 0) l.left))
    (ap₂ ◌&&◌ (all_ext (λ x. allowed (minimum_flow x) && allowed (maximum_flow x)) pair_limits same_pair_limits l.pairs) (and-true (le_z (pos 0) l.right)))

-- so do all arcs of a sheet
same_limits : (S : Sheet) (y : List ℤ) → all allowed (flows (network S).arcs y) ≡ limits (certificate S y)
same_limits S y =
    network_all S y allowed
    ∙ ap₂ ◌&&◌
    (all_ext (λ e. allowed (edge_flow e)) (λ e. edge_limits e.edge.kind e.edge.weight e.amount)
    (λ e. same_edge_limits e.edge.kind e.edge.weight e.edge.upper e.edge.lower e.amount) (certificate S y).edges)
    (all_ext (λ l. all allowed (layer_flows S.width S.nodes l)) layer_limits (same_layer_limits S.width S.nodes) (certificate S y).layers)

module _ (v : ℕ) where
  -- an edge's multiplier counts at its lower end, and against its upper one
  edge_inflow : (kind weight u w : ℕ) (y : ℤ)
      → inflow v (record { on = edge_arc_between kind weight u w; amount = y }) ≡ only w y v -ℤ only u y v
  edge_inflow zero weight u w y = refl
  edge_inflow (suc kind) weight u w y = refl

  -- that of a maximum separation counts at the right node, and against the left one
  maximum_inflow : (maximum u : ℕ) (y : ℤ)
      → inflow v (record { on = maximum_arc maximum u; amount = y }) ≡ only (suc u) y v -ℤ only u y v
  maximum_inflow zero u y = refl
  maximum_inflow (suc maximum) u y = refl

  -- a pair's bring to node v what drives it to smaller coordinates, minus what drives it to greater ones
  pair_inflow : (x : PairTerm) → inflow v (minimum_flow x) +ℤ inflow v (maximum_flow x) ≡ pair_smaller v x -ℤ pair_greater v x
  pair_inflow x =
      ap (λ (z : ℤ). inflow v (minimum_flow x) +ℤ z) (maximum_inflow x.pair.maximum x.pair.left x.maximum)
      ∙ -ℤ_swap (only x.pair.left x.minimum v) (only (suc x.pair.left) x.minimum v) (only (suc x.pair.left) x.maximum v) (only x.pair.left x.maximum v)

  -- node v is not ground
  module _ (width ground : ℕ) (inside : v < ground) where
    -- nothing that counts at ground counts at v
    grounded : (y : ℤ) → only ground y v ≡ pos 0
    grounded y = ap (λ (b : Bool). cond b y (pos 0)) (ne_eqb ground v (λ e. omega arith))

    -- a layer's bring to node v the same difference
    layer_inflow : (l : LayerTerm) → sum (inflow v) (layer_flows width ground l) ≡ layer_smaller v l -ℤ layer_greater v l
    layer_inflow l =
        let first : ℤ = only l.layer.first l.left v in
        let last : ℤ = only (last_node l.layer) l.right v in
        let small : ℤ = sum (pair_smaller v) l.pairs in
        let great : ℤ = sum (pair_greater v) l.pairs in
        layer_sum width ground (inflow v) l
        ∙ ap₂ ◌+ℤ◌ (ap (λ (z : ℤ). z -ℤ first) (grounded l.left))
        (ap₂ ◌+ℤ◌
        (sum_ext (λ x. inflow v (minimum_flow x) +ℤ inflow v (maximum_flow x)) (λ x. pair_smaller v x -ℤ pair_greater v x) pair_inflow l.pairs
        ∙ sum_sub (pair_smaller v) (pair_greater v) l.pairs)
        (ap (λ (z : ℤ). last -ℤ z) (grounded l.right)))
        ∙ ap (λ (z : ℤ). (pos 0 -ℤ first) +ℤ z) (-ℤ_swap small great last (pos 0))
        ∙ -ℤ_swap (pos 0) first (small +ℤ last) (great +ℤ pos 0)
        ∙ ap₂ ◌-ℤ◌ (+ℤ_idl (small +ℤ last)) (ap (λ (z : ℤ). first +ℤ z) (+ℤ_idr great))

module _ (S : Sheet) (y : List ℤ) where
  -- the certificate of the list
  abbrev C : Certificate
  C = certificate S y

  -- what all flows bring to a node
  node_inflow : (v : ℕ) → v < S.nodes
      → sum (inflow v) (flows (network S).arcs y) ≡ from_edges C v +ℤ (sum (layer_smaller v) C.layers -ℤ sum (layer_greater v) C.layers)
  node_inflow v h =
      network_sum S y (inflow v)
      ∙ ap₂ ◌+ℤ◌
      (sum_ext (λ e. inflow v (edge_flow e)) (λ e. only e.edge.lower e.amount v -ℤ only e.edge.upper e.amount v)
      (λ e. edge_inflow v e.edge.kind e.edge.weight e.edge.upper e.edge.lower e.amount) C.edges
      ∙ sum_sub (λ e. only e.edge.lower e.amount v) (λ e. only e.edge.upper e.amount v) C.edges)
      (sum_ext (λ l. sum (inflow v) (layer_flows S.width S.nodes l)) (λ l. layer_smaller v l -ℤ layer_greater v l)
      (layer_inflow v S.width S.nodes h) C.layers
      ∙ sum_sub (layer_smaller v) (layer_greater v) C.layers)

  -- a sum is 0 where its first part is the opposite of the other
  moved_over : (a b c : ℤ) → eqZ (a +ℤ (b -ℤ c)) (pos 0) ≡ eqZ a (c -ℤ b)
  moved_over a b c = test_ext (eqZ (a +ℤ (b -ℤ c)) (pos 0)) (eqZ a (c -ℤ b))
      (λ t. eq→eqZ a (c -ℤ b) (to_other_side a b c (eqZ→eq (a +ℤ (b -ℤ c)) (pos 0) t)))
      (λ t. eq→eqZ (a +ℤ (b -ℤ c)) (pos 0) (from_other_side a b c (eqZ→eq a (c -ℤ b) t)))

  -- flow conservation at a node is its balance in the certificate
  same_balance : (v : ℕ) → v < S.nodes → eqZ (sum (inflow v) (flows (network S).arcs y)) (pos 0) ≡ balanced_at C v
  same_balance v h =
      ap (λ (z : ℤ). eqZ z (pos 0)) (node_inflow v h)
      ∙ moved_over (from_edges C v) (sum (layer_smaller v) C.layers) (sum (layer_greater v) C.layers)

  -- the two tests of the rules agree
  pub same_rules : rules (network S) y ≡ meets_rules S y
  unfolding rules meets_rules network
  same_rules =
      ap₂ ◌&&◌ (same_limits S y)
      (below_ext (λ v. eqZ (sum (inflow v) (flows (network S).arcs y)) (pos 0)) (balanced_at C) S.nodes same_balance)

-- an edge adds nothing to the bound
edge_bound : (kind weight u v : ℕ) (y : ℤ) → bound_term (record { on = edge_arc_between kind weight u v; amount = y }) ≡ pos 0
edge_bound zero weight u v y = ap neg_ℤ (*ℤ-zero y)
edge_bound (suc kind) weight u v y = ap neg_ℤ (*ℤ-zero y)

-- a maximum separation takes its product with the multiplier from the bound
maximum_bound : (maximum v : ℕ) (y : ℤ) → bound_term (record { on = maximum_arc maximum v; amount = y }) ≡ neg_ℤ (pos maximum *ℤ y)
maximum_bound zero v y = ap neg_ℤ (*ℤ_comm y (pos 0))
maximum_bound (suc maximum) v y = ap neg_ℤ (*ℤ_comm y (pos (suc maximum)))

-- minimum separation × multiplier
abbrev minimum_term : PairTerm → ℤ
minimum_term x = pos x.pair.minimum *ℤ x.minimum

-- maximum separation × multiplier
abbrev maximum_term : PairTerm → ℤ
maximum_term x = pos x.pair.maximum *ℤ x.maximum

-- what a pair adds to the bound
pair_bound : (x : PairTerm) → bound_term (minimum_flow x) +ℤ bound_term (maximum_flow x) ≡ minimum_term x -ℤ maximum_term x
pair_bound x = ap₂ ◌+ℤ◌
    (ap neg_ℤ (*ℤ_negℤ x.minimum (pos x.pair.minimum)) ∙ neg_ℤ-neg_ℤ (x.minimum *ℤ pos x.pair.minimum) ∙ *ℤ_comm x.minimum (pos x.pair.minimum))
    (maximum_bound x.pair.maximum x.pair.left x.maximum)

-- what a layer adds to the bound
layer_bound : (width ground : ℕ) (l : LayerTerm)
    → sum bound_term (layer_flows width ground l) ≡ (sum minimum_term l.pairs -ℤ sum maximum_term l.pairs) -ℤ pos width *ℤ l.right
layer_bound width ground l =
    layer_sum width ground bound_term l
    ∙ ap₂ ◌+ℤ◌ (ap neg_ℤ (*ℤ-zero l.left))
    (ap₂ ◌+ℤ◌
    (sum_ext (λ x. bound_term (minimum_flow x) +ℤ bound_term (maximum_flow x)) (λ x. minimum_term x -ℤ maximum_term x) pair_bound l.pairs
    ∙ sum_sub minimum_term maximum_term l.pairs)
    (ap neg_ℤ (*ℤ_comm l.right (pos width))))
    ∙ +ℤ_idl ((sum minimum_term l.pairs -ℤ sum maximum_term l.pairs) -ℤ pos width *ℤ l.right)

-- the two bounds agree
pub same_bound : (S : Sheet) (y : List ℤ) → network-bound (network S) y ≡ bound S y
unfolding network-bound bound
same_bound S y =
    let C : Certificate = certificate S y in
    let minima : LayerTerm → ℤ = λ l. sum minimum_term l.pairs in
    let maxima : LayerTerm → ℤ = λ l. sum maximum_term l.pairs in
    let right : LayerTerm → ℤ = λ l. pos S.width *ℤ l.right in
    network_sum S y bound_term
    ∙ ap₂ ◌+ℤ◌
    (sum_null (λ e. bound_term (edge_flow e))
    (λ e. edge_bound e.edge.kind e.edge.weight e.edge.upper e.edge.lower e.amount) C.edges)
    (sum_ext (λ l. sum bound_term (layer_flows S.width S.nodes l)) (λ l. (minima l -ℤ maxima l) -ℤ right l) (layer_bound S.width S.nodes) C.layers
    ∙ sum_sub (λ l. minima l -ℤ maxima l) right C.layers
    ∙ ap₂ ◌-ℤ◌ (sum_sub minima maxima C.layers) (sum_times (pos S.width) (λ l. l.right) C.layers))
    ∙ +ℤ_idl (bound S y)
