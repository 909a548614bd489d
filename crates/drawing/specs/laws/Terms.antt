-- The flows of a sheet's network are the certificate's numbers, piece by piece: flows of lists put together are flows
-- put together. So a test or a sum over the flows is one over edges, layers and pairs.
use Rattle.std.specs.Prelude.{◌≡◌, refl, Bool, ◌&&◌, ℕ, suc, ◌+◌, ◌*◌, length, get_or, drop, ℤ, pos, ◌+ℤ◌}
use Rattle.std.proofs.Common.{◌∙◌, ap, ap₂, arith, length-append, get_or-drop, drop-drop}
use mathlib.Core.List.{List, [], ◌∷◌, ◌++◌, map, flat_map}
use Rattle.std.proofs.Math.Bool.{and-true}
use Rattle.std.proofs.lemmas.List.{length-map}
use Rattle.std.proofs.Math.IntN.{+ℤ_idr}
use Rattle.network.specs.Sums.{sum, all}
use Rattle.network.specs.laws.Tests.{all_ext, all_append, all_image, all_flat}
use Rattle.network.specs.laws.Sums.{sum_ext, sum_append, sum_image, sum_flat}
use Rattle.network.specs.Network.{Arc, upper_bound}
use Rattle.network.specs.Flows.{Flow, flows}
use Rattle.drawing.specs.Sheet.{Pair, Layer, Edge, Sheet}
use Rattle.drawing.specs.Traces.{traces}
use Rattle.drawing.specs.Arcs.{edge_arc, minimum_arc, maximum_arc, separation_arcs, layer_arcs, network}
use Rattle.drawing.specs.Certificate.{EdgeTerm, PairTerm, LayerTerm, edge_terms, pair_terms, layer_term, layer_terms, certificate, last_node}
use Rattle.drawing.specs.laws.Traces.{traces_length}

-- the flow of an edge
abbrev pub edge_flow : EdgeTerm → Flow
edge_flow e = record { on = edge_arc e.edge; amount = e.amount }

-- the flow of a pair's minimum separation
abbrev pub minimum_flow : PairTerm → Flow
minimum_flow x = record { on = minimum_arc x.pair; amount = x.minimum }

-- the flow of its maximum separation
abbrev pub maximum_flow : PairTerm → Flow
maximum_flow x = record { on = maximum_arc x.pair.maximum x.pair.left; amount = x.maximum }

-- both flows of a pair
abbrev pub pair_flows : PairTerm → List Flow
pair_flows x = minimum_flow x ∷ maximum_flow x ∷ []

-- the flow of a layer's left boundary
abbrev pub left_flow : ℕ → LayerTerm → Flow
left_flow ground l = record { on = upper_bound l.layer.first ground (pos 0); amount = l.left }

-- the flow of its right boundary
abbrev pub right_flow : ℕ → ℕ → LayerTerm → Flow
right_flow width ground l = record { on = upper_bound ground (last_node l.layer) (pos width); amount = l.right }

-- the flows of a layer: left boundary, pairs, right boundary
abbrev pub layer_flows : ℕ → ℕ → LayerTerm → List Flow
layer_flows width ground l = left_flow ground l ∷ flat_map pair_flows l.pairs ++ right_flow width ground l ∷ []

-- the flows on two lists of arcs, one behind the other
pub flows_append : (xs zs : List Arc) (y : List ℤ) → flows (xs ++ zs) y ≡ flows xs y ++ flows zs (drop (length xs) y)
flows_append [] zs y = refl
flows_append (a ∷ xs) zs y =
    ap (λ (fs : List Flow). record { on = a; amount = get_or y 0 (pos 0) } ∷ fs)
    (flows_append xs zs (drop 1 y) ∙ ap (λ (t : List ℤ). flows xs (drop 1 y) ++ flows zs t) (drop-drop (length xs) 1 y ∙ ap (λ (n : ℕ). drop n y) (one (length xs))))
  where
    -- an arc more in front
    one : (n : ℕ) → 1 + n ≡ suc n
    one n = omega arith

-- the flows on the arcs of edges
edges_are : (es : List Edge) (y : List ℤ) → flows (map edge_arc es) y ≡ map edge_flow (edge_terms es y)
edges_are [] y = refl
edges_are (e ∷ es) y =
    ap (λ (fs : List Flow). record { on = edge_arc e; amount = get_or y 0 (pos 0) } ∷ fs) (edges_are es (drop 1 y))

-- the flows on the arcs of pairs
pairs_are : (xs : List Pair) (y : List ℤ) → flows (flat_map separation_arcs xs) y ≡ flat_map pair_flows (pair_terms xs y)
unfolding flat_map
pairs_are [] y = refl
pairs_are (x ∷ xs) y = rw (drop-drop 1 1 y, get_or-drop 1 y 0 (pos 0), pairs_are xs (drop 2 y))

-- a pair has two arcs
pairs_length : (xs : List Pair) → length (flat_map separation_arcs xs) ≡ 2 * length xs
unfolding flat_map
pairs_length [] = refl
pairs_length (x ∷ xs) = omega (arith, pairs_length xs)

-- a layer has two arcs for its boundaries, and two for each pair
pub layer_length : (width ground : ℕ) (l : Layer) → length (layer_arcs width ground l) ≡ 2 + 2 * length l.pairs
layer_length width ground l =
    omega (arith, length-append (flat_map separation_arcs l.pairs) (upper_bound ground (last_node l) (pos width) ∷ []), pairs_length l.pairs)

-- the flows on the arcs of a layer
layer_is : (width ground : ℕ) (l : Layer) (y : List ℤ)
    → flows (layer_arcs width ground l) y ≡ layer_flows width ground (layer_term l y)
layer_is width ground l y =
    ap (λ (fs : List Flow). left_flow ground (layer_term l y) ∷ fs)
    (flows_append (flat_map separation_arcs l.pairs) (upper_bound ground (last_node l) (pos width) ∷ []) (drop 1 y)
    ∙ ap₂ (λ (fs : List Flow) (z : ℤ). fs ++ record { on = upper_bound ground (last_node l) (pos width); amount = z } ∷ [])
    (pairs_are l.pairs (drop 1 y))
    (get_or-drop (length (flat_map separation_arcs l.pairs)) (drop 1 y) 0 (pos 0) ∙ get_or-drop 1 y (length (flat_map separation_arcs l.pairs) + 0) (pos 0)
    ∙ ap (λ (n : ℕ). get_or y n (pos 0)) (omega (arith, pairs_length l.pairs))))

-- the flows on the arcs of layers
layers_are : (width ground : ℕ) (ls : List Layer) (y : List ℤ)
    → flows (flat_map (layer_arcs width ground) ls) y ≡ flat_map (layer_flows width ground) (layer_terms ls y)
unfolding flat_map
layers_are width ground [] y = refl
layers_are width ground (l ∷ ls) y =
    flows_append (layer_arcs width ground l) (flat_map (layer_arcs width ground) ls) y
    ∙ ap₂ ◌++◌ (layer_is width ground l y)
    (ap (λ (n : ℕ). flows (flat_map (layer_arcs width ground) ls) (drop n y)) (layer_length width ground l) ∙ layers_are width ground ls (drop (2 + 2 * length l.pairs) y))

-- the flows of a sheet's network are those of its certificate
pub network_flows : (S : Sheet) (y : List ℤ)
    → flows (network S).arcs y ≡ map edge_flow (certificate S y).edges ++ flat_map (layer_flows S.width S.nodes) (certificate S y).layers
unfolding network
network_flows S y =
    flows_append (map edge_arc (traces S.edges)) (flat_map (layer_arcs S.width S.nodes) S.layers) y
    ∙ ap₂ ◌++◌ (edges_are (traces S.edges) y)
    (ap (λ (n : ℕ). flows (flat_map (layer_arcs S.width S.nodes) S.layers) (drop n y))
    (length-map (traces S.edges) edge_arc ∙ traces_length S.edges)
    ∙ layers_are S.width S.nodes S.layers (drop (length S.edges) y))

module _ (width ground : ℕ) (t : Flow → Bool) where
  -- a test of a layer's flows
  pub layer_all : (l : LayerTerm) → all t (layer_flows width ground l)
      ≡ (t (left_flow ground l) && (all (λ x. t (minimum_flow x) && t (maximum_flow x)) l.pairs && t (right_flow width ground l)))
  layer_all l = ap (λ (b : Bool). t (left_flow ground l) && b)
      (all_append t (flat_map pair_flows l.pairs) (right_flow width ground l ∷ [])
      ∙ ap₂ ◌&&◌
      (all_flat t pair_flows l.pairs
      ∙ all_ext (λ x. all t (pair_flows x)) (λ x. t (minimum_flow x) && t (maximum_flow x))
      (λ x. ap (λ (b : Bool). t (minimum_flow x) && b) (and-true (t (maximum_flow x)))) l.pairs)
      (and-true (t (right_flow width ground l))))

module _ (width ground : ℕ) (f : Flow → ℤ) where
  -- a sum over a layer's flows
  pub layer_sum : (l : LayerTerm) → sum f (layer_flows width ground l)
      ≡ f (left_flow ground l) +ℤ (sum (λ x. f (minimum_flow x) +ℤ f (maximum_flow x)) l.pairs +ℤ f (right_flow width ground l))
  layer_sum l = ap (λ (z : ℤ). f (left_flow ground l) +ℤ z)
      (sum_append f (flat_map pair_flows l.pairs) (right_flow width ground l ∷ [])
      ∙ ap₂ ◌+ℤ◌
      (sum_flat f pair_flows l.pairs
      ∙ sum_ext (λ x. sum f (pair_flows x)) (λ x. f (minimum_flow x) +ℤ f (maximum_flow x))
      (λ x. ap (λ (z : ℤ). f (minimum_flow x) +ℤ z) (+ℤ_idr (f (maximum_flow x)))) l.pairs)
      (+ℤ_idr (f (right_flow width ground l))))

-- a test of all flows is one of the edges and one of the layers
pub network_all : (S : Sheet) (y : List ℤ) (t : Flow → Bool) → all t (flows (network S).arcs y)
    ≡ (all (λ e. t (edge_flow e)) (certificate S y).edges && all (λ l. all t (layer_flows S.width S.nodes l)) (certificate S y).layers)
network_all S y t =
    ap (all t) (network_flows S y) ∙ all_append t (map edge_flow (certificate S y).edges) (flat_map (layer_flows S.width S.nodes) (certificate S y).layers)
    ∙ ap₂ ◌&&◌ (all_image t edge_flow (certificate S y).edges) (all_flat t (layer_flows S.width S.nodes) (certificate S y).layers)

-- a sum over all flows is one over the edges and one over the layers
pub network_sum : (S : Sheet) (y : List ℤ) (f : Flow → ℤ) → sum f (flows (network S).arcs y)
    ≡ sum (λ e. f (edge_flow e)) (certificate S y).edges +ℤ sum (λ l. sum f (layer_flows S.width S.nodes l)) (certificate S y).layers
network_sum S y f =
    ap (sum f) (network_flows S y) ∙ sum_append f (map edge_flow (certificate S y).edges) (flat_map (layer_flows S.width S.nodes) (certificate S y).layers)
    ∙ ap₂ ◌+ℤ◌ (sum_image f edge_flow (certificate S y).edges) (sum_flat f (layer_flows S.width S.nodes) (certificate S y).layers)
