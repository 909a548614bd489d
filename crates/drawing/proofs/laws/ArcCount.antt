-- A good sheet has an arc for each number of its certificate: a layer of c nodes has 2 · c arcs, by induction over the
-- layers.
use Rattle.std.specs.Prelude.{◌≡◌, ℕ, zero, suc, ◌+◌, ◌-◌, ◌*◌, length, get_or, drop}
use mathlib.Core.List.{List, map, flat_map}
use Rattle.std.proofs.Common.{arith, length-append}
use Rattle.std.proofs.lemmas.List.{length-map}
use Rattle.drawing.specs.Arcs.{edge_arc, layer_arcs, network}
use Rattle.drawing.specs.Certificate.{certificate_size}
use Rattle.drawing.specs.Sheet.{Layer, Sheet, pairs_of, layers_of, first_nodes, sheet_of}
use Rattle.drawing.specs.Traces.{traces}
use Rattle.sheet.specs.Layout.{layers_at, first_layer_at, nodes_at, separations_at, next_layer}
use Rattle.drawing.specs.laws.Traces.{traces_length}
use Rattle.drawing.specs.laws.Terms.{layer_length}
use Rattle.drawing.proofs.laws.SameDrawings.{length_pairs}
use Rattle.drawing.specs.laws.Good.{GoodLayers, Good}

-- two arcs for each node of the layers
pub layers_count : (n width ground k v : ℕ) (s : List ℕ) → GoodLayers n k v s
    → length (flat_map (layer_arcs width ground) (layers_of k v s)) + 2 * v ≡ 2 * get_or (first_nodes k v s) k 0
unfolding flat_map
layers_count n width ground zero v s g = omega arith
layers_count n width ground (suc k) v s g =
    let l : Layer = record { first = v; pairs = pairs_of (get_or s nodes_at 0 - 1) v (drop separations_at s) } in
    omega (
      arith,
      length-append (layer_arcs width ground l) (flat_map (layer_arcs width ground) (layers_of k (v + get_or s nodes_at 0) (next_layer s))),
      layer_length width ground l,
      length_pairs (get_or s nodes_at 0 - 1) v (drop separations_at s),
      g.0.some,
      layers_count n width ground k (v + get_or s nodes_at 0) (next_layer s) g.1,
    )

-- an arc for each number of the certificate
pub arcs_count : (n : ℕ) (s : List ℕ) → Good n s → length (network (sheet_of s)).arcs ≡ certificate_size (sheet_of s)
unfolding network sheet_of
arcs_count n s g =
    let S : Sheet = sheet_of s in
    omega (
      arith,
      length-append (map edge_arc (traces S.edges)) (flat_map (layer_arcs S.width S.nodes) S.layers),
      length-map (traces S.edges) edge_arc,
      traces_length S.edges,
      layers_count n S.width S.nodes (get_or s layers_at 0) 0 (drop first_layer_at s) g.layers,
    )
