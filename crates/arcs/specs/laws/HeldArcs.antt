-- Two slices that hold the first nodes and the packed arcs of a good sheet: the arcs mean the sheet's network, and those of the edges
-- come first, each with the ends of its edge and the weight that it carries.
use Rattle.std.specs.Prelude.{ℕ, ◌+◌, ◌*◌, ◌≤◌, ◌<◌, ◌≡◌, T, length, get_or, take, drop}
use Rattle.std.proofs.Common.{sym, ◌∙◌, arith, length-append}
use Rattle.std.proofs.Math.Path.{ap, ap₂}
use mathlib.Core.List.{List, [], ◌∷◌, ◌++◌, map, flat_map, append_assoc}
use Rattle.std.proofs.Math.ListN.{length-map}
use Rattle.std.proofs.Math.Seq.{take_at}
use Rattle.leb128.specs.Format.Result.{elements}
use Rattle.sheet.specs.Reading.{read_sheet}
use Rattle.sheet.specs.Layout.{node_count}
use Rattle.sheet.specs.Limits.{max_nodes, max_edges}
use Rattle.network.specs.Sums.{all}
use Rattle.network.specs.Network.{Arc}
use Rattle.network.specs.Packed.{kink_at, stride, kink_zero, packs, packed, storable, arcs_to, network_of}
use Rattle.network.proofs.laws.PackedBack.{packs_append, packs_length, arcs_back, kinks_in}
use Rattle.drawing.specs.Sheet.{Layer, Edge, Sheet, sheet_of}
use Rattle.drawing.specs.Traces.{traces}
use Rattle.drawing.specs.Certificate.{certificate_size}
use Rattle.drawing.specs.Arcs.{edge_arc, layer_arcs, network}
use Rattle.drawing.specs.laws.Traces.{traces_length}
use Rattle.drawing.specs.laws.GoodNumbers.{accepts_good}
use Rattle.drawing.proofs.laws.Proper.{accepts_proper}
use Rattle.drawing.specs.Proper.{proper_edge, Proper}
use Rattle.drawing.specs.Carriers.{At}
use Rattle.drawing.specs.laws.Carriers.{at_listed}
use Rattle.drawing.proofs.laws.ProperEdges.{edge_parts, proper_traces}
use Rattle.drawing.proofs.laws.ArcCount.{arcs_count}
use Rattle.drawing.proofs.laws.ArcLimits.{network_storable}
use Rattle.arcs.specs.declared.Counts.{Counts}
use Rattle.arcs.specs.Loading.{layer_firsts, firsts_size, arcs_size}
use Rattle.arcs.specs.laws.LayerFirsts.{firsts_length}
use Rattle.packed.specs.Ends.{edge_from}
use Rattle.arcs.specs.Held.{Packs, Holds}
use Rattle.arcs.specs.laws.PackedEdges.{packed_edge}
use Rattle.arcs.specs.laws.Loaded.{LoadedSheet}

-- slices into which a sheet was loaded hold it
pub loaded_holds : {bytes f₀ f a₀ a : List ℕ} {c : Counts} → LoadedSheet bytes f₀ f a₀ a c → Holds f a c
loaded_holds {f₀ = f₀} {a₀ = a₀} l = record {
  numbers = l.numbers;
  good = l.good;
  firsts_behind = drop (firsts_size (sheet_of l.numbers)) f₀;
  firsts_are = l.firsts;
  behind = drop (arcs_size (sheet_of l.numbers)) a₀;
  packed_are = l.arcs;
  layers_are = ap (λ (c : Counts). c.layers) l.counts;
  nodes_are = ap (λ (c : Counts). c.nodes) l.counts;
  edges_are = ap (λ (c : Counts). c.edges) l.counts;
  arcs_are = ap (λ (c : Counts). c.arcs) l.counts;
}

-- the numbers are those that reading gives
pub holds_reads : {bytes f₀ f a₀ a : List ℕ} {c : Counts} (l : LoadedSheet bytes f₀ f a₀ a c)
    → read_sheet bytes ≡ elements (loaded_holds l).numbers
unfolding loaded_holds
holds_reads l = l.reads

module _ {f a : List ℕ} {c : Counts} (h : Holds f a c) where
  -- the sheet
  abbrev S : Sheet
  S = sheet_of h.numbers

  -- its arcs
  abbrev xs : List Arc
  xs = (network S).arcs

  -- the sheet is within its limits
  pub proper : Proper S
  proper = accepts_proper h.numbers h.good

  -- an arc for each number of the certificate
  pub size_is : c.arcs ≡ certificate_size S
  size_is =
      h.arcs_are
      ∙ arcs_count (node_count h.numbers) h.numbers
      (accepts_good (node_count h.numbers) (omega arith) h.good)

  -- few nodes
  pub nodes_few : c.nodes ≤ max_nodes
  nodes_few = omega (arith, h.nodes_are, proper.nodes)

  -- few edges
  pub edges_few : c.edges ≤ max_edges
  edges_few = omega (arith, h.edges_are, proper.few)

  -- the first nodes are there, with the count of nodes
  pub firsts_there : c.layers + 1 ≤ length f
  firsts_there =
      omega (arith, ap length h.firsts_are ∙ length-append (layer_firsts S) h.firsts_behind, firsts_length S, h.layers_are)

  -- those of the layers come first
  pub firsts_front : take c.layers f ≡ map (λ (l : Layer). l.first) S.layers
  firsts_front =
      let firsts : List ℕ = map (λ (l : Layer). l.first) S.layers in
      ap (take c.layers) (h.firsts_are ∙ append_assoc firsts (S.nodes ∷ []) h.firsts_behind)
      ∙ take_at firsts (S.nodes ∷ h.firsts_behind) c.layers
      (length-map S.layers (λ (l : Layer). l.first) ∙ sym h.layers_are)

  -- the arcs, and what stands behind them
  front : a ≡ packs xs ++ h.behind
  unfolding packed
  front = h.packed_are

  -- the arcs are there
  pub arcs_there : stride * c.arcs ≤ length a
  arcs_there = omega (arith, ap length front ∙ length-append (packs xs) h.behind, packs_length xs, h.arcs_are)

  -- those of the edges too
  pub edges_there : stride * c.edges ≤ length a
  edges_there = omega (arith, arcs_there, h.edges_are, size_is)

  -- each can be read back
  stored : T (all storable xs)
  stored = network_storable h.numbers proper

  -- every kink is a small number
  pub kinks_small : (i : ℕ) → i < c.arcs → get_or a (stride * i + kink_at) 0 < 2 * kink_zero
  kinks_small i l = rw front (kinks_in xs h.behind stored i (omega (arith, h.arcs_are)))

  -- they mean the sheet's network
  pub network_is : network_of a c.nodes c.arcs ≡ network S
  unfolding network
  network_is =
      ap₂ (λ (m : ℕ) (l : List Arc). record { nodes = m; arcs = l }) h.nodes_are
      (ap₂ arcs_to front h.arcs_are ∙ arcs_back xs h.behind stored)

  -- the edges' come first
  pub edges_front : take (stride * c.edges) a ≡ packs (map edge_arc (traces S.edges))
  unfolding network
  edges_front =
      let ts : List Edge = traces S.edges in
      let es : List Arc = map edge_arc ts in
      let ls : List Arc = flat_map (layer_arcs S.width S.nodes) S.layers in
      ap (take (stride * c.edges)) (front ∙ ap (λ (l : List ℕ). l ++ h.behind) (packs_append es ls)
      ∙ append_assoc (packs es) (packs ls) h.behind)
      ∙ take_at (packs es) (packs ls ++ h.behind) (stride * c.edges)
      (omega (arith, packs_length es, length-map ts edge_arc, traces_length S.edges, h.edges_are))

  -- packed edge i of these is what edge i carries
  pub held_edge : {i : ℕ} {t : Edge} → At (traces (sheet_of h.numbers).edges) i t
      → Packs (edge_from i (take (stride * c.edges) a)) t
  held_edge {t = t} x =
      let limits = edge_parts S.nodes t ((at_listed x).passes (proper_edge S.nodes) (proper_traces S proper)) in
      rw edges_front (packed_edge x limits.weight)
