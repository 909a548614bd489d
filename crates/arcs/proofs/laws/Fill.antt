-- The arcs of the edges and then those of the layers are the network's, and how many they are, from what a plan says.
use Prim.Native.Nat.{ℕ, zero, suc, ◌+◌, ◌*◌, ◌≤◌}
use mathlib.Core.Path.{◌≡◌, sym, ◌∙◌, ap, ap₂}
use mathlib.Core.List.{List, [], ◌++◌, map, flat_map}
use native.Mathlib.Omega.{arith}
use lib.ListN.{length, get_or, drop, take, length-append, length-drop, length-map}
use lib.Seq.{get_or-take, drop-drop}
use Rattle.leb128.specs.inside.Storing.{Puts}
use Rattle.leb128.specs.laws.Storing.{sets_front}
use Rattle.sheet.specs.Limits.{max_nodes, max_edges}
use Rattle.sheet.specs.Layout.{width_at, first_layer_at, nodes_at, edges_at, edge_stride, next_layer}
use Rattle.network.specs.Network.{Arc}
use Rattle.network.specs.Packed.{stride, packs, packed}
use Rattle.network.proofs.laws.PackedBack.{packs_length}
use Rattle.drawing.specs.Sheet.{Edge, edges_of, first_nodes, sheet_of}
use Rattle.drawing.specs.Traces.{traces}
use Rattle.drawing.specs.Arcs.{edge_arc, layer_arcs, network}
use Rattle.drawing.specs.laws.Good.{GoodLayers, GoodEdges, GoodRest, Good}
use Rattle.drawing.specs.laws.GoodNumbers.{first_nodes_length}
use Rattle.drawing.specs.laws.Traces.{traces_length}
use Rattle.drawing.proofs.laws.Proper.{edges_length}
use Rattle.drawing.proofs.laws.ArcCount.{layers_count}
use Rattle.leb128.specs.Words.{Small}
use Rattle.arcs.specs.inside.Pieces.{layers_arcs}
use Rattle.arcs.specs.inside.Plans.{Planned, written}
use Rattle.arcs.specs.inside.Traces.{strongest, Rising, Blank, Tabled}
use Rattle.arcs.specs.declared.Plan.{Plan}
use Rattle.arcs.proofs.laws.Packing.{puts_arcs}
use Rattle.arcs.proofs.laws.TraceTable.{rising, blank_tabled}

-- the number that stands at the width is the sheet's width
pub width_read : (s : List ℕ) {w : ℕ} → Small w (get_or s width_at 0) → w ≡ (sheet_of s).width
unfolding sheet_of
width_read s e = e.is

-- the last first node is at most n
last_few : (n k v : ℕ) (s : List ℕ) → GoodLayers n k v s → v ≤ n → get_or (first_nodes k v s) k 0 ≤ n
last_few n zero v s g h = h
last_few n (suc k) v s g h = last_few n k (v + get_or s nodes_at 0) (next_layer s) g.1 g.0.room

module _ {s first : List ℕ} {p : Plan} (g : Good max_nodes s) (planned : Planned s first p) where
  -- the first nodes that the edges are read with
  abbrev firsts : List ℕ
  firsts = take (p.layers + 1) first

  -- the arcs of the edges
  abbrev edge_arcs : List Arc
  edge_arcs = map edge_arc (traces (edges_of firsts p.edges (drop (p.behind + edges_at) s)))

  -- what follows the layers is good
  rest_good : GoodRest max_nodes (first_nodes p.layers 0 (drop first_layer_at s)) (drop p.behind s)
  rest_good = rw (planned.rest, planned.layers) g.rest

  -- the first nodes are the sheet's
  firsts_are : firsts ≡ first_nodes p.layers 0 (drop first_layer_at s)
  firsts_are = planned.firsts

  -- they never fall
  pub firsts_rise : Rising firsts
  firsts_rise = rw firsts_are (rising p.layers 0 (drop first_layer_at s))

  -- the edges are good
  pub edges_good : GoodEdges max_nodes firsts p.edges (drop (p.behind + edges_at) s)
  edges_good = rw (firsts_are, planned.edges, ← drop-drop edges_at p.behind s) rest_good.edges

  -- they are there, and not too many
  pub edges_there : (p.behind + edges_at + edge_stride * p.edges ≤ length s) × (p.edges ≤ max_edges)
  edges_there =
      (omega (arith, rest_good.there, length-drop p.behind s, planned.edges), omega (arith, rest_good.few, planned.edges))

  -- the last of them is the count of nodes, which is the ground
  ground_is : p.nodes ≡ get_or (first_nodes p.layers 0 (drop first_layer_at s)) p.layers 0
  ground_is =
      planned.nodes
      ∙ sym (get_or-take (p.layers + 1) first p.layers 0 (omega arith))
      ∙ ap (λ (l : List ℕ). get_or l p.layers 0) planned.firsts

  -- a table of zeros for the nodes
  pub nodes_tabled : {table : List ℕ} → Blank p.nodes table → Tabled firsts table (strongest [])
  nodes_tabled b =
      rw firsts_are
      (blank_tabled (rising p.layers 0 (drop first_layer_at s)) p.layers
      (first_nodes_length p.layers 0 (drop first_layer_at s)) (rw ground_is at b))

  -- the layers are good
  pub layers_good : GoodLayers max_nodes p.layers 0 (drop first_layer_at s)
  layers_good = rw planned.layers g.layers

  -- the nodes are not too many
  pub nodes_few : p.nodes ≤ max_nodes
  nodes_few = rw ground_is (last_few max_nodes p.layers 0 (drop first_layer_at s) layers_good (omega arith))

  -- two arcs for each node
  pub layers_room : (w : ℕ) → length (layers_arcs s p.layers w p.nodes) ≡ 2 * p.nodes
  layers_room w = omega (arith, layers_count max_nodes w p.nodes p.layers 0 (drop first_layer_at s) layers_good, ground_is)

  -- an arc for each edge
  edges_count : length edge_arcs ≡ p.edges
  edges_count =
      length-map (traces (edges_of firsts p.edges (drop (p.behind + edges_at) s))) edge_arc
      ∙ traces_length (edges_of firsts p.edges (drop (p.behind + edges_at) s))
      ∙ edges_length firsts p.edges (drop (p.behind + edges_at) s)

  -- the edges are the sheet's
  edges_are : edges_of firsts p.edges (drop (p.behind + edges_at) s) ≡ (sheet_of s).edges
  unfolding sheet_of
  edges_are = rw (firsts_are, planned.edges, ← drop-drop edges_at p.behind s, planned.rest, planned.layers)

  -- the plan's count of edges
  pub plan_edges : length (sheet_of s).edges ≡ p.edges
  plan_edges = ap length (sym edges_are) ∙ edges_length firsts p.edges (drop (p.behind + edges_at) s)

  -- the plan's count of nodes
  pub plan_nodes : (sheet_of s).nodes ≡ p.nodes
  unfolding sheet_of
  plan_nodes = sym (ground_is ∙ rw planned.layers)

  -- the arcs of the layers are the network's
  layers_are : (w : ℕ) → layers_arcs s p.layers w p.nodes ≡ flat_map (layer_arcs w (sheet_of s).nodes) (sheet_of s).layers
  unfolding sheet_of
  layers_are w = rw (ground_is, planned.layers)

  -- the arcs of the network are those of the edges, then those of the layers
  arcs_are : (network (sheet_of s)).arcs ≡ edge_arcs ++ layers_arcs s p.layers (sheet_of s).width p.nodes
  unfolding network
  arcs_are =
      sym
      (ap₂ (λ (l r : List Arc). l ++ r) (ap (λ (es : List Edge). map edge_arc (traces es)) edges_are)
      (layers_are (sheet_of s).width))

  -- one arc for each edge, and two for each node
  pub plan_arcs : length (network (sheet_of s)).arcs ≡ p.edges + 2 * p.nodes
  plan_arcs =
      ap length arcs_are
      ∙ length-append edge_arcs (layers_arcs s p.layers (sheet_of s).width p.nodes)
      ∙ omega (arith, edges_count, layers_room (sheet_of s).width)

  -- where the arcs of the edges end
  pub edges_end : {a b : List ℕ} {n m : ℕ} → Puts a n (packs edge_arcs) b m → m ≡ n + stride * p.edges
  edges_end x = omega (arith, x.behind, packs_length edge_arcs, edges_count)

  -- edges and layers make the network
  pub fill_end : {a b c : List ℕ} {w m k : ℕ} → stride * (p.edges + 2 * p.nodes) ≤ length a → w ≡ (sheet_of s).width
      → Puts a 0 (packs edge_arcs) b m → Puts b m (packs (layers_arcs s p.layers w p.nodes)) c k
      → c ≡ written (network (sheet_of s)) a
  unfolding written packed
  fill_end {a} {b} {c} {m = m} {k = k} room e x y =
      let arcs : List Arc = (network (sheet_of s)).arcs in
      let layers : List Arc = layers_arcs s p.layers (sheet_of s).width p.nodes in
      let y : Puts b m (packs layers) c k = rw e at y in
      let all : Puts a 0 (packs arcs) c k = rw arcs_are (puts_arcs edge_arcs layers x y) in
      let size : length (packs arcs) ≡ stride * length arcs = packs_length arcs in
      all.stored ∙ sets_front (packs arcs) a (omega (arith, size, plan_arcs)) ∙ ap (λ (n : ℕ). packs arcs ++ drop n a) size
