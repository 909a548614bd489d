-- How the total of a held sheet is added: its first nodes rise and its edges can be chained, so it goes layer by layer; and the sum after
-- each layer is the drawing's running sum, by the meaning of the packed edges.
use Prim.Native.Nat.{ℕ, suc, ◌+◌, ◌-◌, ◌*◌, ◌/◌, ◌≤◌, ◌<◌, min}
use Rattle.std.specs.Prelude.{◌≡◌, Bool, true, T, eqb, leb, ltb}
use Rattle.std.proofs.Math.Path.{refl, ap}
use Rattle.std.proofs.Common.{sym, ◌∙◌, ap₂, subst, le→leb, lt→ltb, eq-eqb, lt-ltb}
use Rattle.std.proofs.Math.Bool.{cond}
use mathlib.Core.List.{List, map}
use native.Mathlib.Omega.{arith}
use Rattle.std.proofs.Math.ListN.{length, get_or, take, length-map}
use Rattle.sheet.specs.Limits.{max_nodes, max_edges}
use Rattle.network.specs.Sums.{below, upto}
use Rattle.network.specs.Packed.{stride, packs}
use Rattle.network.proofs.laws.PackedBack.{packs_length}
use Rattle.network.specs.laws.Tests.{and_both, at_below, is_true}
use Rattle.network.specs.laws.Indexed.{upto_in}
use Rattle.drawing.specs.Sheet.{Layer, Edge, Sheet, sheet_of}
use Rattle.drawing.specs.Traces.{traces}
use Rattle.drawing.specs.Drawing.{total_length, total_from, running_sums, Drawing}
use Rattle.drawing.specs.Proper.{proper_edge}
use Rattle.drawing.specs.Arcs.{edge_arc}
use Rattle.drawing.specs.laws.Carriers.{at_listed}
use Rattle.drawing.specs.laws.Traces.{traces_length}
use Rattle.drawing.proofs.laws.ProperEdges.{edge_parts, proper_traces}
use Rattle.drawing.proofs.laws.RunningSums.{starts_rise, starts_zero, some_layer, layer_sum, sums_first}
use Rattle.arcs.specs.declared.Counts.{Counts}
use Rattle.leb128.specs.Words.{u32_most}
use Rattle.totals.specs.Lengths.{lengths_from}
use Rattle.totals.specs.RunningSums.{layer_start, sum_after, RunningSum, rises, chainable, by_layers, with_sums, left_sums}
use Rattle.totals.specs.inside.Chains.{lower_of}
use Rattle.arcs.specs.laws.PackedEdges.{inside_at, packed_edge}
use Rattle.totals.specs.laws.SheetLengths.{running_sum}
use Rattle.arcs.specs.Held.{Holds}
use Rattle.arcs.specs.laws.HeldArcs.{proper, firsts_front, edges_front}

module _ {f a : List ℕ} {c : Counts} (h : Holds f a c) where
  -- the sheet
  abbrev S : Sheet
  S = sheet_of h.numbers

  -- the first nodes of its layers
  abbrev starts : List ℕ
  starts = map (λ (l : Layer). l.first) S.layers

  -- what its edges carry
  abbrev ts : List Edge
  ts = traces S.edges

  -- the first nodes of the layers rise
  pub held_rises : T (rises (take c.layers f))
  held_rises =
      rw (firsts_front h)
      (and_both (eqb (layer_start starts 1) 0) (below (length starts) rise)
      (subst T (sym (eq-eqb (layer_start starts 1) 0 (starts_zero h.numbers h.good))) tt)
      (at_below (length starts) rise
      (λ i l.
      let here : i + 1 - 1 ≡ i = omega arith in
      let next : i + 2 - 1 ≡ suc i = omega arith in
      let inside : i < length S.layers = omega (arith, length-map S.layers (λ (l : Layer). l.first)) in
      lt→ltb (layer_start starts (i + 1)) (layer_start starts (i + 2)) (rw (here, next) (starts_rise h.numbers h.good i inside)))))
    where
      rise : ℕ → Bool
      rise i = ltb (layer_start starts (i + 1)) (layer_start starts (i + 2))

  -- the edges can be chained, by as many nodes as the sheet has
  pub held_chainable : T (chainable c.nodes (take (stride * c.edges) a))
  held_chainable =
      let s : List ℕ = packs (map edge_arc ts) in
      let lies : ℕ → Bool = λ i. ltb (lower_of s i) c.nodes in
      let count : length s / stride ≡ length ts = omega (arith, packs_length (map edge_arc ts), length-map ts edge_arc) in
      rw (edges_front h)
      (and_both (leb (length s / stride) max_edges) (below (length s / stride) lies)
      (le→leb (length s / stride) max_edges (omega (arith, count, traces_length S.edges, (proper h).few)))
      (at_below (length s / stride) lies (λ i l. lt→ltb (lower_of s i) c.nodes (low i (omega (arith, count))))))
    where
      -- a lower end is a node
      low : (i : ℕ) → i < length ts → lower_of (packs (map edge_arc ts)) i < c.nodes
      low i l =
          let t = inside_at ts i l in
          let limits = edge_parts S.nodes t.0 ((at_listed t.1).passes (proper_edge S.nodes) (proper_traces S (proper h))) in
          omega (arith, (packed_edge t.1 limits.weight).lower, limits.lower, h.nodes_are)

  -- the sum after a layer is the drawing's
  pub held_sum : (p : List ℕ) → Drawing (sheet_of h.numbers) p → {layer sum : ℕ} → 1 ≤ layer → layer ≤ c.layers
      → RunningSum (take c.layers f) p (take (stride * c.edges) a) layer sum
      → sum ≡ get_or (running_sums (sheet_of h.numbers) p) (layer - 1) 0
  held_sum p d {layer} some there e =
      e
      ∙ ap₂ (λ (l k : List ℕ). min u32_most (lengths_from (layer_start l layer) p k)) (firsts_front h) (edges_front h)
      ∙ running_sum S p (proper h) d (layer_start starts layer)
      ∙ sym (layer_sum (λ (v : ℕ). total_from v S p) S.layers (layer - 1) (omega (arith, h.layers_are)))

  -- it is added layer by layer
  pub held_layers : (p : List ℕ) → Drawing (sheet_of h.numbers) p
      → by_layers (take c.layers f) p (take (stride * c.edges) a) ≡ true
  held_layers p d =
      let few : c.nodes ≡ min (length p) max_nodes = omega (arith, d.size, h.nodes_are, (proper h).nodes) in
      is_true (by_layers (take c.layers f) p (take (stride * c.edges) a))
      (and_both (rises (take c.layers f)) (chainable (min (length p) max_nodes) (take (stride * c.edges) a)) held_rises
      (subst (λ (n : ℕ). T (chainable n (take (stride * c.edges) a))) few held_chainable))

  -- so what it leaves in a lent slice are the drawing's running sums, the first layer's in front
  pub held_left : (p old : List ℕ) → Drawing (sheet_of h.numbers) p → (i : ℕ) → i < c.layers → i < length old
      → get_or (left_sums (take c.layers f) p (take (stride * c.edges) a) old) i 0
      ≡ get_or (running_sums (sheet_of h.numbers) p) i 0
  unfolding left_sums with_sums
  held_left p old d i k l =
      let first : List ℕ = take c.layers f in
      let s : List ℕ = take (stride * c.edges) a in
      let sums : ℕ → ℕ = λ j. cond (ltb j (length first)) (sum_after first p s (j + 1)) (get_or old j 0) in
      let many : i < length first =
      omega (arith, ap length (firsts_front h), length-map S.layers (λ (l : Layer). l.first), h.layers_are) in
      let back : i + 1 - 1 ≡ i = omega arith in
      ap (λ (b : Bool). get_or (cond b (upto (length old) sums) old) i 0) (held_layers p d)
      ∙ upto_in 0 (length old) sums i l
      ∙ ap (λ (b : Bool). cond b (sum_after first p s (i + 1)) (get_or old i 0)) (lt-ltb i (length first) many)
      ∙ held_sum p d {layer = i + 1} {sum = sum_after first p s (i + 1)} (omega arith) (omega arith) refl
      ∙ ap (λ (j : ℕ). get_or (running_sums S p) j 0) back

  -- and the last one that it writes is the total
  pub held_left_first : (p old : List ℕ) → Drawing (sheet_of h.numbers) p → 0 < length old
      → get_or (left_sums (take c.layers f) p (take (stride * c.edges) a) old) 0 0 ≡ total_length (sheet_of h.numbers) p
  held_left_first p old d l =
      held_left p old d 0 (omega (arith, some_layer h.numbers h.good, h.layers_are)) l ∙ sums_first h.numbers h.good p
