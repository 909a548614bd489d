-- Layer by layer: the chain of a layer comes to what is between its first node and the next layer's, so the running sum of a layer becomes
-- that of the one above it, from 0 behind the last layer to the total after the first.
use Prim.Native.Nat.{ℕ, ◌+◌, ◌/◌, ◌≤◌, ◌<◌, min}
use mathlib.Core.Path.{◌≡◌, ◌∙◌, ap}
use mathlib.Core.List.{List}
use native.Mathlib.Omega.{arith}
use lib.Dec.{T}
use lib.ListN.{length, get_or, get_or-eq_default}
use Rattle.sheet.specs.Limits.{max_nodes}
use Rattle.network.specs.Sums.{sum_to}
use Rattle.network.specs.Packed.{stride}
use Rattle.network.specs.laws.SumsTo.{sum_to_eq}
use Rattle.leb128.specs.Words.{u32_most}
use Rattle.packed.specs.Ends.{edge_from}
use Rattle.totals.specs.Lengths.{counted_at, lengths_between}
use Rattle.totals.specs.RunningSums.{layer_start, rises, RunningSum}
use Rattle.totals.specs.inside.Chains.{lower_of, LayerChains}
use Rattle.totals.specs.laws.LowerEnds.{from_none, from_parts}
use Rattle.totals.proofs.laws.Starts.{starts_rise, starts_node, start_in}
use Rattle.totals.proofs.laws.Walking.{term, Walking, walking_begin, walking_next, walking_end}

-- on the way along a layer's chain
pub record LayerWalk (first p s chains : List ℕ) (layer sum link r : ℕ) : Type 0 where
  pub rise : T (rises first)
  pub held : LayerChains first s chains
  pub some : 1 ≤ layer
  pub there : layer ≤ length first
  pub walking : Walking p held.starts s (layer_start first layer) sum link r

-- before the first edge
pub walk_begin : {first s chains : List ℕ} {layer sum start link : ℕ} (p : List ℕ) → T (rises first) → LayerChains first s chains
    → 1 ≤ layer → layer ≤ length first → sum ≤ u32_most → start ≡ layer_start first layer → link ≡ get_or chains start 0
    → LayerWalk first p s chains layer sum link sum
walk_begin {first} {chains = chains} p t c h k l e f = record {
  rise = t;
  held = c;
  some = h;
  there = k;
  walking = walking_begin c.chained (starts_node first t h k) l (f ∙ ap (λ (v : ℕ). get_or chains v 0) e);
}

module _ {first p s chains : List ℕ} {layer sum link r : ℕ} (w : LayerWalk first p s chains layer sum link r) where
  -- the link leads to edge i
  module _ (i : ℕ) (is : link ≡ i + 1) where
    -- one edge more
    pub walk_next : {next r' : ℕ} → r' ≡ min u32_most (r + counted_at p (edge_from i s))
        → next ≡ get_or chains (max_nodes + i) 0 → LayerWalk first p s chains layer sum next r'
    walk_next e f = record {
      rise = w.rise;
      held = w.held;
      some = w.some;
      there = w.there;
      walking = walking_next w.held.chained w.walking i is e f;
    }

  -- the chain comes to what is between the layer's first node and the next layer's
  chain_sum : sum_to (length s / stride) (term p w.held.starts s (layer_start first layer))
      ≡ lengths_between (layer_start first layer) (layer_start first (layer + 1)) p s
  chain_sum =
      sum_to_eq (length s / stride) _ _
      (λ i l.
      start_in first w.rise w.some w.there (w.held.of.each (lower_of s i) (w.held.chained.low i l))
      (counted_at p (edge_from i s)))

  -- no edge is left: the whole layer is added
  walk_added : link ≡ 0 → r ≡ min u32_most (sum + lengths_between (layer_start first layer) (layer_start first (layer + 1)) p s)
  walk_added e = walking_end w.held.chained w.walking e ∙ ap (λ (x : ℕ). min u32_most (sum + x)) chain_sum

  -- so the running sum of the layer behind becomes that of the layer
  pub walk_runs : link ≡ 0 → RunningSum first p s (layer + 1) sum → RunningSum first p s layer r
  walk_runs e f =
      let rise : layer_start first layer < layer_start first (layer + 1) = starts_rise first w.rise w.some w.there in
      omega (arith, walk_added e, from_parts p s (layer_start first layer) (layer_start first (layer + 1)) (omega arith))

module _ (first p s : List ℕ) where
  -- behind the last layer nothing is counted
  pub layers_begin : {chains : List ℕ} → LayerChains first s chains → RunningSum first p s (length first + 1) 0
  layers_begin c =
      let behind : layer_start first (length first + 1) ≡ max_nodes = get_or-eq_default first max_nodes (omega arith) in
      rw behind (omega (arith, from_none p s max_nodes (λ i l. omega (arith, c.chained.low i l, c.of.size))))
