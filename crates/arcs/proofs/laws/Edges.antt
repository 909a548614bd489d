-- The numbers of an edge give its ends and its strength, and good edges are good one by one.
use Prim.Native.Nat.{ℕ, zero, suc, ◌+◌, ◌*◌, ◌≤◌, ◌<◌}
use mathlib.Core.Path.{◌≡◌, refl, ◌∙◌}
use mathlib.Core.List.{List}
use native.Mathlib.Omega.{arith}
use lib.ListN.{length, get_or, drop}
use lib.Seq.{drop-drop}
use Rattle.leb128.specs.Limits.{list_limit}
use Rattle.sheet.specs.Limits.{max_weight}
use Rattle.sheet.specs.Layout.{edge_stride, edge_layer_at, edge_upper_at, edge_lower_at, edge_kind_at}
use Rattle.drawing.specs.Sheet.{node_at, edge_of}
use Rattle.drawing.specs.laws.Good.{GoodEdge, GoodEdges}
use Rattle.arcs.specs.inside.Traces.{strength_of, as_read}
use Rattle.arcs.specs.declared.ReadEdge.{ReadEdge}
use Rattle.leb128.specs.Words.{Small}
use Rattle.arcs.proofs.laws.Numbers.{number_behind}

-- the four numbers of the edge at an index
module _ {n : ℕ} {first : List ℕ} (at : ℕ) (s : List ℕ) (g : GoodEdge n first (drop at s)) {layer above below kind : ℕ}
    (e1 : Small layer (get_or s (at + edge_layer_at) 0)) (e2 : Small above (get_or s (at + edge_upper_at) 0))
    (e3 : Small below (get_or s (at + edge_lower_at) 0)) (e4 : Small kind (get_or s (at + edge_kind_at) 0)) where
  -- its upper layer
  layer_is : layer ≡ get_or (drop at s) edge_layer_at 0
  layer_is = e1.is ∙ number_behind at edge_layer_at s

  -- the position of its upper end
  above_is : above ≡ get_or (drop at s) edge_upper_at 0
  above_is = e2.is ∙ number_behind at edge_upper_at s

  -- the position of its lower end
  below_is : below ≡ get_or (drop at s) edge_lower_at 0
  below_is = e3.is ∙ number_behind at edge_lower_at s

  -- its kind
  kind_is : kind ≡ get_or (drop at s) edge_kind_at 0
  kind_is = e4.is ∙ number_behind at edge_kind_at s

  -- the upper end stands in a layer
  pub upper_there : (1 ≤ layer) × (layer ≤ length first) × (1 ≤ above) × (above < list_limit)
  upper_there = omega (arith, layer_is, above_is, e2.fits, g.layer, g.positions)

  -- the lower end stands in the layer below
  pub lower_there : (1 ≤ layer + 1) × (layer + 1 ≤ length first) × (1 ≤ below) × (below < list_limit)
  lower_there = omega (arith, layer_is, below_is, e3.fits, g.layer, g.positions)

  -- the edge, from its ends and its strength
  pub edge_is : {upper lower amount : ℕ} → upper ≡ node_at first layer above → lower ≡ node_at first (layer + 1) below
      → amount ≡ strength_of kind 1
      → ◌≡◌ {A = ReadEdge} (record { upper = upper; lower = lower; strength = amount }) (as_read (edge_of first (drop at s)))
  edge_is u l a = rw (a, u, l, layer_is, above_is, below_is, kind_is)

-- a kind that is not 0 is straight
pub straight : (kind : ℕ) → (kind ≡ 0 → ⊥) → max_weight + 1 ≡ strength_of kind 1
straight zero n = absurd (n refl)
straight (suc kind) n = refl

-- edge i of m good ones
pub good_at : {n : ℕ} {first : List ℕ} (m start i : ℕ) (s : List ℕ) → i < m → GoodEdges n first m (drop start s)
    → GoodEdge n first (drop (start + edge_stride * i) s)
good_at zero start i s h g = absurd (omega arith)
good_at (suc m) start zero s h g = let here : start + edge_stride * 0 ≡ start = omega arith in rw here g.0
good_at (suc m) start (suc i) s h g =
    let next : start + edge_stride + edge_stride * i ≡ start + edge_stride * suc i = omega arith in
    rw next at (good_at m (start + edge_stride) i s (omega arith) (rw (drop-drop edge_stride start s) at g.1))
