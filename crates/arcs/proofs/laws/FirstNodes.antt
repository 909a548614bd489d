-- The pass over the layers finds the first node of each and the index behind them, layer by layer; what it finds is a plan.
use Prim.Native.Nat.{ℕ, zero, suc, ◌+◌, ◌-◌, ◌≤◌, ◌<◌}
use mathlib.Core.Path.{◌≡◌, refl, sym, ◌∙◌, ap}
use mathlib.Core.List.{List, ◌∷◌}
use native.Mathlib.Omega.{arith}
use lib.ListN.{length, get_or, drop, take, set, length-drop}
use lib.Seq.{take_at}
use Rattle.leb128.specs.inside.Storing.{Puts}
use Rattle.leb128.specs.laws.Storing.{sets_front, puts_length, Left, left_begin, left_one, left_end}
use Rattle.sheet.specs.Limits.{max_nodes, max_layers}
use Rattle.sheet.specs.Layout.{layers_at, first_layer_at, layer_size, behind_layers}
use Rattle.drawing.specs.Sheet.{first_nodes}
use Rattle.drawing.specs.laws.Good.{GoodLayers, GoodRest, Good}
use Rattle.leb128.specs.Words.{Small}
use Rattle.arcs.specs.inside.Plans.{FirstNodes, Planned}
use Rattle.arcs.proofs.laws.Numbers.{less_one, number_here}
use Rattle.arcs.proofs.laws.LayersAt.{next_at, LayersAt, layers_next}

-- the loop over the layers
pub record FirstsLeft (s : List ℕ) (layers : ℕ) (old new : List ℕ) (todo i at v : ℕ) : Type 0 where
  pub turns : i + todo ≡ layers
  pub here : LayersAt max_nodes todo v at s
  pub left : Left old 0 (first_nodes layers 0 (drop first_layer_at s)) new i (first_nodes todo v (drop at s))
  pub rest : behind_layers todo (drop at s) ≡ behind_layers layers (drop first_layer_at s)

-- no layer is passed yet
pub firsts_begin : {s old : List ℕ} {layers : ℕ} → LayersAt max_nodes layers 0 first_layer_at s
    → FirstsLeft s layers old old layers 0 first_layer_at 0
firsts_begin here = record { turns = omega arith; here = here; left = left_begin _ _ _; rest = refl }

-- the first node of the first layer, and of the others
first_nodes_next : (k v at : ℕ) {count size : ℕ} (s : List ℕ) → 0 < k → count ≡ get_or s at 0 → size ≡ layer_size count
    → first_nodes k v (drop at s) ≡ v ∷ first_nodes (k - 1) (v + count) (drop (at + size) s)
first_nodes_next zero v at s h e f = absurd (omega arith)
first_nodes_next (suc k) v at s h e f = rw (less_one k, ← next_at at s e f, e, number_here at s)

-- what follows them
behind_next : (k at : ℕ) {count size : ℕ} (s : List ℕ) → 0 < k → count ≡ get_or s at 0 → size ≡ layer_size count
    → behind_layers k (drop at s) ≡ behind_layers (k - 1) (drop (at + size) s)
behind_next zero at s h e f = absurd (omega arith)
behind_next (suc k) at s h e f = rw (less_one k, ← next_at at s e f)

module _ {s old new : List ℕ} {layers todo i at v : ℕ} (p : FirstsLeft s layers old new todo i at v) where
  -- one layer more
  pub firsts_step : {count size : ℕ} → 0 < todo → Small count (get_or s at 0) → size ≡ layer_size count
      → FirstsLeft s layers old (set new i v) (todo - 1) (i + 1) (at + size) (v + count)
  firsts_step h e f =
      record {
        turns = omega (arith, p.turns);
        here = layers_next p.here h e f;
        left = left_one (rw (first_nodes_next todo v at s h e.is f) at p.left);
        rest = sym (behind_next todo at s h e.is f) ∙ p.rest;
      }

  -- no layer is left
  pub firsts_end : todo ≡ 0 → layers < length old → FirstNodes s layers old (set new i v) at
  firsts_end e h =
      let whole : List ℕ = first_nodes layers 0 (drop first_layer_at s) in
      let all : Puts old 0 whole (set new i v) (i + 1) = left_end (left_one (rw e at p.left)) in
      let size : length whole ≡ layers + 1 = omega (arith, all.behind, p.turns) in
      record {
        size = puts_length all;
        firsts =
            ap (take (layers + 1)) (all.stored ∙ sets_front whole old (omega (arith, size)))
            ∙ take_at whole (drop (length whole) old) (layers + 1) size;
        rest = rw e at p.rest;
        inside = p.here.inside;
      }

module _ {n : ℕ} {s : List ℕ} (g : Good n s) {layers : ℕ} (e : Small layers (get_or s layers_at 0)) where
  -- there are not too many layers
  pub layers_few : layers ≤ max_layers
  layers_few = omega (arith, g.few, e.is)

  -- they are good
  pub layers_good : GoodLayers n layers 0 (drop first_layer_at s)
  layers_good = rw e.is g.layers

  module _ {old first : List ℕ} {behind : ℕ} (f : FirstNodes s layers old first behind) where
    -- the count of edges is there
    pub edges_there : behind < length s
    edges_there =
        let rest : GoodRest n (first_nodes layers 0 (drop first_layer_at s)) (drop behind s) = rw (f.rest, e.is) g.rest in
        omega (arith, rest.there, length-drop behind s)

    -- what the pass finds is a plan
    pub planned : {nodes edges : ℕ} → max_layers < length old → nodes ≡ get_or first layers 0 → edges ≡ get_or s behind 0
        → Planned s first (record { layers = layers; behind = behind; nodes = nodes; edges = edges })
    planned h i j =
        record {
          layers = e.is;
          long = omega (arith, layers_few, f.size);
          firsts = f.firsts;
          rest = f.rest;
          inside = f.inside;
          nodes = i;
          edges = j ∙ number_here behind s;
        }
