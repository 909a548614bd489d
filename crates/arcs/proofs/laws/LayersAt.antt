-- A good layer whose numbers stand at an index, and good layers from an index on, walked one by one.
use Prim.Native.Nat.{ℕ, zero, suc, ◌+◌, ◌-◌, ◌≤◌, ◌<◌}
use mathlib.Core.Path.{◌≡◌, sym, ◌∙◌, ap}
use mathlib.Core.List.{List}
use native.Mathlib.Omega.{arith}
use lib.ListN.{length, get_or, drop, length-drop}
use lib.Seq.{drop-drop}
use Rattle.sheet.specs.Layout.{nodes_at, layer_size, next_layer}
use Rattle.drawing.specs.laws.Good.{GoodLayer, GoodLayers}
use Rattle.leb128.specs.Words.{Small}
use Rattle.arcs.proofs.laws.Numbers.{less_one, number_here}

module _ {n v : ℕ} (at : ℕ) (s : List ℕ) (g : GoodLayer n v (drop at s)) where
  -- its count of nodes is there
  pub count_there : at < length s
  count_there = omega (arith, g.there, length-drop at s)

  module _ {count : ℕ} (e : Small count (get_or s at 0)) where
    -- it has some nodes, and not too many
    pub count_few : (1 ≤ count) × (v + count ≤ n)
    count_few = (omega (arith, g.some, e.is, number_here at s), omega (arith, g.room, e.is, number_here at s))

    -- all its numbers are there
    pub layer_there : at + layer_size count ≤ length s
    layer_there = omega (arith, g.there, count_there, length-drop at s, e.is, number_here at s)

-- what follows the layer at an index
pub next_at : (at : ℕ) {count size : ℕ} (s : List ℕ) → count ≡ get_or s at 0 → size ≡ layer_size count
    → next_layer (drop at s) ≡ drop (at + size) s
next_at at {count} {size} s e f =
    let is-size : layer_size (get_or (drop at s) nodes_at 0) ≡ size = sym (f ∙ ap layer_size (e ∙ number_here at s)) in
    drop-drop (layer_size (get_or (drop at s) nodes_at 0)) at s ∙ ap (λ (k : ℕ). drop (at + k) s) is-size

-- k good layers stand at an index, the first of which starts at node v
pub record LayersAt (n k v at : ℕ) (s : List ℕ) : Type 0 where
  pub inside : at ≤ length s
  pub few : v ≤ n
  pub good : GoodLayers n k v (drop at s)

-- the first of good layers
first_good : (n k v : ℕ) (s : List ℕ) → 0 < k → GoodLayers n k v s → GoodLayer n v s
first_good n zero v s h g = absurd (omega arith)
first_good n (suc k) v s h g = g.0

-- the others
rest_good : (n k v at : ℕ) {count size : ℕ} (s : List ℕ) → 0 < k → count ≡ get_or s at 0 → size ≡ layer_size count
    → GoodLayers n k v (drop at s) → GoodLayers n (k - 1) (v + count) (drop (at + size) s)
rest_good n zero v at s h e f g = absurd (omega arith)
rest_good n (suc k) v at s h e f g = rw (less_one k, ← next_at at s e f, e, number_here at s) g.1

module _ {n k v at : ℕ} {s : List ℕ} (p : LayersAt n k v at s) (h : 0 < k) where
  -- the first layer is good
  pub next_good : GoodLayer n v (drop at s)
  next_good = first_good n k v (drop at s) h p.good

  -- its count of nodes is there
  pub next_there : at < length s
  next_there = count_there at s next_good

  module _ {count size : ℕ} (e : Small count (get_or s at 0)) (f : size ≡ layer_size count) where
    -- all its numbers are there
    pub next_ends : at + size ≤ length s
    next_ends = omega (arith, layer_there at s next_good e)

    -- the other layers stand behind it
    pub layers_next : LayersAt n (k - 1) (v + count) (at + size) s
    layers_next = record { inside = next_ends; few = (count_few at s next_good e).1; good = rest_good n k v at s h e.is f p.good }

  -- it has some nodes, and not too many
  pub next_few : {count : ℕ} → Small count (get_or s at 0) → (1 ≤ count) × (v + count ≤ n)
  next_few e = count_few at s next_good e
