-- The arcs of layers, written one after the other: boundaries and pairs make a layer, and each layer is a part of what is left.
use Prim.Native.Nat.{ℕ, zero, suc, ◌+◌, ◌-◌, ◌*◌, ◌≤◌, ◌<◌}
use mathlib.Core.Path.{◌≡◌, refl, ◌∙◌, ap}
use mathlib.Core.List.{List, [], ◌∷◌, ◌++◌, flat_map}
use native.Mathlib.Omega.{arith}
use lib.IntN.{pos}
use lib.ListN.{length, get_or, drop, length-append}
use lib.Seq.{drop-drop}
use Rattle.leb128.specs.inside.Storing.{Puts}
use Rattle.leb128.specs.laws.Storing.{Left, left_begin, left_end}
use Rattle.sheet.specs.Limits.{max_nodes}
use Rattle.sheet.specs.Layout.{first_layer_at, nodes_at, separations_at, layer_size}
use Rattle.network.specs.Network.{Arc, upper_bound}
use Rattle.network.specs.Packed.{stride, kink_zero, flow_zero, high_none, packs}
use Rattle.network.proofs.laws.PackedBack.{packs_length}
use Rattle.drawing.specs.Sheet.{pairs_of, layers_of}
use Rattle.drawing.specs.Arcs.{separation_arcs, layer_arcs}
use Rattle.drawing.specs.laws.Good.{GoodLayer}
use Rattle.drawing.proofs.laws.SameDrawings.{length_pairs}
use Rattle.drawing.specs.laws.Terms.{layer_length}
use Rattle.leb128.specs.Words.{Small}
use Rattle.arcs.specs.inside.Pieces.{layer_at, layers_arcs}
use Rattle.arcs.proofs.laws.Numbers.{less_one, number_here}
use Rattle.arcs.proofs.laws.LayersAt.{next_at, LayersAt, next_good, layers_next}
use Rattle.arcs.proofs.laws.Packing.{puts_arcs, left_arcs, upper_bound_packs}
use Rattle.arcs.proofs.laws.Pairs.{pairs_length}

module _ {n v : ℕ} (at : ℕ) (s : List ℕ) (g : GoodLayer n v (drop at s)) {count : ℕ} (e : Small count (get_or s at 0)) where
  -- where the arcs of its pairs end
  pub pairs_size : {a b : List ℕ} {i m : ℕ}
      → Puts a i (packs (flat_map separation_arcs (pairs_of (count - 1) v (drop (at + separations_at) s)))) b m
      → m ≡ i + 2 * stride * (count - 1)
  pairs_size x =
      let t : List ℕ = drop (at + separations_at) s in
      omega (arith, x.behind, packs_length (flat_map separation_arcs (pairs_of (count - 1) v t)), pairs_length (count - 1) v t)

  -- room for all its arcs
  pub count_room : (m l : ℕ) → m + 2 * stride * get_or (drop at s) nodes_at 0 ≤ l → m + 2 * stride * count ≤ l
  count_room m l h = omega (arith, e.is, number_here at s)

-- left boundary, pairs and right boundary make a layer
pub layer_puts : {a b c d x y : List ℕ} {n m l k v ground count : ℕ} (width at : ℕ) (s : List ℕ) → count ≡ get_or s at 0
    → x ≡ v ∷ ground ∷ kink_zero ∷ flow_zero ∷ high_none ∷ []
    → y ≡ ground ∷ (v + (count - 1)) ∷ (kink_zero + width) ∷ flow_zero ∷ high_none ∷ []
    → Puts a n x b m
    → Puts b m (packs (flat_map separation_arcs (pairs_of (count - 1) v (drop (at + separations_at) s)))) c l
    → Puts c l y d k
    → Puts a n (packs (layer_arcs width ground (layer_at v (drop at s)))) d k
layer_puts {v = v} {ground} width at s e f g p q r =
    let others : ℕ = get_or (drop at s) nodes_at 0 - 1 in
    let pairs = pairs_of others v (drop separations_at (drop at s)) in
    let arcs : List Arc = flat_map separation_arcs pairs in
    let right : Arc = upper_bound ground (v + length pairs) (pos width) in
    let left-arc = upper_bound_packs v ground kink_zero (pos 0) refl in
    let right-arc = upper_bound_packs ground (v + others) (kink_zero + width) (pos width) refl in
    puts_arcs (upper_bound v ground (pos 0) ∷ []) (arcs ++ (right ∷ []))
    (rw (f, left-arc) at p)
    (puts_arcs arcs (right ∷ [])
    (rw (e, number_here at s, ← drop-drop separations_at at s) at q)
    (rw (length_pairs others v (drop separations_at (drop at s))) (rw (g, e, number_here at s, right-arc) at r)))

-- the first of some layers, and the others
layers_first : (k v at : ℕ) {count size : ℕ} (s : List ℕ) (width ground : ℕ) → 0 < k → count ≡ get_or s at 0 → size ≡ layer_size count
    → flat_map (layer_arcs width ground) (layers_of k v (drop at s))
    ≡ layer_arcs width ground (layer_at v (drop at s))
    ++ flat_map (layer_arcs width ground) (layers_of (k - 1) (v + count) (drop (at + size) s))
unfolding flat_map
layers_first zero v at s width ground h e f = absurd (omega arith)
layers_first (suc k) v at s width ground h e f = rw (less_one k, ← next_at at s e f, e, number_here at s)

-- a layer of c nodes has 2 · c arcs
layer_size_is : {n v : ℕ} {s : List ℕ} (width ground : ℕ) → GoodLayer n v s
    → length (layer_arcs width ground (layer_at v s)) ≡ 2 * get_or s nodes_at 0
layer_size_is {n} {v} {s} width ground g =
    omega (arith, layer_length width ground (layer_at v s), length_pairs (get_or s nodes_at 0 - 1) v (drop separations_at s), g.some)

-- the loop over the layers
pub record LayersLeft (s : List ℕ) (layers width ground n : ℕ) (old new : List ℕ) (todo at v m : ℕ) : Type 0 where
  pub here : LayersAt max_nodes todo v at s
  pub left : Left old n (packs (layers_arcs s layers width ground)) new m
      (packs (flat_map (layer_arcs width ground) (layers_of todo v (drop at s))))

-- no layer is written yet
pub layers_begin : {s old : List ℕ} {layers width ground n : ℕ} → LayersAt max_nodes layers 0 first_layer_at s
    → LayersLeft s layers width ground n old old layers first_layer_at 0 n
layers_begin here = record { here = here; left = left_begin _ _ _ }

module _ {s old new : List ℕ} {layers width ground n todo at v m : ℕ} (p : LayersLeft s layers width ground n old new todo at v m)
    (h : 0 < todo) where
  -- there is room for one layer more
  pub layer_room : m + 2 * stride * get_or (drop at s) nodes_at 0 ≤ n + stride * length (layers_arcs s layers width ground)
  layer_room =
      let one : List Arc = layer_arcs width ground (layer_at v (drop at s)) in
      let size : ℕ = layer_size (get_or s at 0) in
      let others : List Arc = flat_map (layer_arcs width ground) (layers_of (todo - 1) (v + get_or s at 0) (drop (at + size) s)) in
      omega (
        arith,
        p.left.ends,
        packs_length (layers_arcs s layers width ground),
        packs_length (flat_map (layer_arcs width ground) (layers_of todo v (drop at s))),
        ap length (layers_first todo v at s width ground h refl refl) ∙ length-append one others,
        layer_size_is width ground (next_good p.here h),
      )

  -- one layer more
  pub layers_step : {newer : List ℕ} {l count size : ℕ} → Small count (get_or s at 0) → size ≡ layer_size count
      → Puts new m (packs (layer_arcs width ground (layer_at v (drop at s)))) newer l
      → LayersLeft s layers width ground n old newer (todo - 1) (at + size) (v + count) l
  layers_step {newer} {l} {count} {size} e f a =
      let others : List Arc = flat_map (layer_arcs width ground) (layers_of (todo - 1) (v + count) (drop (at + size) s)) in
      record {
        here = layers_next p.here h e f;
        left =
            left_arcs (layer_arcs width ground (layer_at v (drop at s))) others
            (rw (layers_first todo v at s width ground h e.is f) at p.left) a;
      }

-- no layer is left
pub layers_end : {s old new : List ℕ} {layers width ground n todo at v m : ℕ}
    → LayersLeft s layers width ground n old new todo at v m → todo ≡ 0 → Puts old n (packs (layers_arcs s layers width ground)) new m
unfolding flat_map packs
layers_end p e = left_end (rw e at p.left)
