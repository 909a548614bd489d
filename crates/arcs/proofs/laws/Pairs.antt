-- The arcs of pairs, written one after the other: two arcs make a pair, and each pair is a part of what is left.
use Prim.Native.Nat.{ℕ, zero, suc, ◌+◌, ◌-◌, ◌*◌, ◌<◌}
use mathlib.Core.Path.{◌≡◌, refl, ◌∙◌, ap}
use mathlib.Core.List.{List, [], ◌∷◌, ◌++◌, flat_map}
use native.Mathlib.Numerals.{add-one}
use native.Mathlib.Omega.{arith}
use lib.IntN.{pos, neg_ℤ}
use lib.ListN.{length, get_or, drop}
use lib.Seq.{drop-drop}
use Rattle.leb128.specs.inside.Storing.{Puts}
use Rattle.leb128.specs.laws.Storing.{Left, left_begin, left_end}
use Rattle.sheet.specs.Layout.{separation_stride, minimum_at, maximum_at}
use Rattle.network.specs.Network.{Arc}
use Rattle.network.specs.Packed.{stride, kink_zero, flow_zero, high_none, packs}
use Rattle.network.proofs.laws.PackedBack.{packs_length}
use Rattle.drawing.specs.Sheet.{pairs_of}
use Rattle.drawing.specs.Arcs.{minimum_arc, maximum_arc, separation_arcs}
use Rattle.arcs.specs.inside.Pieces.{pair_at}
use Rattle.arcs.proofs.laws.Numbers.{number_behind}
use Rattle.arcs.proofs.laws.Packing.{puts_arcs, left_arcs, upper_bound_packs, minimum_kink}

-- two arcs make a pair
pub pair_puts : {a b c x y : List ℕ} {n m l v least greatest : ℕ} (at : ℕ) (s : List ℕ)
    → least ≡ get_or s (at + minimum_at) 0 → greatest ≡ get_or s (at + maximum_at) 0
    → x ≡ (v + 1) ∷ v ∷ (kink_zero - least) ∷ flow_zero ∷ high_none ∷ [] → y ≡ packs (maximum_arc greatest v ∷ [])
    → Puts a n x b m → Puts b m y c l → Puts a n (packs (separation_arcs (pair_at v (drop at s)))) c l
pair_puts {v = v} {least} {greatest} at s e f p q h k =
    let t : List ℕ = drop at s in
    let is_least : least ≡ get_or t minimum_at 0 = e ∙ number_behind at minimum_at s in
    let is-greatest : greatest ≡ get_or t maximum_at 0 = f ∙ number_behind at maximum_at s in
    let kink = minimum_kink (get_or t minimum_at 0) in
    let arc = upper_bound_packs (suc v) v (kink_zero - get_or t minimum_at 0) (neg_ℤ (pos (get_or t minimum_at 0))) kink in
    puts_arcs (minimum_arc (pair_at v t) ∷ []) (maximum_arc (get_or t maximum_at 0) v ∷ [])
    (rw (p, add-one v, is_least, arc) at h) (rw (q, is-greatest) at k)

-- two arcs for each pair
pub pairs_length : (k v : ℕ) (s : List ℕ) → length (flat_map separation_arcs (pairs_of k v s)) ≡ 2 * k
unfolding flat_map
pairs_length zero v s = refl
pairs_length (suc k) v s = omega (arith, pairs_length k (suc v) (drop separation_stride s))

-- the first of some pairs, and the others
pairs_next : {k others v u next : ℕ} (at : ℕ) (s : List ℕ) → k ≡ suc others → u ≡ suc v → next ≡ at + separation_stride
    → flat_map separation_arcs (pairs_of k v (drop at s))
    ≡ separation_arcs (pair_at v (drop at s)) ++ flat_map separation_arcs (pairs_of others u (drop next s))
unfolding flat_map
pairs_next {others = others} {v} at s e f g =
    rw (e, f, g)
    (ap (λ (t : List ℕ). separation_arcs (pair_at v (drop at s)) ++ flat_map separation_arcs (pairs_of others (suc v) t))
    (drop-drop separation_stride at s))

-- the arcs of the pairs from pair k on
abbrev pairs_from : List ℕ → ℕ → ℕ → ℕ → ℕ → List Arc
pairs_from s start count first k =
    flat_map separation_arcs (pairs_of (count - k) (first + k) (drop (start + separation_stride * k) s))

-- the loop over the pairs: k of them are written
pub record PairsLeft (s : List ℕ) (start count first n : ℕ) (old new : List ℕ) (k m : ℕ) : Type 0 where
  pub room : m ≡ n + 2 * stride * k
  pub left : Left old n (packs (flat_map separation_arcs (pairs_of count first (drop start s)))) new m (packs (pairs_from s start count first k))

-- no pair is written
pub pairs_begin : (s : List ℕ) (start count first n : ℕ) (old : List ℕ) → PairsLeft s start count first n old old 0 n
pairs_begin s start count first n old =
    let all : count - 0 ≡ count = omega arith in
    let same : first + 0 ≡ first = omega arith in
    let front : start + separation_stride * 0 ≡ start = omega arith in
    record { room = omega arith; left = rw (all, same, front) (left_begin _ _ _) }

module _ {s old new : List ℕ} {start count first n k m : ℕ} (p : PairsLeft s start count first n old new k m) where
  -- one pair more
  pub pairs_step : {newer : List ℕ} {l : ℕ} → k < count
      → Puts new m (packs (separation_arcs (pair_at (first + k) (drop (start + separation_stride * k) s)))) newer l
      → PairsLeft s start count first n old newer (k + 1) l
  pairs_step h a =
      let pair = separation_arcs (pair_at (first + k) (drop (start + separation_stride * k) s)) in
      let next = pairs_next {k = count - k} {others = count - (k + 1)} {v = first + k} {u = first + (k + 1)}
      {next = start + separation_stride * (k + 1)} (start + separation_stride * k) s
      (omega arith) (omega arith) (omega arith) in
      record {
        room = omega (arith, p.room, a.behind, packs_length pair);
        left = left_arcs pair (pairs_from s start count first (k + 1)) (rw next at p.left) a;
      }

  -- no pair is left
  pub pairs_end : k ≡ count → Puts old n (packs (flat_map separation_arcs (pairs_of count first (drop start s)))) new m
  unfolding flat_map packs
  pairs_end e = let none : count - k ≡ 0 = omega arith in left_end (rw none at p.left)
