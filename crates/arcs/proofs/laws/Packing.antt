-- Five stores make an arc, arcs are stored one behind the other, and the numbers of each kind of arc are its packing, by cases.
use Prim.Native.Nat.{ℕ, zero, suc, ◌+◌, ◌-◌, ◌≤◌, ◌<◌}
use mathlib.Core.Path.{◌≡◌, refl}
use mathlib.Core.List.{List, [], ◌∷◌, ◌++◌}
use native.Mathlib.Numerals.{add-one}
use native.Mathlib.Omega.{arith}
use lib.IntN.{ℤ, pos, neg_ℤ}
use lib.ListN.{set}
use borrow.Author.Tests.{le-leb, lt-leb}
use Rattle.leb128.specs.inside.Storing.{Puts}
use Rattle.leb128.specs.laws.Storing.{puts_then, Left, left_part}
use Rattle.network.specs.Packed.{tail_at, head_at, kink_at, low_at, high_at, stride}
use Rattle.network.specs.Packed.{kink_zero, flow_zero, low_none, high_none, raised, packs}
use Rattle.network.specs.Network.{Arc, upper_bound}
use Rattle.network.proofs.laws.PackedBack.{packs_append}
use Rattle.sheet.specs.Limits.{max_weight}
use Rattle.drawing.specs.Arcs.{maximum_arc}
use Rattle.arcs.specs.inside.Traces.{strength_arc}

-- the five stores of an arc
pub arc_puts : (a : List ℕ) (n t h k l u : ℕ)
    → Puts a n (t ∷ h ∷ k ∷ l ∷ u ∷ [])
    (set (set (set (set (set a (n + tail_at) t) (n + head_at) h) (n + kink_at) k) (n + low_at) l) (n + high_at) u) (n + stride)
arc_puts a n t h k l u =
    let at_tail : n + tail_at ≡ n = omega arith in
    let at_head : n + head_at ≡ suc n = omega arith in
    let at_kink : n + kink_at ≡ suc (suc n) = omega arith in
    let at_low : n + low_at ≡ suc (suc (suc n)) = omega arith in
    let at_high : n + high_at ≡ suc (suc (suc (suc n))) = omega arith in
    record { stored = rw (at_tail, at_head, at_kink, at_low, at_high); behind = omega arith }

-- some arcs are stored, and others behind them
pub puts_arcs : {a b c : List ℕ} {n m l : ℕ} (some others : List Arc) → Puts a n (packs some) b m → Puts b m (packs others) c l
    → Puts a n (packs (some ++ others)) c l
puts_arcs some others p q = rw (packs_append some others) (puts_then p q)

-- some of the arcs that are left are stored
pub left_arcs : {old whole new new' : List ℕ} {start at next : ℕ} (some rest : List Arc)
    → Left old start whole new at (packs (some ++ rest)) → Puts new at (packs some) new' next
    → Left old start whole new' next (packs rest)
left_arcs some rest left p = left_part (rw (packs_append some rest) at left) p

-- an arc that keeps its head from standing further right of its tail than k
pub upper_bound_packs : (t h k : ℕ) (z : ℤ) → k ≡ raised kink_zero z
    → t ∷ h ∷ k ∷ flow_zero ∷ high_none ∷ [] ≡ packs (upper_bound t h z ∷ [])
unfolding packs
upper_bound_packs t h k z e = rw e

-- the kink of a minimum separation
pub minimum_kink : (n : ℕ) → kink_zero - n ≡ raised kink_zero (neg_ℤ (pos n))
minimum_kink zero = refl
minimum_kink (suc n) = refl

-- a maximum separation that is none
pub maximum_none : (maximum v : ℕ) → maximum ≡ 0
    → v ∷ (v + 1) ∷ kink_zero ∷ flow_zero ∷ flow_zero ∷ [] ≡ packs (maximum_arc maximum v ∷ [])
unfolding packs
maximum_none zero v e = rw add-one
maximum_none (suc maximum) v e = absurd (omega arith)

-- a maximum separation that is set
pub maximum_some : (maximum v : ℕ) → (maximum ≡ 0 → ⊥)
    → v ∷ (v + 1) ∷ (kink_zero + maximum) ∷ flow_zero ∷ high_none ∷ [] ≡ packs (maximum_arc maximum v ∷ [])
unfolding packs
maximum_some zero v e = absurd (e refl)
maximum_some (suc maximum) v e = rw add-one

-- an edge whose strength is a weight
pub strength_plain : (w u v : ℕ) → w ≤ max_weight
    → u ∷ v ∷ kink_zero ∷ (flow_zero - w) ∷ (flow_zero + w) ∷ [] ≡ packs (strength_arc w u v ∷ [])
unfolding packs
strength_plain zero u v h = refl
strength_plain (suc w) u v h = rw (le-leb (suc w) max_weight h)

-- an edge of a greater strength
pub strength_straight : (w u v : ℕ) → max_weight < w → u ∷ v ∷ kink_zero ∷ low_none ∷ high_none ∷ [] ≡ packs (strength_arc w u v ∷ [])
unfolding packs
strength_straight w u v h = rw (lt-leb w max_weight h)
