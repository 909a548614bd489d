-- The loop that sets the width: the arcs in front of an index are set, and those behind it, set too, give the whole.
use Prim.Native.Nat.{ℕ, suc, ◌+◌, ◌-◌, ◌*◌, ◌/◌, ◌≤◌, ◌<◌}
use mathlib.Core.Path.{◌≡◌, refl, sym, ◌∙◌, ap, ap₂}
use mathlib.Core.List.{List, ◌++◌, append_assoc}
use native.Mathlib.Omega.{arith}
use lib.ListN.{length, get_or, set, take, drop, length-set, take-append-drop}
use lib.Seq.{take-set-le, drop-set-lt, drop-set-add, get_or-drop, drop-drop, take-add}
use Rattle.network.specs.Packed.{tail_at, kink_at, stride}
use Rattle.packed.specs.Widths.{widened_kink, widened_first, widened_to, widened}

module _ (ground width : ℕ) where
  -- of the packed arcs of old, the first i are set in new
  pub record Widening (old new : List ℕ) (i : ℕ) : Type 0 where
    pub size : length new ≡ length old
    pub whole : take (stride * i) new ++ widened_to ground width (length old / stride - i) (drop (stride * i) new)
        ≡ widened ground width old

  -- none is set
  pub widening_begin : (old : List ℕ) → Widening old old 0
  unfolding widened
  widening_begin old =
      let all : length old / stride - 0 ≡ length old / stride = omega arith in
      record { size = refl; whole = ap (λ (n : ℕ). widened_to ground width n old) all }

  -- the kink that is stored in the arc at an index
  abbrev kink_of : List ℕ → ℕ → ℕ
  kink_of s at = widened_kink ground width (get_or s (at + tail_at) 0) (get_or s (at + kink_at) 0)

  -- from the index on, the first arc is set
  first_set : (s : List ℕ) (at : ℕ) → drop at (set s (at + kink_at) (kink_of s at)) ≡ widened_first ground width (drop at s)
  first_set s at =
      drop-set-add at s kink_at (kink_of s at)
      ∙ ap₂ (λ (t k : ℕ). set (drop at s) kink_at (widened_kink ground width t k)) (sym (get_or-drop at s tail_at 0))
      (sym (get_or-drop at s kink_at 0))

  -- an arc is set at the index
  module _ (s : List ℕ) (at : ℕ) where
    -- the numbers then
    abbrev next : List ℕ
    next = set s (at + kink_at) (kink_of s at)

    -- in front of the next index: the arc, behind what was in front
    front_set : take (at + stride) next ≡ take at s ++ take stride (widened_first ground width (drop at s))
    front_set =
        take-add at stride next
        ∙ ap₂ (λ (a b : List ℕ). a ++ take stride b) (take-set-le at s (at + kink_at) (kink_of s at) (omega arith)) (first_set s at)

    -- from there on nothing changes
    rest_kept : drop (at + stride) next ≡ drop stride (drop at s)
    rest_kept = drop-set-lt (at + stride) s (at + kink_at) (kink_of s at) (omega arith) ∙ sym (drop-drop stride at s)

    -- the whole is the same
    whole_kept : (left : ℕ)
        → take (at + stride) next ++ widened_to ground width left (drop (at + stride) next)
        ≡ take at s ++ widened_to ground width (suc left) (drop at s)
    whole_kept left =
        ap₂ (λ (a b : List ℕ). a ++ widened_to ground width left b) front_set rest_kept
        ∙ append_assoc (take at s) (take stride (widened_first ground width (drop at s)))
        (widened_to ground width left (drop stride (drop at s)))

  -- one more
  pub widening_next : {old new : List ℕ} {i x : ℕ} → Widening old new i → i < length old / stride → x ≡ kink_of new (stride * i)
      → Widening old (set new (stride * i + kink_at) x) (i + 1)
  widening_next {old} {new} {i} {x} w h e =
      let left : length old / stride - i ≡ suc (length old / stride - (i + 1)) = omega arith in
      let at : stride * (i + 1) ≡ stride * i + stride = omega arith in
      record {
        size = length-set new (stride * i + kink_at) x ∙ w.size;
        whole = rw (at, e) (whole_kept new (stride * i) (length old / stride - (i + 1)) ∙ rw left at w.whole);
      }

  -- none is left
  pub widening_end : {old new : List ℕ} {i : ℕ} → Widening old new i → length old / stride ≤ i → new ≡ widened ground width old
  widening_end {old} {new} {i} w h =
      let left : length old / stride - i ≡ 0 = omega arith in
      sym (take-append-drop (stride * i) new) ∙ rw left at w.whole
