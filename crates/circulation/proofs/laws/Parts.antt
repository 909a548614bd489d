-- The whole nodes are the front of the slice: they are lent, and put back before what stands behind them.
use Rattle.network.specs.Net.{at, Net}
use Rattle.circulation.specs.laws.Columns.{column_length, column_at}
use Rattle.network.specs.Nodes.{column, potentials, size, node_stride}
use Rattle.circulation.specs.Input.{Valid}
use Rattle.circulation.specs.Solutions.{Solution, Cleared}
use Rattle.circulation.specs.inside.Finish.{Zeroed}
use mathlib.Core.Path.{◌≡◌, sym, ap, ◌∙◌, subst}
use mathlib.Core.List.{List, ◌++◌}
use Prim.Native.Nat.{ℕ, ◌+◌, ◌-◌, ◌*◌, ◌/◌, ◌≤◌, ◌<◌}
use native.Mathlib.Omega.{arith}
use borrow.Rule.Slice.PartMut.{post_of, Post-is}
use lib.ListN.{length, take, drop, length-take, length-drop, length-append, get_or-append}
use lib.Seq.{get_or-append-add, get_or-drop, get_or-take, ext_get_or}

-- what stands behind the last node is in no column
column_front : (k : ℕ) (w r : List ℕ) → k < node_stride → node_stride * (length w / node_stride) ≡ length w → length r < node_stride
    → column k (w ++ r) ≡ column k w
column_front k w r k-in full short = ext_get_or 0 (column k (w ++ r)) (column k w)
    (column_length k (w ++ r) ∙ (same_size ∙ sym (column_length k w)))
    (λ i l. each i (omega (arith, column_length k (w ++ r), same_size)))
  where
    same_size : length (w ++ r) / node_stride ≡ length w / node_stride
    same_size = omega (arith, length-append w r)

    each : (i : ℕ) → i < length w / node_stride → at (column k (w ++ r)) i ≡ at (column k w) i
    each i l =
        column_at k (w ++ r) i (omega (arith, same_size))
        ∙ (get_or-append w r 0 (node_stride * i + k) (omega arith) ∙ sym (column_at k w i l))

module _ (nodes₀ : List ℕ) (end : ℕ) (is-end : end ≡ node_stride * size nodes₀) where
  -- how long the front is
  front_length : length (take (end - 0) nodes₀) ≡ end
  front_length = omega (arith, length-take (end - 0) nodes₀)

  -- how many nodes it has
  pub front_size : size (take (end - 0) nodes₀) ≡ size nodes₀
  front_size = omega (arith, front_length)

  -- how much is behind it
  behind : length (drop end nodes₀) < node_stride
  behind = omega (arith, length-drop end nodes₀)

  -- its potentials are all
  front_potentials : potentials (take (end - 0) nodes₀) ≡ potentials nodes₀
  front_potentials = ext_get_or 0 (potentials (take (end - 0) nodes₀)) (potentials nodes₀)
      (column_length 0 (take (end - 0) nodes₀) ∙ (front_size ∙ sym (column_length 0 nodes₀)))
      (λ i l. each i (omega (arith, column_length 0 (take (end - 0) nodes₀), front_size)))
    where
      each : (i : ℕ) → i < size nodes₀ → at (potentials (take (end - 0) nodes₀)) i ≡ at (potentials nodes₀) i
      each i l =
          column_at 0 (take (end - 0) nodes₀) i (omega (arith, front_size))
          ∙ (get_or-take (end - 0) nodes₀ (node_stride * i + 0) 0 (omega arith) ∙ sym (column_at 0 nodes₀ i l))

  -- it is valid where the whole is
  pub valid_front : {N : Net} → Valid N (size nodes₀) (potentials nodes₀)
      → Valid N (size (take (end - 0) nodes₀)) (potentials (take (end - 0) nodes₀))
  valid_front {N} v =
      subst (λ (n : ℕ). Valid N n (potentials (take (end - 0) nodes₀))) (sym front_size)
      (subst (λ (p : List ℕ). Valid N (size nodes₀) p) (sym front_potentials) v)

  module _ (w : List ℕ) (same : length w ≡ length (take (end - 0) nodes₀)) where
    -- the front is whole
    full : node_stride * (length w / node_stride) ≡ length w
    full = omega (arith, front_length)

    -- how long the whole is, with the front put back
    pub back_length : length (w ++ post_of 0 (end - 0) nodes₀) ≡ length nodes₀
    back_length =
        rw (Post-is 0 end nodes₀ (omega arith))
        (omega (arith, length-append w (drop end nodes₀), length-drop end nodes₀, front_length))

    -- the potentials of what is put back
    back_potentials : potentials (w ++ drop end nodes₀) ≡ potentials w
    back_potentials = column_front 0 w (drop end nodes₀) (omega arith) full behind

    -- what is behind is kept
    kept : (i : ℕ) → node_stride * size nodes₀ ≤ i → at (w ++ drop end nodes₀) i ≡ at nodes₀ i
    kept i past =
        let far : length w + (i - end) ≡ i = omega (arith, front_length) in
        let near : end + (i - end) ≡ i = omega arith in
        ap (at (w ++ drop end nodes₀)) (sym far)
        ∙ (get_or-append-add w (drop end nodes₀) (i - end) 0 ∙ (get_or-drop end nodes₀ (i - end) 0 ∙ ap (at nodes₀) near))

    -- the same of what a part that was lent is put back as
    pub behind_kept : (i : ℕ) → node_stride * size nodes₀ ≤ i → at (w ++ post_of 0 (end - 0) nodes₀) i ≡ at nodes₀ i
    behind_kept i past = rw (Post-is 0 end nodes₀ (omega arith)) (kept i past)

    -- the other numbers are 0, and what is behind is kept
    cleared : Zeroed node_stride w → Cleared nodes₀ (w ++ drop end nodes₀)
    cleared z = record {
      nodes_size = omega (arith, length-append w (drop end nodes₀), length-drop end nodes₀, front_length);
      others =
          λ v k v_in some k-in. get_or-append w (drop end nodes₀) 0 (node_stride * v + k) (omega (arith, front_length))
          ∙ (sym (column_at k w v (omega (arith, front_length))) ∙ z.zero k v some k-in);
      rest = kept;
    }

    -- the whole, from what the front holds
    pub whole_back : {N : Net} (x : List ℕ) → Solution N (size (take (end - 0) nodes₀)) (at x) (at (potentials w))
        → Zeroed node_stride w
        → Cleared nodes₀ (w ++ post_of 0 (end - 0) nodes₀)
        × Solution N (size nodes₀) (at x) (at (potentials (w ++ post_of 0 (end - 0) nodes₀)))
    whole_back {N} x s z =
        rw (Post-is 0 end nodes₀ (omega arith)) (
          cleared z,
          subst (λ (p : List ℕ). Solution N (size nodes₀) (at x) (at p)) (sym back_potentials)
              (subst (λ (n : ℕ). Solution N n (at x) (at (potentials w))) front_size s),
        )
