-- What packed edges count by their lower ends: from node 0 on it is all, above every lower end nothing, from a later node on no more; and
-- it is the sum of two parts at any later node, since each lower end is in one of them.
use Rattle.std.specs.Prelude.{ℕ, ◌+◌, ◌/◌, ◌≤◌, ◌<◌, ◌≡◌, refl, Bool, cond, ◌&&◌, List, leb, ltb, length}
use Rattle.std.proofs.Common.{◌∙◌, ⊎_elim, arith, lt-ltb, le-ltb, le-leb}
use Rattle.std.proofs.lemmas.Bool.{lt-leb}
use Rattle.leb128.specs.laws.Cases.{lt_or_le}
use Rattle.network.specs.Packed.{stride}
use Rattle.network.specs.laws.SumsTo.{sum_to_eq, sum_to_le, sum_to_zero, sum_to_add}
use Rattle.drawing.proofs.laws.RunningSums.{zero_all, later_less}
use Rattle.packed.specs.Ends.{edge_from, lower_at}
use Rattle.totals.specs.Lengths.{counted_at, lengths_of, lengths_where, lengths_from, lengths_between}

-- a lower end from v on is before w, or from w on
from_part : {v w : ℕ} → v ≤ w → (x n : ℕ) → cond (leb v x) n 0 ≡ cond (leb v x && ltb x w) n 0 + cond (leb w x) n 0
from_part {v} {w} h x n =
    ⊎_elim
    (λ (l : x < v). rw (lt-leb v x l, lt-leb w x (omega arith)) refl)
    (λ (l : v ≤ x).
    ⊎_elim
    (λ (m : x < w). rw (le-leb v x l, lt-ltb x w m, lt-leb w x m) (omega arith))
    (λ (m : w ≤ x). rw (le-leb v x l, le-ltb x w m, le-leb w x m) (omega arith))
    (lt_or_le x w))
    (lt_or_le x v)

module _ (p s : List ℕ) where
  -- a test that passes exactly where one of two others does
  where_parts : (a b c : ℕ → Bool) → ((x n : ℕ) → cond (a x) n 0 ≡ cond (b x) n 0 + cond (c x) n 0)
      → lengths_where a p s ≡ lengths_where b p s + lengths_where c p s
  where_parts a b c h =
      sum_to_eq (length s / stride) _ _ (λ i l. h (lower_at (edge_from i s)) (counted_at p (edge_from i s)))
      ∙ sum_to_add (length s / stride)
      (λ i. cond (b (lower_at (edge_from i s))) (counted_at p (edge_from i s)) 0)
      (λ i. cond (c (lower_at (edge_from i s))) (counted_at p (edge_from i s)) 0)

  -- from node 0 on: all
  pub from_all : lengths_from 0 p s ≡ lengths_of p s
  from_all = sum_to_eq (length s / stride) _ _ (λ i l. zero_all (lower_at (edge_from i s)) (counted_at p (edge_from i s)))

  -- above every lower end: nothing
  pub from_none : (v : ℕ) → ((i : ℕ) → i < length s / stride → lower_at (edge_from i s) < v) → lengths_from v p s ≡ 0
  from_none v h =
      sum_to_eq (length s / stride) _ (λ i. 0) (λ i l. rw (lt-leb v (lower_at (edge_from i s)) (h i l)) refl)
      ∙ sum_to_zero (length s / stride)

  -- from a later node on: no more
  pub from_falls : (v w : ℕ) → v ≤ w → lengths_from w p s ≤ lengths_from v p s
  from_falls v w h =
      sum_to_le (length s / stride) _ _ (λ i l. later_less h (lower_at (edge_from i s)) (counted_at p (edge_from i s)))

  -- from a node on: what is before another node, and what is from that one on
  pub from_parts : (v w : ℕ) → v ≤ w → lengths_from v p s ≡ lengths_between v w p s + lengths_from w p s
  from_parts v w h = where_parts (leb v) (λ x. leb v x && ltb x w) (leb w) (from_part h)
