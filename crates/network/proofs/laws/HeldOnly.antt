-- Potentials in complementary slackness with flows are the leftmost least exactly where every node is held: what is not held
-- could move left, all at once, by 1.
use Rattle.std.specs.Prelude.{◌≡◌, refl, List, [], ◌∷◌, Bool, true, false, not, ◌&&◌, cond, ℕ, zero, suc, ◌+◌, ◌≤◌, T, ℤ, pos, ◌+ℤ◌, ◌-ℤ◌, length, ◌≤ℤ◌}
use Rattle.std.proofs.Common.{sym, ◌∙◌, ap, subst, arith, T_not}
use Rattle.std.specs.Int.Signed.{le_z_yes}
use Rattle.network.specs.Integers.{eqZ, up, down}
use Rattle.network.specs.Sums.{all, below}
use Rattle.network.specs.Network.{Network, Feasible, potential, LeftmostLeast}
use Rattle.network.specs.Flows.{rules, complementary}
use Rattle.network.specs.laws.IntegerParts.{le_parts, parts_le, parts_eq, sum_parts, minus_parts}
use Rattle.network.specs.laws.Integers.{eq→eqZ}
use Rattle.network.specs.laws.Tests.{is_true, not_not, below_at, at_below, all_map₂}
use Rattle.network.proofs.laws.Duality.{tight_feasible, tight_equal}
use Rattle.network.proofs.laws.Residuals.{Residual, meets, residuals, residuals_met}
use Rattle.network.proofs.laws.Held.{Held, held_leftmost}
use Rattle.network.proofs.laws.HeldSearch.{leaves, held_set, Reached, held_reached}

-- each node outside the set H moves left by 1
abbrev lower : (ℕ → Bool) → List ℤ → List ℤ
lower H [] = []
lower H (x ∷ p) = cond (H 0) x (x -ℤ pos 1) ∷ lower (λ v. H (suc v)) p

-- the move keeps the count of potentials
lower_length : (H : ℕ → Bool) (p : List ℤ) → length (lower H p) ≡ length p
lower_length H [] = refl
lower_length H (x ∷ p) = ap suc (lower_length (λ v. H (suc v)) p)

-- a node's potential after the move, where ground is in the set
lower_potential : (H : ℕ → Bool) (p : List ℤ) → ((v : ℕ) → length p ≤ v → T (H v)) → (v : ℕ)
    → potential (lower H p) v ≡ cond (H v) (potential p v) (potential p v -ℤ pos 1)
lower_potential H [] past v = rw (is_true (H v) (past v (omega arith)))
lower_potential H (x ∷ p) past zero = refl
lower_potential H (x ∷ p) past (suc v) = lower_potential (λ v. H (suc v)) p (λ v h. past (suc v) (omega arith)) v

-- the parts of a number less 1
less_one : (a : ℤ) → up (a -ℤ pos 1) + (down a + 1) ≡ down (a -ℤ pos 1) + up a
unfolding up down
less_one a = omega (arith, minus_parts a (pos 1))

-- the move keeps a residual arc, unless it is tight and goes from the set to a node outside
lower_step : (hf ht : Bool) (a k b : ℤ) → (a +ℤ k) ≤ℤ b → T (not ((hf && not ht) && eqZ (a +ℤ k) b))
    → (cond hf a (a -ℤ pos 1) +ℤ k) ≤ℤ cond ht b (b -ℤ pos 1)
lower_step true true a k b h n = h
lower_step true false a k b h n =
    let loose : up (a +ℤ k) + down b ≡ up b + down (a +ℤ k) → ⊥ =
    λ e. T_not (eqZ (a +ℤ k) b) n (eq→eqZ (a +ℤ k) b (parts_eq (a +ℤ k) b e)) in
    parts_le (a +ℤ k) (b -ℤ pos 1) (omega (arith, le_parts h, less_one b, loose))
lower_step false true a k b h n =
    parts_le ((a -ℤ pos 1) +ℤ k) b (omega (arith, le_parts h, sum_parts a k, sum_parts (a -ℤ pos 1) k, less_one a))
lower_step false false a k b h n =
    parts_le ((a -ℤ pos 1) +ℤ k) (b -ℤ pos 1)
    (omega (arith, le_parts h, sum_parts a k, sum_parts (a -ℤ pos 1) k, less_one a, less_one b))

-- the move keeps each residual arc that does not leave a set with ground in it
lower_meets : (p : List ℤ) (H : ℕ → Bool) → ((v : ℕ) → length p ≤ v → T (H v)) → (r : Residual) → T (meets p r)
    → T (not (leaves p H r)) → T (meets (lower H p) r)
lower_meets p H past r t n =
    let step = lower_step (H r.from) (H r.to) (potential p r.from) r.by (potential p r.to) (le_z_yes t) n in
    rw (lower_potential H p past r.from, lower_potential H p past r.to) step.le

-- the test for leftmost: the search reaches every node
unfoldable pub leftmost_test : Network → List ℤ → List ℤ → Bool
leftmost_test N y p = below N.nodes (held_set p (residuals N y))

module _ (N : Network) (y p : List ℤ) (rule : T (rules N y)) (size : length p ≡ N.nodes) (t : T (complementary N y p)) where
  -- the search reaches every node of the leftmost least potentials: otherwise the move gives others, further left
  leftmost_reached : LeftmostLeast N p → (v : ℕ) → T (held_set p (residuals N y) v)
  leftmost_reached given v =
      let rs : List Residual = residuals N y in
      let H : ℕ → Bool = held_set p rs in
      let r : Reached p rs H = held_reached p rs in
      let q : List ℤ = lower H p in
      let met : T (all (meets q) rs) =
      all_map₂ (meets p) (λ r. not (leaves p H r)) (meets q) (lower_meets p H r.past) rs (subst T (residuals_met N y p) t) r.shut in
      let tights : T (complementary N y q) = subst T (sym (residuals_met N y q)) met in
      let d : Feasible N q = tight_feasible N y q (lower_length H p ∙ size) tights in
      let same = tight_equal N y q rule d tights ∙ sym (tight_equal N y p rule (tight_feasible N y p size t) t) in
      not_not (H v) (λ n. stays (H v) n (potential p v) (potential q v) (lower_potential H p r.past v) (given.leftmost q d same v))
    where
      -- a node that moves left is not at least as far right
      stays : (b : Bool) → T (not b) → (x z : ℤ) → z ≡ cond b x (x -ℤ pos 1) → x ≤ℤ z → ⊥
      stays true n x z e l = n
      stays false n x z e l = omega (arith, ap up e, ap down e, le_parts l, less_one x)

  -- in the leftmost least potentials every node is held: the other half of `held_leftmost`, for readers, since no law rests on it
  pub leftmost_held : LeftmostLeast N p → (v : ℕ) → Held p (residuals N y) v
  leftmost_held given v = (held_reached p (residuals N y)).sound v (leftmost_reached given v)

  -- potentials that pass the test are the leftmost least
  pub test_leftmost : T (leftmost_test N y p) → LeftmostLeast N p
  unfolding leftmost_test
  test_leftmost passed =
      held_leftmost N y p rule size t
      (λ v h. (held_reached p (residuals N y)).sound v (below_at N.nodes (held_set p (residuals N y)) passed v h))

  -- the leftmost least potentials pass the test
  pub leftmost_passes : LeftmostLeast N p → T (leftmost_test N y p)
  unfolding leftmost_test
  leftmost_passes given = at_below N.nodes (held_set p (residuals N y)) (λ v h. leftmost_reached given v)
