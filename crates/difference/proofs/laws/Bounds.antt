-- If a solution exists, one exists whose n values are at most n · kink_size: where no value stands in (j · kink_size, (j
-- + 1) · kink_size], all values above can be lowered by 1, which gives a solution of smaller sum; and n + 1 such
-- intervals cannot all hold one of n nodes.
use Rattle.network.specs.Sums.{sum_to}
use Rattle.network.specs.laws.SumsTo.{sum_to_le, sum_to_lt, sum_to_ge}
use Rattle.network.specs.Net.{Net, tail, head, kink}
use Rattle.network.specs.WellFormed.{WellFormed}
use Rattle.difference.specs.inside.Constraints.{Solution}
use mathlib.Core.Path.{◌≡◌}
use mathlib.Core.Logic.{◌⊎◌, inl, inr, ⊎_elim}
use Prim.Native.Nat.{ℕ, zero, suc, ◌+◌, ◌-◌, ◌*◌, ◌≤◌, ◌<◌}
use native.Mathlib.Nat.{le_refl}
use native.Mathlib.Decide.{dec_lt}
use native.Mathlib.Omega.{arith}
use Rattle.difference.proofs.laws.Levels.{sum_ones, upto, upto_above, upto_within, upto_le, upto_mono, lowered, lowered_cases, lowered_meets}
use Rattle.network.specs.Packed.{kink_zero}
use Rattle.network.specs.Limits.{kink_size}

-- a solution whose values are small
pub record Small (N : Net) (n : ℕ) : Type 0 where
  pub q : ℕ → ℕ
  pub solution : Solution N n q
  pub small : (u : ℕ) → u < n → q u ≤ n * kink_size

module _ {N : Net} {n : ℕ} (wf : WellFormed N n) where
  -- how many values are at most t
  count : (ℕ → ℕ) → ℕ → ℕ
  count q t = sum_to n (λ u. upto t (q u))

  -- they are at most n
  count_le : (q : ℕ → ℕ) (t : ℕ) → count q t ≤ n
  unfolding count
  count_le q t = omega (arith, sum_to_le n (λ u. upto t (q u)) (λ u. 1) (λ u u-in. upto_le t (q u)), sum_ones n)

  -- the ground is one of them
  count_ground : (q : ℕ → ℕ) → q (n - 1) ≡ 0 → 1 ≤ count q 0
  unfolding count
  count_ground q g =
      omega (
        arith,
        upto_within 0 (q (n - 1)) (omega arith),
        sum_to_ge n (λ u. upto 0 (q u)) (n - 1) (omega (arith, wf.some)),
      )

  module _ (q : ℕ → ℕ) (s : Solution N n q) (t : ℕ) where
    -- every value above t lowered by 1
    q₁ : ℕ → ℕ
    q₁ u = lowered t (q u)

    -- no value rises by that
    q₁_le : (u : ℕ) → u < n → q₁ u ≤ q u
    unfolding q₁
    q₁_le u u-in = ⊎_elim (λ w. omega (arith, w.1)) (λ w. omega (arith, w.1)) (lowered_cases t (q u))

    -- where the sum does not fall, no value is above t
    all_within : (sum_to n q₁ < sum_to n q → ⊥) → (u : ℕ) → u < n → q u ≤ t
    unfolding q₁
    all_within same_sum u u-in = go (lowered_cases t (q u))
      where
        go : ((t < q u) × (lowered t (q u) + 1 ≡ q u)) ⊎ ((q u ≤ t) × (lowered t (q u) ≡ q u)) → q u ≤ t
        go (inl w) = absurd (same_sum (sum_to_lt n q₁ q q₁_le u u-in (omega (arith, w.1))))
        go (inr w) = w.0

    module _ (empty : count q t < count q (t + kink_size) → ⊥) where
      -- where no more values are at most t + kink_size than are at most t, none stands between
      above : (u : ℕ) → u < n → t < q u → t + kink_size < q u
      unfolding count
      above u u-in l = go (dec_lt (t + kink_size) (q u))
        where
          go : Dec (t + kink_size < q u) → t + kink_size < q u
          go (yes more) = more
          go (no le) =
              absurd
              (empty
              (sum_to_lt n (λ w. upto t (q w)) (λ w. upto (t + kink_size) (q w)) (λ w w-in. upto_mono t kink_size (q w))
              u u-in (omega (arith, upto_above t (q u) l, upto_within (t + kink_size) (q u) (omega arith)))))

      -- it is a solution still
      lower : Solution N n q₁
      unfolding q₁
      lower = record {
        ground = ⊎_elim (λ w. omega (arith, w.0, s.ground)) (λ w. omega (arith, w.1, s.ground)) (lowered_cases t (q (n - 1)));
        meets = λ i l. (
          λ hard. lowered_meets t t (q (head N i)) (q (tail N i)) kink_zero (kink N i) ((s.meets i l).0 hard)
              (λ below more. omega (arith, above (tail N i) (wf.arc_in i l).tail_in more, (wf.arc_in i l).kink_low)),
          λ hard. lowered_meets t t (q (tail N i)) (q (head N i)) (kink N i) kink_zero ((s.meets i l).1 hard)
              (λ below more. omega (arith, above (head N i) (wf.arc_in i l).head_in more, (wf.arc_in i l).kink_high)),
        );
      }

  -- up the levels, given what a solution of smaller sum gives
  climb : (q : ℕ → ℕ) → Solution N n q → ((q' : ℕ → ℕ) → Solution N n q' → sum_to n q' < sum_to n q → Small N n)
      → (left j : ℕ) → left + j ≡ n → j + 1 ≤ count q (j * kink_size) → Small N n
  climb q s smaller zero j e c = absurd (omega (arith, count_le q (j * kink_size)))
  climb q s smaller (suc left) j e c =
      go (climb q s smaller left (j + 1) (omega arith)) (dec_lt (sum_to n (q₁ q s (j * kink_size))) (sum_to n q)) (dec_lt (count q (j * kink_size)) (count q (j * kink_size + kink_size)))
    where
      go : (j + 1 + 1 ≤ count q ((j + 1) * kink_size) → Small N n)
          → Dec (sum_to n (q₁ q s (j * kink_size)) < sum_to n q)
          → Dec (count q (j * kink_size) < count q (j * kink_size + kink_size)) → Small N n
      go up (no whole) more = record { q = q; solution = s; small = λ u u-in. omega (arith, all_within q s (j * kink_size) whole u u-in) }
      go up (yes less) (no empty) = smaller (q₁ q s (j * kink_size)) (lower q s (j * kink_size) empty) less
      go up (yes less) (yes more) =
          let at_next : (j + 1) * kink_size ≡ j * kink_size + kink_size = omega arith in
          up (rw at_next (omega (arith, c, more)))

  -- from any solution to a small one
  shrink : (bound : ℕ) (q : ℕ → ℕ) → sum_to n q ≤ bound → Solution N n q → Small N n
  shrink zero q le s = climb q s (λ q' s' less. absurd (omega arith)) n 0 (omega arith) (count_ground q s.ground)
  shrink (suc bound) q le s =
      climb q s (λ q' s' less. shrink bound q' (omega arith) s') n 0 (omega arith) (count_ground q s.ground)

  -- a small solution from any
  pub bounded : (q : ℕ → ℕ) → Solution N n q → Small N n
  bounded q s = shrink (sum_to n q) q (le_refl _) s
