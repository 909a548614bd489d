-- The loop of the bound: the sum so far, with a size for each term.
use Prim.Native.Nat.{ℕ, ◌+◌, ◌*◌, ◌≤◌, ◌<◌}
use mathlib.Core.Path.{◌≡◌, sym, ◌∙◌, ap, ap₂}
use mathlib.Core.List.{List}
use native.Mathlib.Omega.{arith}
use lib.IntN.{ℤ, pos, nat_abs, neg_ℤ, ◌+ℤ◌, ◌-ℤ◌, ◌*ℤ◌}
use lib.ListN.{get_or}
use mir.Syntax.{w64}
use mir.Val.{to_z, of_z}
use Rattle.network.specs.Sums.{sum, upto}
use Rattle.network.specs.Flows.{bound_term}
use Rattle.network.specs.Packed.{arc_at, flow_at}
use Rattle.network.specs.laws.Sizes.{size_neg, size_add}
use Rattle.arcs.specs.Limits.{max_arcs}
use Rattle.checker.specs.inside.Sizes.{i64_limit, term_size, bound_size}
use Rattle.checker.proofs.laws.Loops.{sum_none, sum_next}
use Rattle.checker.proofs.laws.Bits.{read, read_less}

-- the bound of the first i flows
abbrev bound_to : List ℕ → List ℤ → ℕ → ℤ
bound_to a y i = sum bound_term (upto i (flow_at a y))

-- it is the result, and is small
pub record Bounding (a : List ℕ) (y : List ℤ) (n i : ℕ) (result : ℤ) : Type 0 where
  pub turns : i ≤ n
  pub is : result ≡ bound_to a y i
  pub small : nat_abs (bound_to a y i) ≤ i * term_size

-- before the first flow
pub bounding_begin : (a : List ℕ) (y : List ℤ) (n : ℕ) → Bounding a y n 0 (pos 0)
bounding_begin a y n = record {
  turns = omega arith;
  is = sym (sum_none bound_term (flow_at a y));
  small = omega (arith, ap nat_abs (sum_none bound_term (flow_at a y)));
}

module _ {a : List ℕ} {y : List ℤ} {n i : ℕ} {result : ℤ} (p : Bounding a y n i result) (few : n ≤ max_arcs) where
  -- after the last flow
  pub bounding_end : n ≤ i → (result ≡ bound_to a y n) × (nat_abs result ≤ bound_size)
  bounding_end h =
      let e : i ≡ n = omega (arith, p.turns) in
      (p.is ∙ ap (bound_to a y) e, omega (arith, ap nat_abs p.is, p.small, p.turns))

  -- a term less
  module _ {w : ℤ} (is : w ≡ get_or y i (pos 0) *ℤ (arc_at a i).kink) (small : nat_abs w ≤ term_size) where
    -- the difference does not wrap
    bounding_fits : nat_abs result + nat_abs (to_z w64 (of_z w64 w)) < i64_limit
    bounding_fits = omega (arith, ap nat_abs p.is, ap nat_abs (read w (omega arith)), p.small, p.turns)

    -- one flow more
    pub bounding_next : i < n → Bounding a y n (i + 1) (to_z w64 (of_z w64 (result -ℤ to_z w64 (of_z w64 w))))
    bounding_next l = record {
      turns = omega arith;
      is = read_less result (to_z w64 (of_z w64 w)) bounding_fits ∙ ap₂ ◌+ℤ◌ p.is (ap neg_ℤ (read w (omega arith) ∙ is)) ∙ sym (sum_next bound_term (flow_at a y) i);
      small = rw (sum_next bound_term (flow_at a y) i) (omega (
        arith,
        size_add (bound_to a y i) (bound_term (flow_at a y i)),
        ap nat_abs (ap neg_ℤ is),
        size_neg w,
        p.small,
      ));
    }
