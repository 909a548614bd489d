-- The deficits at the start: the flows of arc after arc are counted at their ends, and every deficit in between is near zero.
use Rattle.network.specs.laws.SumsTo.{sum_to_le, sum_to_add, sum_to_bound}
use Rattle.network.specs.Net.{at, Net, arcs, tail, head}
use Rattle.network.specs.Sums.{sum_to}
use Rattle.circulation.specs.inside.Slackness.{pick, flow, inflow, outflow, Countable}
use Rattle.network.specs.Nodes.{deficit_zero}
use mathlib.Core.Path.{◌≡◌, refl, ◌∙◌}
use mathlib.Core.List.{List}
use Prim.Native.Nat.{ℕ, ◌+◌, ◌-◌, ◌≤◌, ◌<◌}
use native.Mathlib.Numerals.{add-one}
use native.Mathlib.Decide.{ℕ_discrete}
use native.Mathlib.Omega.{arith}
use lib.ListN.{length}
use Rattle.circulation.proofs.laws.Flows.{flow_le}
use Rattle.circulation.specs.laws.Picks.{pick_yes, pick_no}
use Rattle.network.specs.Packed.{flow_zero}
use Rattle.network.specs.Limits.{most_arcs}
use Rattle.circulation.specs.Limits.{flow_most}

-- the flow of one arc more
flow_suc : (i : ℕ) (ends : ℕ → ℕ) (x : ℕ → ℕ) (v : ℕ) → flow (i + 1) ends x v ≡ pick (ends i) v (x i) + flow i ends x v
unfolding sum_to
flow_suc i ends x v = rw (add-one i) refl

-- the flow of no arc
flow_none : (ends : ℕ → ℕ) (x : ℕ → ℕ) (v : ℕ) → flow 0 ends x v ≡ 0
unfolding sum_to
flow_none ends x v = refl

-- flows that differ by little
pub flow_near : (m d : ℕ) (ends x y : ℕ → ℕ) (v : ℕ) → ((i : ℕ) → i < m → x i ≤ y i + d)
    → flow m ends x v ≤ flow m ends y v + flow m ends (λ i. d) v
flow_near m d ends x y v near = omega (
  arith,
  sum_to_le m (λ i. pick (ends i) v (x i)) (λ i. pick (ends i) v (y i) + pick (ends i) v d)
      (λ i l. pick_near (ends i) v (x i) (y i) (near i l)),
  sum_to_add m (λ i. pick (ends i) v (y i)) (λ i. pick (ends i) v d),
)
  where
    pick_near : (u v a b : ℕ) → a ≤ b + d → pick u v a ≤ pick u v b + pick u v d
    pick_near u v a b le = go (ℕ_discrete u v)
      where
        go : Dec (u ≡ v) → pick u v a ≤ pick u v b + pick u v d
        go (yes e) = omega (arith, pick_yes u v a e, pick_yes u v b e, pick_yes u v d e)
        go (no ne) = omega (arith, pick_no u v a ne)

-- the first i arcs are counted
pub record Counting (N : Net) (n : ℕ) (x e : List ℕ) (i : ℕ) : Type 0 where
  pub i_in : i ≤ arcs N
  pub size : length e ≡ n
  pub sofar : (v : ℕ) → v < n → at e v + inflow N i (at x) v ≡ deficit_zero + outflow N i (at x) v

module _ {N : Net} {n : ℕ} {x : List ℕ} where
  -- no arc is counted yet
  pub count_start : (e : List ℕ) → length e ≡ n → ((v : ℕ) → v < n → at e v ≡ deficit_zero) → Counting N n x e 0
  count_start e size level = record {
    i_in = omega arith;
    size = size;
    sofar = λ v v_in. omega (
      arith,
      level v v_in,
      flow_none (tail N) (at x) v,
      flow_none (head N) (at x) v,
      flow_none (tail N) (λ i. flow_zero) v,
      flow_none (head N) (λ i. flow_zero) v,
    );
  }

  module _ {e : List ℕ} {i : ℕ} (c : Counting N n x e i) (l : i < arcs N) (few : arcs N ≤ most_arcs)
      (small : Countable (arcs N) (at x)) where
    -- a deficit in between is at most 2^28 away from 2^30
    pub count_range : (v : ℕ) → v < n → (805306368 ≤ at e v) × (at e v ≤ 1342177280)
    count_range v v_in =
        let size : ℕ = flow_most - flow_zero in
        let tails = flow_near i size (tail N) (at x) (λ k. flow_zero) v (λ k below. omega (arith, (small k (omega arith)).1)) in
        let heads = flow_near i size (head N) (at x) (λ k. flow_zero) v (λ k below. omega (arith, (small k (omega arith)).1)) in
        let tails' = flow_near i size (tail N) (λ k. flow_zero) (at x) v (λ k below. omega (arith, (small k (omega arith)).0)) in
        let heads' = flow_near i size (head N) (λ k. flow_zero) (at x) v (λ k below. omega (arith, (small k (omega arith)).0)) in
        let top = sum_to_bound i size (λ k. size) (λ k below. omega arith) in
        let t-top = flow_le i (tail N) (λ k. size) v in
        let h-top = flow_le i (head N) (λ k. size) v in (
          omega (arith, c.sofar v v_in, tails', heads, top, t-top, h-top),
          omega (arith, c.sofar v v_in, tails, heads', top, t-top, h-top),
        )

    -- one more arc is counted
    pub count_next : (e₁ e₂ : List ℕ) → length e₂ ≡ length e
        → ((v : ℕ) → at e₁ v + pick (head N i) v (at x i) ≡ at e v + pick (tail N i) v (at x i))
        → ((v : ℕ) → at e₂ v + pick (tail N i) v flow_zero ≡ at e₁ v + pick (head N i) v flow_zero) → Counting N n x e₂ (i + 1)
    count_next e₁ e₂ size one two = record {
      i_in = omega arith;
      size = size ∙ c.size;
      sofar = λ v v_in. omega (
        arith,
        c.sofar v v_in,
        one v,
        two v,
        flow_suc i (tail N) (at x) v,
        flow_suc i (head N) (at x) v,
        flow_suc i (tail N) (λ k. flow_zero) v,
        flow_suc i (head N) (λ k. flow_zero) v,
      );
    }
