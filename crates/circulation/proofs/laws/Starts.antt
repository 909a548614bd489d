-- The flows and deficits at the start fit the potentials: each arc by where it stands.
use Rattle.network.specs.laws.SumsTo.{sum_to_le, sum_to_add, sum_to_bound}
use Rattle.network.specs.Net.{at, Net, net, arcs, tail, head, low, high, asks, stands}
use Rattle.circulation.specs.inside.Slackness.{flow, inflow, outflow, Slack, FilledAt}
use Rattle.network.specs.WellFormed.{WellFormed}
use Rattle.circulation.specs.Input.{LowIn, HighIn, Limited, Feasible, Valid}
use Rattle.network.specs.Nodes.{potentials, deficits, node_stride, deficit_zero}
use Rattle.circulation.specs.inside.Stores.{Apart}
use Rattle.circulation.specs.inside.Search.{Deficits, total_deficit, State}
use mathlib.Core.Path.{◌≡◌, refl, sym, subst}
use mathlib.Core.List.{List}
use Prim.Native.Nat.{ℕ, ◌+◌, ◌-◌, ◌/◌, ◌≤◌, ◌<◌}
use native.Mathlib.Decide.{dec_lt}
use native.Mathlib.Omega.{arith}
use lib.ListN.{length}
use Rattle.circulation.specs.laws.Columns.{column_length}
use Rattle.circulation.proofs.laws.Flows.{flow_total}
use Rattle.network.specs.Packed.{flow_zero}
use Rattle.circulation.specs.Limits.{low_least, high_most}
use Rattle.circulation.proofs.laws.Counts.{flow_near}

-- the first flows fit the potentials
module _ {N : Net} {n : ℕ} (p x : ℕ → ℕ) (wf : WellFormed N n) (limited : Limited N) (met : Feasible N p)
    (filled : (i : ℕ) → i < arcs N → FilledAt N p i (x i)) where
  -- low and high may not be where the arc stands on that side
  pub first_near : (i : ℕ) → i < arcs N → (low_least ≤ x i) × (x i ≤ high_most)
  first_near i l = go (dec_lt (stands N p i) (asks N p i)) (dec_lt (asks N p i) (stands N p i))
    where
      k : LowIn (low N i)
      k = (limited.each i l).low_in

      h : HighIn (high N i)
      h = (limited.each i l).high_in

      go : Dec (stands N p i < asks N p i) → Dec (asks N p i < stands N p i) → (low_least ≤ x i) × (x i ≤ high_most)
      go (yes less) b = (
        omega (arith, (filled i l).left less, k.soft (λ hard. omega (arith, met.not_left i l hard))),
        omega (arith, (filled i l).left less, k.top),
      )
      go (no nl) (yes more) = (
        omega (arith, (filled i l).right more, h.bottom),
        omega (arith, (filled i l).right more, h.soft (λ hard. omega (arith, met.not_right i l hard))),
      )
      go (no nl) (no nr) = (omega (arith, (filled i l).on (omega arith)), omega (arith, (filled i l).on (omega arith)))

  -- the first flows are in complementary slackness
  pub first_slack : Slack N p x
  first_slack = record {
    within = λ i l. within i l (dec_lt (stands N p i) (asks N p i)) (dec_lt (asks N p i) (stands N p i));
    not_full = λ i l hard. omega (arith, (first_near i l).1);
    not_empty = λ i l hard. omega (arith, (first_near i l).0);
    left = λ i l less. (filled i l).left less;
    right = λ i l less. (filled i l).right less;
  }
    where
      within : (i : ℕ) → i < arcs N → Dec (stands N p i < asks N p i) → Dec (asks N p i < stands N p i)
          → (low N i ≤ x i) × (x i ≤ high N i)
      within i l (yes less) b = (
        omega (arith, (filled i l).left less),
        omega (arith, (filled i l).left less, (limited.each i l).low_in.top, (limited.each i l).high_in.bottom),
      )
      within i l (no nl) (yes more) = (
        omega (arith, (filled i l).right more, (limited.each i l).low_in.top, (limited.each i l).high_in.bottom),
        omega (arith, (filled i l).right more),
      )
      within i l (no nl) (no nr) = (
        omega (arith, (filled i l).on (omega arith), (limited.each i l).low_in.top),
        omega (arith, (filled i l).on (omega arith), (limited.each i l).high_in.bottom),
      )

  -- little is to be moved: at most 2^24
  pub first_total : {e : ℕ → ℕ} → Deficits N n x e → total_deficit n e ≤ 16777216
  first_total {e} ex = omega (
    arith,
    sum_to_le n (λ v. e v - deficit_zero) (λ v. flow (arcs N) (tail N) (λ i. 1024) v + flow (arcs N) (head N) (λ i. 1024) v)
        (λ v v_in. omega (
          arith,
          ex.each v v_in,
          flow_near (arcs N) 1024 (tail N) x (λ i. flow_zero) v (λ i l. omega (arith, (first_near i l).1)),
          flow_near (arcs N) 1024 (head N) (λ i. flow_zero) x v (λ i l. omega (arith, (first_near i l).0)),
        )),
    sum_to_add n (flow (arcs N) (tail N) (λ i. 1024)) (flow (arcs N) (head N) (λ i. 1024)),
    flow_total n (arcs N) (tail N) (λ i. 1024) (λ i l. (wf.arc_in i l).tail_in),
    flow_total n (arcs N) (head N) (λ i. 1024) (λ i l. (wf.arc_in i l).head_in),
    sum_to_bound (arcs N) 1024 (λ i. 1024) (λ i l. omega arith),
    wf.few,
  )

-- the state that the method starts in
pub first_state : {N : Net} {n : ℕ} {p : List ℕ} (x e : List ℕ) → Valid N n p → length p ≡ n → length x ≡ arcs N → length e ≡ n
    → ((i : ℕ) → i < arcs N → FilledAt N (at p) i (at x i))
    → ((v : ℕ) → v < n → at e v + inflow N (arcs N) (at x) v ≡ deficit_zero + outflow N (arcs N) (at x) v) → State N p x e
first_state {N} {n} {p} x e v p_size x_size e_size filled is-deficit =
    let few = first_total (at p) (at x) v.wf v.limited v.feasible filled (record { each = is-deficit }) in
    record {
      wf = rw p_size v.wf;
      limited = v.limited;
      x_size = x_size;
      e_size = omega (arith, p_size);
      p_in = λ u. omega (arith, v.p_in u);
      calm = λ u l less. v.p_in u;
      slack = first_slack (at p) (at x) v.wf v.limited v.feasible filled;
      deficits_are = record { each = λ u l. is-deficit u (omega (arith, p_size)) };
      spare_high = rw p_size (λ i l hard. omega (arith, few, (first_near (at p) (at x) v.wf v.limited v.feasible filled i l).1));
      spare_low = rw p_size (λ i l hard. omega (arith, few, (first_near (at p) (at x) v.wf v.limited v.feasible filled i l).0));
    }

-- the state after the first flows are stored and the deficits counted
pub run_start : (list x₀ x nodes new : List ℕ) → Valid (net list (length x₀)) (length nodes / node_stride) (potentials nodes)
    → length x ≡ length x₀
    → ((i : ℕ) → i < length x₀ → FilledAt (net list (length x₀)) (at (potentials nodes)) i (at x i))
    → ((v : ℕ) → v < length nodes / node_stride → at (deficits new) v + inflow (net list (length x)) (length x) (at x) v
    ≡ deficit_zero + outflow (net list (length x)) (length x) (at x) v)
    → Apart 1 nodes new → State (net list (length x)) (potentials new) x (deficits new)
run_start list x₀ x nodes new v same filled is-deficit only =
    rw (only.others 0 (omega arith) (λ e. omega arith)) (first_state x (deficits new)
    (subst (λ (m : ℕ). Valid (net list m) (length nodes / node_stride) (potentials nodes)) (sym same) v)
    (column_length 0 nodes)
    refl
    (omega (arith, column_length 1 new, only.length_same))
    (subst (λ (m : ℕ). (i : ℕ) → i < m → FilledAt (net list m) (at (potentials nodes)) i (at x i)) (sym same) filled)
    is-deficit)
