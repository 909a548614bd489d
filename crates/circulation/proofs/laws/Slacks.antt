-- Complementary slackness stays when the reached nodes rise by the least step: an arc that would break it crosses with a
-- lesser step.
use Rattle.network.specs.Net.{Net, arcs, tail, head, low, high, stands, asks}
use Rattle.circulation.specs.inside.Slackness.{Slack}
use Rattle.network.specs.WellFormed.{WellFormed}
use Rattle.circulation.specs.inside.Search.{Crosses, step, lift, lifted}
use mathlib.Core.Path.{◌≡◌}
use mathlib.Core.Logic.{◌⊎◌, inl, inr}
use Prim.Native.Nat.{ℕ, ◌+◌, ◌≤◌, ◌<◌}
use native.Mathlib.Decide.{dec_lt}
use native.Mathlib.Omega.{arith}
use Rattle.circulation.proofs.laws.Moves.{lift_cases}

-- potentials that are equal at the nodes have the same slack
module _ {N : Net} {n : ℕ} (wf : WellFormed N n) where
  -- the same slackness
  pub same_slack : {q p' x : ℕ → ℕ} → ((v : ℕ) → v < n → p' v ≡ q v) → Slack N q x → Slack N p' x
  same_slack m s = record {
    within = s.within;
    not_full = s.not_full;
    not_empty = s.not_empty;
    left = λ i l less. s.left i l (omega (arith, m _ (wf.arc_in i l).tail_in, m _ (wf.arc_in i l).head_in));
    right = λ i l less. s.right i l (omega (arith, m _ (wf.arc_in i l).tail_in, m _ (wf.arc_in i l).head_in));
  }

module _ {N : Net} {p x : ℕ → ℕ} (order : ℕ → ℕ) (s : Slack N p x) (d : ℕ)
    (least : (j : ℕ) → j < arcs N → Crosses N p x order j → d ≤ step N p j) where
  -- an arc that leaves the reached nodes and would be left of its kink
  leaves : (i : ℕ) → i < arcs N → 0 < order (tail N i) → order (head N i) ≡ 0 → stands N p i < asks N p i + d → x i ≡ low N i
  leaves i l from to less = go (dec_lt (stands N p i) (asks N p i)) (dec_lt (low N i) (x i))
    where
      go : Dec (stands N p i < asks N p i) → Dec (low N i < x i) → x i ≡ low N i
      go (yes slack) z = s.left i l slack
      go (no missing) (no z) = omega (arith, (s.within i l).0)
      go (no missing) (yes residual) =
          absurd (omega (arith, least i l (inr (record { from = from; to = to; slack = omega arith; residual = residual }))))

  -- an arc that enters them and would be right of it
  enters : (i : ℕ) → i < arcs N → 0 < order (head N i) → order (tail N i) ≡ 0 → asks N p i < stands N p i + d → x i ≡ high N i
  enters i l from to less = go (dec_lt (asks N p i) (stands N p i)) (dec_lt (x i) (high N i))
    where
      go : Dec (asks N p i < stands N p i) → Dec (x i < high N i) → x i ≡ high N i
      go (yes missing) z = s.right i l missing
      go (no slack) (yes residual) =
          absurd (omega (arith, least i l (inl (record { from = from; to = to; slack = omega arith; residual = residual }))))
      go (no slack) (no full) = omega (arith, (s.within i l).1)

  -- the potentials fit after the step
  pub lift_slack : Slack N (lifted order p d) x
  lift_slack = record {
    within = s.within;
    not_full = s.not_full;
    not_empty = s.not_empty;
    left = λ i l less. up i l less (lift_cases (order (head N i)) (p (head N i)) d) (lift_cases (order (tail N i)) (p (tail N i)) d);
    right = λ i l less. down i l less (lift_cases (order (head N i)) (p (head N i)) d) (lift_cases (order (tail N i)) (p (tail N i)) d);
  }
    where
      up : (i : ℕ) → i < arcs N → stands N (lifted order p d) i < asks N (lifted order p d) i
          → ((0 < order (head N i)) × (lift (order (head N i)) (p (head N i)) d ≡ p (head N i) + d)) ⊎ ((order (head N i) ≡ 0) × (lift (order (head N i)) (p (head N i)) d ≡ p (head N i)))
          → ((0 < order (tail N i)) × (lift (order (tail N i)) (p (tail N i)) d ≡ p (tail N i) + d)) ⊎ ((order (tail N i) ≡ 0) × (lift (order (tail N i)) (p (tail N i)) d ≡ p (tail N i))) → x i ≡ low N i
      up i l less (inl t) (inl h) = s.left i l (omega (arith, t.1, h.1))
      up i l less (inl t) (inr h) = s.left i l (omega (arith, t.1, h.1))
      up i l less (inr t) (inr h) = s.left i l (omega (arith, t.1, h.1))
      up i l less (inr t) (inl h) = leaves i l h.0 t.0 (omega (arith, t.1, h.1))

      down : (i : ℕ) → i < arcs N → asks N (lifted order p d) i < stands N (lifted order p d) i
          → ((0 < order (head N i)) × (lift (order (head N i)) (p (head N i)) d ≡ p (head N i) + d)) ⊎ ((order (head N i) ≡ 0) × (lift (order (head N i)) (p (head N i)) d ≡ p (head N i)))
          → ((0 < order (tail N i)) × (lift (order (tail N i)) (p (tail N i)) d ≡ p (tail N i) + d)) ⊎ ((order (tail N i) ≡ 0) × (lift (order (tail N i)) (p (tail N i)) d ≡ p (tail N i))) → x i ≡ high N i
      down i l less (inl t) (inl h) = s.right i l (omega (arith, t.1, h.1))
      down i l less (inr t) (inl h) = s.right i l (omega (arith, t.1, h.1))
      down i l less (inr t) (inr h) = s.right i l (omega (arith, t.1, h.1))
      down i l less (inl t) (inr h) = enters i l t.0 h.0 (omega (arith, t.1, h.1))
