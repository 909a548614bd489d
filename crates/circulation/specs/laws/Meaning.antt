-- Slackness and balance on packed numbers are the theory's: each integer is a difference of two naturals, so omega decides.
use Rattle.network.specs.laws.Indexed.{upto_ext, upto_in, upto_past, all_upto, flows_upto}
use Rattle.network.specs.laws.Sums.{sum_append}
use Rattle.network.specs.laws.Tests.{at_below, and_both, not_both}
use Rattle.network.specs.Sums.{sum, sum_to, all, only, upto}
use Rattle.network.specs.laws.SumsTo.{sum_to_add}
use Rattle.network.specs.laws.IntegerParts.{parts_le, parts_eq, sum_parts, less_parts, minus_parts}
use Rattle.network.specs.Integers.{down, up, eqZ}
use Rattle.network.specs.laws.Integers.{eqZ_refl, eq→eqZ}
use Rattle.network.specs.Network.{Limit, potential, unlimited, limit, reached, at_most, at_least, Arc, past_kink}
use Rattle.network.specs.Flows.{Flow, flows, allowed, inflow, balanced, rules, complementary, tight}
use Rattle.network.specs.laws.Differences.{differences_tight}
use Rattle.network.specs.Net.{Net, arcs, tail, head, kink, low, high, asks, stands, meant}
use Rattle.circulation.specs.inside.Slackness.{pick, Slack, Balanced}
use Rattle.network.specs.WellFormed.{WellFormed}
use Rattle.network.specs.Packed.{low_of, high_of, arc_at, high_none, kink_zero, flow_zero}
use Rattle.circulation.specs.Solutions.{flows_of}
use Rattle.std.specs.Prelude.{◌≡◌, refl, not, cond, List, [], ◌∷◌, ℕ, zero, suc, ◌+◌, ◌-◌, ◌≤◌, ◌<◌, eqb, ℤ, ◌+ℤ◌, ◌-ℤ◌, ◌≤ℤ◌}
use Rattle.std.proofs.Math.Path.{ap}
use Rattle.std.proofs.Common.{◌∙◌, eq-eqb, ne_eqb}
use Rattle.std.proofs.Math.Decide.{ℕ_discrete, dec_lt}
use native.Mathlib.Omega.{arith}
use Rattle.std.proofs.Math.Dec.{T}
use Rattle.std.proofs.Math.IntN.{pos}
use Rattle.circulation.specs.laws.Picks.{pick_yes, pick_no}

-- potentials of n nodes relative to ground's
abbrev pub relative : ℕ → (ℕ → ℕ) → List ℤ
relative n p = upto (n - 1) (λ v. pos (p v) -ℤ pos (p (n - 1)))

-- flows by index on arcs by index
pub flows_by_index : (m : ℕ) (f : ℕ → Arc) (g : ℕ → ℤ)
    → flows (upto m f) (upto m g) ≡ upto m (λ i. record { on = f i; amount = g i })
flows_by_index m f g =
    flows_upto f (upto m g) m
    ∙ upto_ext m _ _ (λ i l. ap (λ (y : ℤ). record { on = f i; amount = y }) (upto_in (pos 0) m g i l))

-- a sum of integers, each of which is a natural number minus another
sum_parts_to : {A : Type 0} (g : A → ℤ) (m : ℕ) (fl : ℕ → A) (a b : ℕ → ℕ) → ((i : ℕ) → up (g (fl i)) + b i ≡ down (g (fl i)) + a i)
    → up (sum g (upto m fl)) + sum_to m b ≡ down (sum g (upto m fl)) + sum_to m a
unfolding up down sum_to upto
sum_parts_to g zero fl a b h = refl
sum_parts_to g (suc m) fl a b h =
    omega (
      arith,
      ap up (sum_append g (upto m fl) (fl m ∷ [])),
      ap down (sum_append g (upto m fl) (fl m ∷ [])),
      sum_parts (sum g (upto m fl)) (g (fl m) +ℤ pos 0),
      sum_parts (g (fl m)) (pos 0),
      h m,
      sum_parts_to g m fl a b h,
    )

-- a limit by its number, or none
abbrev pub limit_of : ℕ → ℕ → Limit
limit_of none l = cond (eqb l none) unlimited (limit (pos l -ℤ pos flow_zero))

-- less stays less with a number taken off both
less_le : (a b c : ℕ) → a ≤ b → (pos a -ℤ pos c) ≤ℤ (pos b -ℤ pos c)
less_le a b c l = parts_le (pos a -ℤ pos c) (pos b -ℤ pos c) (omega (arith, less_parts a c, less_parts b c))

-- a flow that is at least the low limit
low_kept : (none l x : ℕ) → l ≤ x → T (at_least (pos x -ℤ pos flow_zero) (limit_of none l))
low_kept none l x le = go (ℕ_discrete l none)
  where
    go : Dec (l ≡ none) → T (at_least (pos x -ℤ pos flow_zero) (cond (eqb l none) unlimited (limit (pos l -ℤ pos flow_zero))))
    go (yes e) = rw (eq-eqb l none e) tt
    go (no ne) = rw (ne_eqb l none ne) (less_le l x flow_zero le).le

-- and one that is at most the high limit
high_kept : (none h x : ℕ) → x ≤ h → T (at_most (pos x -ℤ pos flow_zero) (limit_of none h))
high_kept none h x le = go (ℕ_discrete h none)
  where
    go : Dec (h ≡ none) → T (at_most (pos x -ℤ pos flow_zero) (cond (eqb h none) unlimited (limit (pos h -ℤ pos flow_zero))))
    go (yes e) = rw (eq-eqb h none e) tt
    go (no ne) = rw (ne_eqb h none ne) (less_le x h flow_zero le).le

-- a flow that is the limit has reached it
is_reached : (none l x : ℕ) → x ≡ l → (l ≡ none → ⊥) → T (reached (limit_of none l) (pos x -ℤ pos flow_zero))
is_reached none l x e ne = rw (ne_eqb l none ne, e) (eqZ_refl (pos l -ℤ pos flow_zero))

-- the parts of a flow at one end
only_parts : (u v x b : ℕ) → up (only u (pos x -ℤ pos b) v) + pick u v b ≡ down (only u (pos x -ℤ pos b) v) + pick u v x
unfolding up down
only_parts u v x b = go (ℕ_discrete u v)
  where
    go : Dec (u ≡ v)
        → up (cond (eqb u v) (pos x -ℤ pos b) (pos 0)) + pick u v b ≡ down (cond (eqb u v) (pos x -ℤ pos b) (pos 0)) + pick u v x
    go (yes e) = rw (eq-eqb u v e) (omega (arith, less_parts x b, pick_yes u v b e, pick_yes u v x e))
    go (no ne) = rw (ne_eqb u v ne) (omega (arith, pick_no u v b ne, pick_no u v x ne))

module _ (N : Net) (n : ℕ) (p x : ℕ → ℕ) (wf : WellFormed N n) (slack : Slack N p x) (bal : Balanced N n x) where
  -- the flow on arc i
  abbrev pub on_arc : ℕ → Flow
  on_arc i = record { on = arc_at N.list i; amount = pos (x i) -ℤ pos flow_zero }

  -- the parts of what it brings to node v
  brings_parts : (v i : ℕ)
      → up (inflow v (on_arc i)) + (pick (tail N i) v (x i) + pick (head N i) v flow_zero)
      ≡ down (inflow v (on_arc i)) + (pick (head N i) v (x i) + pick (tail N i) v flow_zero)
  brings_parts v i = omega (
    arith,
    minus_parts (only (head N i) (pos (x i) -ℤ pos flow_zero) v) (only (tail N i) (pos (x i) -ℤ pos flow_zero) v),
    only_parts (head N i) v (x i) flow_zero,
    only_parts (tail N i) v (x i) flow_zero,
  )

  -- a node is balanced
  balance_at : (v : ℕ) → v < n → sum (inflow v) (upto (arcs N) on_arc) ≡ pos 0
  unfolding up down
  balance_at v l = parts_eq (sum (inflow v) (upto (arcs N) on_arc)) (pos 0) (omega (
    arith,
    sum_parts_to (inflow v) (arcs N) on_arc (λ i. pick (head N i) v (x i) + pick (tail N i) v flow_zero)
        (λ i. pick (tail N i) v (x i) + pick (head N i) v flow_zero) (brings_parts v),
    sum_to_add (arcs N) (λ i. pick (head N i) v (x i)) (λ i. pick (tail N i) v flow_zero),
    sum_to_add (arcs N) (λ i. pick (tail N i) v (x i)) (λ i. pick (head N i) v flow_zero),
    bal.balance v l,
  ))

  -- the parts of a potential
  potential_parts : (v : ℕ) → v < n → up (potential (relative n p) v) + p (n - 1) ≡ down (potential (relative n p) v) + p v
  unfolding up down
  potential_parts v l = go (ℕ_discrete v (n - 1))
    where
      go : Dec (v ≡ n - 1) → up (potential (relative n p) v) + p (n - 1) ≡ down (potential (relative n p) v) + p v
      go (yes e) = rw (upto_past (pos 0) (n - 1) (λ v. pos (p v) -ℤ pos (p (n - 1))) v (omega arith)) (omega (arith, ap p e))
      go (no ne) = rw (upto_in (pos 0) (n - 1) (λ v. pos (p v) -ℤ pos (p (n - 1))) v (omega arith)) (less_parts (p v) (p (n - 1)))

  -- how far past its kink an arc is
  pub off_parts : (i : ℕ) → i < arcs N
      → up (past_kink (relative n p) (arc_at N.list i)) + asks N p i
      ≡ down (past_kink (relative n p) (arc_at N.list i)) + stands N p i
  off_parts i l = omega (
    arith,
    minus_parts (potential (relative n p) (head N i) -ℤ potential (relative n p) (tail N i)) (pos (kink N i) -ℤ pos kink_zero),
    minus_parts (potential (relative n p) (head N i)) (potential (relative n p) (tail N i)),
    less_parts (kink N i) kink_zero,
    potential_parts (head N i) (wf.arc_in i l).head_in,
    potential_parts (tail N i) (wf.arc_in i l).tail_in,
  )

  -- a flow is tight
  tight_at : (i : ℕ) → i < arcs N → T (tight (relative n p) (on_arc i))
  unfolding up down low_of high_of
  tight_at i l = differences_tight (arc_at N.list i) (pos (x i) -ℤ pos flow_zero) (past_kink (relative n p) (arc_at N.list i))
      (λ open-high. not_right open-high (dec_lt (asks N p i) (stands N p i)))
      (λ open-low. not_left open-low (dec_lt (stands N p i) (asks N p i)))
    where
      not_right : T (not (reached (limit_of high_none (high N i)) (pos (x i) -ℤ pos flow_zero)))
          → Dec (asks N p i < stands N p i) → past_kink (relative n p) (arc_at N.list i) ≤ℤ pos 0
      not_right o (yes more) =
          absurd
          (not_both (reached (limit_of high_none (high N i)) (pos (x i) -ℤ pos flow_zero))
          (is_reached high_none (high N i) (x i) (slack.right i l more)
          (λ hard. omega (arith, slack.right i l more, slack.not_full i l hard)))
          o)
      not_right o (no le) = parts_le (past_kink (relative n p) (arc_at N.list i)) (pos 0) (omega (arith, off_parts i l))

      not_left : T (not (reached (limit_of 0 (low N i)) (pos (x i) -ℤ pos flow_zero))) → Dec (stands N p i < asks N p i)
          → pos 0 ≤ℤ past_kink (relative n p) (arc_at N.list i)
      not_left o (yes less) =
          absurd
          (not_both (reached (limit_of 0 (low N i)) (pos (x i) -ℤ pos flow_zero))
          (is_reached 0 (low N i) (x i) (slack.left i l less)
          (λ hard. omega (arith, slack.left i l less, slack.not_empty i l hard)))
          o)
      not_left o (no le) = parts_le (pos 0) (past_kink (relative n p) (arc_at N.list i)) (omega (arith, off_parts i l))

  -- a flow is allowed
  allowed_at : (i : ℕ) → i < arcs N → T (allowed (on_arc i))
  unfolding low_of high_of
  allowed_at i l =
      and_both (at_least (pos (x i) -ℤ pos flow_zero) (limit_of 0 (low N i)))
      (at_most (pos (x i) -ℤ pos flow_zero) (limit_of high_none (high N i)))
      (low_kept 0 (low N i) (x i) (slack.within i l).0)
      (high_kept high_none (high N i) (x i) (slack.within i l).1)

  -- the flows meet the rules
  pub follows : T (rules (meant N n) (flows_of (arcs N) x))
  unfolding rules
  follows =
      rw (flows_by_index (arcs N) (arc_at N.list) (λ i. pos (x i) -ℤ pos flow_zero))
      (and_both (all allowed (upto (arcs N) on_arc)) (balanced (n - 1) (upto (arcs N) on_arc))
      (all_upto allowed (arcs N) on_arc allowed_at)
      (at_below (n - 1) (λ v. eqZ (sum (inflow v) (upto (arcs N) on_arc)) (pos 0))
      (λ v l. eq→eqZ (sum (inflow v) (upto (arcs N) on_arc)) (pos 0) (balance_at v (omega arith)))))

  -- flows and potentials are in complementary slackness
  pub no_slacks : T (complementary (meant N n) (flows_of (arcs N) x) (relative n p))
  unfolding complementary
  no_slacks =
      rw (flows_by_index (arcs N) (arc_at N.list) (λ i. pos (x i) -ℤ pos flow_zero))
      (all_upto (tight (relative n p)) (arcs N) on_arc tight_at)
