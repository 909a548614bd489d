-- Flows and potentials that are shown to be optimal are a solution once the potentials are stored relative to ground's: every node
-- is held over the arc that supports it, by induction on the order.
use Rattle.network.specs.laws.Tests.{fails, Listed}
use Rattle.network.specs.Net.{at, Net, arcs, tail, head, low, high, asks, stands, meant}
use Rattle.network.specs.laws.Indexed.{upto_length, upto_ext, listed_upto}
use Rattle.network.specs.Nodes.{potentials, orders, size, potential_zero}
use Rattle.network.specs.laws.IntegerParts.{parts_eq, less_parts}
use Rattle.network.specs.Integers.{down, up, eqZ}
use Rattle.network.specs.laws.Integers.{eqZ→eq}
use Rattle.network.specs.Network.{LeftmostLeast, unlimited, limit, reached, past_kink}
use Rattle.network.specs.Flows.{Flow, flows, complementary}
use Rattle.network.proofs.laws.Residuals.{residuals}
use Rattle.network.proofs.laws.Held.{Held, head_holds, tail_holds, held_leftmost}
use Rattle.network.proofs.laws.Held.Held.{by_ground}
use Rattle.network.specs.WellFormed.{WellFormed}
use Rattle.circulation.specs.Input.{Limited}
use Rattle.circulation.specs.inside.Finish.{Settled}
use Rattle.circulation.specs.inside.Optimal.{Support, Optimal}
use Rattle.network.specs.Packed.{low_of, high_of, arc_at, high_none, flow_zero}
use Rattle.circulation.specs.Solutions.{flows_of, potentials_of, Solution}
use Rattle.std.specs.Prelude.{◌≡◌, refl, not, cond, List, T, eqb, length, ℤ, pos, ◌-ℤ◌}
use Rattle.std.proofs.Common.{sym, ap, arith, eq-eqb, ne_eqb}
use Rattle.std.proofs.Math.Path.{subst}
use Rattle.std.proofs.Math.Logic.{⊎_elim}
use Prim.Native.Nat.{ℕ, zero, suc, ◌+◌, ◌-◌, ◌<◌}
use Rattle.std.proofs.Math.Decide.{ℕ_discrete}
use Rattle.circulation.specs.laws.Meaning.{relative, limit_of, flows_by_index, off_parts, follows, no_slacks}
use Rattle.circulation.specs.laws.FlowsBounded.{x_top}

-- the parts of 0
zeros : (up (pos 0) ≡ 0) × (down (pos 0) ≡ 0)
unfolding up down
zeros = (refl, refl)

-- a flow that is not the limit has not reached it
not_reached : (none l x : ℕ) → (x ≡ l → ⊥) → T (not (reached (limit_of none l) (pos x -ℤ pos flow_zero)))
not_reached none l x ne = go (ℕ_discrete l none)
  where
    go : Dec (l ≡ none)
        → T (not (reached (cond (eqb l none) unlimited (limit (pos l -ℤ pos flow_zero))) (pos x -ℤ pos flow_zero)))
    go (yes e) = rw (eq-eqb l none e) tt
    go (no other) = rw (ne_eqb l none other) (fails (eqZ (pos x -ℤ pos flow_zero) (pos l -ℤ pos flow_zero)) (λ t.
        let same = eqZ→eq (pos x -ℤ pos flow_zero) (pos l -ℤ pos flow_zero) t in
        ne (omega (arith, less_parts x flow_zero, less_parts l flow_zero, ap up same, ap down same))))

-- potentials that are stored relative to ground's
shifted_same : (n : ℕ) (p q : ℕ → ℕ) → ((v : ℕ) → v < n → q v + p (n - 1) ≡ p v + potential_zero)
    → potentials_of n q ≡ relative n p
shifted_same n p q e = upto_ext (n - 1) (λ v. pos (q v) -ℤ pos potential_zero) (λ v. pos (p v) -ℤ pos (p (n - 1))) (λ v l.
    parts_eq (pos (q v) -ℤ pos potential_zero) (pos (p v) -ℤ pos (p (n - 1)))
    (omega (arith, less_parts (q v) potential_zero, less_parts (p v) (p (n - 1)), e v (omega arith))))

module _ (N : Net) (n : ℕ) (p x order : ℕ → ℕ) (wf : WellFormed N n) (o : Optimal N n p x order) where
  -- the flow on arc i
  abbrev on : ℕ → Flow
  on i = record { on = arc_at N.list i; amount = pos (x i) -ℤ pos flow_zero }

  -- node v is held
  abbrev HeldHere : ℕ → Type 0
  HeldHere v = Held (relative n p) (residuals (meant N n) (flows_of (arcs N) x)) v

  -- as many potentials as nodes without ground
  relative_size : length (relative n p) ≡ n - 1
  relative_size = upto_length (n - 1) (λ v. pos (p v) -ℤ pos (p (n - 1)))

  -- the flow on arc i is one of the network's
  on_there : (i : ℕ) → i < arcs N → Listed (on i) (flows (meant N n).arcs (flows_of (arcs N) x))
  on_there i l =
      rw (flows_by_index (arcs N) (arc_at N.list) (λ i. pos (x i) -ℤ pos flow_zero)) (listed_upto (arcs N) on i l)

  -- an arc whose head stands where it asks is at its kink
  at_kink : (i : ℕ) → i < arcs N → asks N p i ≡ stands N p i → past_kink (relative n p) (arc_at N.list i) ≡ pos 0
  at_kink i l e =
      parts_eq (past_kink (relative n p) (arc_at N.list i)) (pos 0)
      (omega (arith, off_parts N n p x wf o.slack o.balanced i l, zeros.0, zeros.1))

  -- every node of a place below k is held, over the arc that supports it
  held_to : (k v : ℕ) → v < n → order v < k → HeldHere v
  unfolding low_of high_of
  held_to zero v l r = absurd (omega arith)
  held_to (suc k) v l r = elim (ℕ_discrete v (n - 1)) [
    | yes e ↦ by_ground {v = v} (omega (arith, relative_size))
    | no ne ↦ over (o.supported v (omega arith))
        (λ i a b. held_to k (head N i) (wf.arc_in i a).head_in (omega arith))
        (λ i a b. held_to k (tail N i) (wf.arc_in i a).tail_in (omega arith))
  ]
    where
      over : Support N p x order v → ((i : ℕ) → i < arcs N → order (head N i) < order v → HeldHere (head N i))
          → ((i : ℕ) → i < arcs N → order (tail N i) < order v → HeldHere (tail N i)) → HeldHere v
      over s heads tails =
          let i : ℕ = s.arc in
          let kink = at_kink i s.arc_in s.by.tight in
          let there = on_there i s.arc_in in
          ⊎_elim
          (λ c. subst HeldHere c.0 (head_holds (meant N n) (flows_of (arcs N) x) (on i) there kink
          (not_reached high_none (high N i) (x i) (λ e. omega (arith, c.2))) (heads i s.arc_in c.1)))
          (λ c. subst HeldHere c.0 (tail_holds (meant N n) (flows_of (arcs N) x) (on i) there kink
          (not_reached 0 (low N i) (x i) (λ e. omega (arith, c.2))) (tails i s.arc_in c.1)))
          s.by.ends

  -- the potentials relative to ground's are the leftmost of least cost
  best : LeftmostLeast (meant N n) (relative n p)
  best = held_leftmost (meant N n) (flows_of (arcs N) x) (relative n p) (follows N n p x wf o.slack o.balanced) relative_size
      (no_slacks N n p x wf o.slack o.balanced) (λ v l. held_to (suc (order v)) v (omega arith) (omega arith))

  -- stored with a number added they are a solution
  pub optimal_solution : Limited N → (q : ℕ → ℕ) → ((v : ℕ) → v < n → q v + p (n - 1) ≡ p v + potential_zero) → Solution N n x q
  optimal_solution limited q moved =
      let same = sym (shifted_same n p q moved) in
      record {
        follows_rules = follows N n p x wf o.slack o.balanced;
        no_slack =
            subst (λ (r : List ℤ). T (complementary (meant N n) (flows_of (arcs N) x) r)) same
            (no_slacks N n p x wf o.slack o.balanced);
        best = subst (λ (r : List ℤ). LeftmostLeast (meant N n) r) same best;
        ground = omega (arith, moved (n - 1) (omega (arith, wf.some)));
        bounded = x_top limited o.slack;
      }

-- the same of the nodes as they are packed, once their potentials are relative to ground's
pub settled_solution : {N : Net} {n : ℕ} (x nodes new : List ℕ) → WellFormed N n → Limited N → size nodes ≡ n
    → Optimal N n (at (potentials nodes)) (at x) (at (orders nodes)) → Settled nodes new → Solution N n (at x) (at (potentials new))
settled_solution {N} {n} x nodes new wf limited size_is o settled =
    optimal_solution N n (at (potentials nodes)) (at x) (at (orders nodes)) wf o limited (at (potentials new))
    (λ v l. omega (arith, settled.relative v (omega arith), ap (λ (k : ℕ). at (potentials nodes) (k - 1)) size_is))
