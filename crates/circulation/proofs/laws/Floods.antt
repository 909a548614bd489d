-- A search without a goal reaches every node of a network whose nodes hang on hard arcs.
use Rattle.network.specs.Net.{at, Net, arcs, head, asks, stands, HardHigh, HardLow}
use Rattle.network.specs.laws.SumsTo.{sum_to_eq, sum_to_zero, sum_to_ge}
use Rattle.circulation.specs.inside.Slackness.{Slack}
use Rattle.circulation.specs.Input.{Feasible, Hangs, Rooted}
use Rattle.circulation.specs.inside.Search.{Crosses, Crossing, Grown}
use mathlib.Core.Path.{◌≡◌, ap, ◌∙◌}
use mathlib.Core.Logic.{inl, ⊎_elim}
use mathlib.Core.Bool.{cond}
use mathlib.Core.List.{List}
use Prim.Native.Nat.{ℕ, zero, suc, ◌-◌, ◌≤◌, ◌<◌}
use lib.Dec.{eqb}
use lib.ListN.{length}
use borrow.Author.Tests.{eq-eqb, ne_eqb}
use native.Mathlib.Decide.{ℕ_discrete, dec_lt}
use native.Mathlib.Omega.{arith}

module _ (N : Net) (n s : ℕ) (p x order : ℕ → ℕ) (slack : Slack N p x) (met : Feasible N p) (root : 0 < order s)
    (hangs : (v : ℕ) → v < n → (v ≡ s → ⊥) → Hangs N s v)
    (none : (i : ℕ) → i < arcs N → Crosses N p x order i → ⊥) where
  -- the law below, for nodes before k
  reached_to : (k v : ℕ) → v < k → v < n → 0 < order v
  reached_to zero v l w = absurd (omega arith)
  reached_to (suc k) v l w = elim (ℕ_discrete v s) [
    | yes e ↦ omega (arith, ap order e)
    | no ne ↦ step (hangs v w ne) (λ u b. reached_to k u (omega arith) (omega arith))
  ]
    where
      step : Hangs N s v → ((u : ℕ) → u < v → 0 < order u) → 0 < order v
      step h before = elim (ℕ_discrete (order v) 0) [
        | no ne ↦ omega arith
        | yes e ↦ absurd (none h.arc h.arc_in (inl (record {
          from = ⊎_elim (λ c. omega (arith, ap order c)) (λ c. before (head N h.arc) c) h.by.to;
          to = ap order h.by.from ∙ e;
          slack = met.not_right h.arc h.arc_in h.by.hard;
          residual = omega (arith, h.by.hard, slack.not_full h.arc h.arc_in h.by.hard);
        })))
      ]

  -- where no arc crosses, every node is reached
  pub reached : (v : ℕ) → v < n → 0 < order v
  reached v w = reached_to (suc v) v (omega arith) w

-- what fits the flows is on no forbidden side
pub slack_feasible : {N : Net} {p x : ℕ → ℕ} → Slack N p x → Feasible N p
slack_feasible {N} {p} {x} s = record {
  not_right = λ i l hard. right i l hard (dec_lt (asks N p i) (stands N p i));
  not_left = λ i l hard. left i l hard (dec_lt (stands N p i) (asks N p i));
}
  where
    right : (i : ℕ) → i < arcs N → HardHigh N i → Dec (asks N p i < stands N p i) → stands N p i ≤ asks N p i
    right i l hard (yes more) = absurd (omega (arith, s.right i l more, s.not_full i l hard))
    right i l hard (no le) = omega arith

    left : (i : ℕ) → i < arcs N → HardLow N i → Dec (stands N p i < asks N p i) → asks N p i ≤ stands N p i
    left i l hard (yes less) = absurd (omega (arith, s.left i l less, s.not_empty i l hard))
    left i l hard (no le) = omega arith

module _ {N : Net} {s count : ℕ} {p x order parent residual : List ℕ} (g : Grown N s count p x order parent residual) where
  -- while some node is not reached, some arc crosses
  pub flood_crosses : s ≡ length p - 1 → Rooted N (length p) → count < length p → Crossing N (at p) (at x) (at order)
  flood_crosses last rooted few none = omega (
    arith,
    g.rest,
    sum_to_eq (length p) (λ v. cond (eqb (at order v) 0) 1 0) (λ v. 0)
        (λ v l. gone v (reached N (length p) s (at p) (at x) (at order) g.slack (slack_feasible g.slack)
        (omega (arith, g.tree.root)) (λ u u-in ne. rw last (rooted.hangs u (omega arith))) none v l)),
    sum_to_zero (length p),
  )
    where
      gone : (v : ℕ) → 0 < at order v → ◌≡◌ {A = ℕ} (cond (eqb (at order v) 0) 1 0) 0
      gone v some = rw (ne_eqb (at order v) 0 (λ e. omega arith))

  -- as many nodes as there are are all
  pub flood_whole : length p ≤ count → (v : ℕ) → v < length p → 0 < at order v
  flood_whole all v l = elim (ℕ_discrete (at order v) 0) [
    | no ne ↦ omega arith
    | yes e ↦ absurd (one e)
  ]
    where
      one : at order v ≡ 0 → ⊥
      one e =
          let here : ◌≡◌ {A = ℕ} (cond (eqb (at order v) 0) 1 0) 1 = rw (eq-eqb (at order v) 0 e) in
          omega (arith, g.rest, here, sum_to_ge (length p) (λ u. cond (eqb (at order u) 0) 1 0) v l)
