-- The walk back from t to s: each arc on the way moves d. Only the ends' deficits change, so what is counted at the node
-- where the walk stands is d too much, and nowhere else.
use Rattle.network.specs.laws.SumsTo.{at_set}
use Rattle.network.specs.Net.{at, Net, arcs, tail, head, low, high, stands, asks}
use Rattle.circulation.specs.inside.Slackness.{pick, flow, inflow, outflow, Slack}
use Rattle.network.specs.WellFormed.{WellFormed}
use Rattle.circulation.specs.inside.Search.{total_deficit, FromHead, FromTail, Link, Reached, Amount, Pushed, Walked}
use mathlib.Core.Path.{◌≡◌, subst, ap, ◌∙◌}
use mathlib.Core.Logic.{◌⊎◌, ⊎_elim}
use mathlib.Core.List.{List}
use Prim.Native.Nat.{ℕ, ◌+◌, ◌-◌, ◌≤◌, ◌<◌}
use native.Mathlib.Nat.{le_refl}
use native.Mathlib.Decide.{ℕ_discrete}
use native.Mathlib.Omega.{arith}
use lib.ListN.{length, set, length-set}
use lib.Seq.{get_or-set_other}
use Rattle.circulation.proofs.laws.Flows.{flow_set}
use Rattle.circulation.specs.laws.Picks.{pick_yes, pick_no}
use Rattle.network.specs.Nodes.{deficit_zero}
use Rattle.circulation.proofs.laws.Amounts.{amount_most}

-- a sum, picked
pick_add : (u v a b : ℕ) → pick u v (a + b) ≡ pick u v a + pick u v b
pick_add u v a b = go (ℕ_discrete u v)
  where
    go : Dec (u ≡ v) → pick u v (a + b) ≡ pick u v a + pick u v b
    go (yes e) = omega (arith, pick_yes u v (a + b) e, pick_yes u v a e, pick_yes u v b e)
    go (no ne) = omega (arith, pick_no u v (a + b) ne, pick_no u v a ne, pick_no u v b ne)

-- the ends of a link are not after its node in the order
link_top : {N : Net} {p x order residual : ℕ → ℕ} {w j : ℕ} → Link N p x order residual w j
    → (order (tail N j) ≤ order w) × (order (head N j) ≤ order w)
link_top {N} {p} {x} {order} {residual} {w} {j} l = ⊎_elim
    (λ e. (omega (arith, ap order e.0), omega (arith, e.2)))
    (λ e. (omega (arith, e.2), omega (arith, ap order e.0)))
    l.ends

-- from t the walk has come to v; x₀ are the flows before it
pub record Walking (N : Net) (s t d : ℕ) (p x₀ e order parent residual x : List ℕ) (v : ℕ) : Type 0 where
  pub reached : Reached N s t p x₀ e order parent residual
  pub amount : Amount s t d (at e) (at residual)
  pub x_size : length x ≡ length x₀
  pub slack : Slack N (at p) (at x)
  pub steps : (i : ℕ) → (at x i ≤ at x₀ i + d) × (at x₀ i ≤ at x i + d)
  pub fresh : (w : ℕ) → w < length p → 0 < at order w → (w ≡ s → ⊥) → at order w ≤ at order v → at x (at parent w) ≡ at x₀ (at parent w)
  pub v_in : v < length p
  pub v_reached : 0 < at order v
  pub v_residual : d ≤ at residual v
  pub moved : (y : ℕ) → y < length p
      → at e y + inflow N (arcs N) (at x) y + pick t y d ≡ deficit_zero + outflow N (arcs N) (at x) y + pick v y d

module _ {N : Net} {s t d : ℕ} {p x₀ e order parent residual : List ℕ} where
  -- the walk has come to s
  pub walked : {x : List ℕ} {v : ℕ} → Walking N s t d p x₀ e order parent residual x v → v ≡ s → Walked N s t d p e x₀ x
  walked {x} {v} w same = record {
    size_same = w.x_size;
    slack = w.slack;
    steps = w.steps;
    moved = λ y y-in. omega
        (arith, w.moved y y-in, ap (λ (u : ℕ). pick u y d) same);
  }

  module _ {x : List ℕ} {v : ℕ} (w : Walking N s t d p x₀ e order parent residual x v) (on : v ≡ s → ⊥) where
    -- the network is one
    wf : WellFormed N (length p)
    wf = w.reached.state.wf

    -- the arc over which v was reached
    link : Link N (at p) (at x₀) (at order) (at residual) v (at parent v)
    link = w.reached.tree.links v w.v_in w.v_reached on

    -- its flow is as before the walk
    x_same : at x (at parent v) ≡ at x₀ (at parent v)
    x_same = w.fresh v w.v_in w.v_reached on (le_refl _)

    -- it is an arc
    x_in : at parent v < length x
    x_in = omega (arith, link.arc_in, w.x_size, w.reached.state.x_size)

    -- d moved from u to v over arc i, whose flow becomes a
    module _ (u a : ℕ) (u-in : u < length p) (u-reached : 0 < at order u) (u-low : at order u < at order v)
        (u-residual : at residual v ≤ at residual u)
        (a-steps : (a ≤ at x₀ (at parent v) + d) × (at x₀ (at parent v) ≤ a + d))
        (a-fits : (low N (at parent v) ≤ a) × (a ≤ high N (at parent v)))
        (balanced : (y : ℕ) → y < length p → at e y + inflow N (arcs N) (at (set x (at parent v) a)) y + pick t y d
        ≡ deficit_zero + outflow N (arcs N) (at (set x (at parent v) a)) y + pick u y d) where
      -- arc i is no other node's
      not_i : (y : ℕ) → y < length p → 0 < at order y → (y ≡ s → ⊥) → at order y ≤ at order u → at parent y ≡ at parent v → ⊥
      not_i y y-in l ne low same =
          let top = subst (λ (k : ℕ). (at order (tail N k) ≤ at order y) × (at order (head N k) ≤ at order y)) same
          (link_top (w.reached.tree.links y y-in l ne)) in
          ⊎_elim (λ c. omega (arith, ap (at order) c.0, top.0)) (λ c. omega (arith, ap (at order) c.0, top.1)) link.ends

      -- the flow of each arc then
      stored : (j : ℕ)
          → ((j ≡ at parent v) × (at (set x (at parent v) a) j ≡ a)) ⊎ ((j ≡ at parent v → ⊥) × (at (set x (at parent v) a) j ≡ at x j))
      stored j = at_set x (at parent v) a j x_in

      -- d is at most what is left to move
      most : d ≤ total_deficit (length p) (at e)
      most = (amount_most w.reached d w.amount).1

      -- the flows fit the potentials
      slack' : Slack N (at p) (at (set x (at parent v) a))
      slack' = record {
        within = λ j l. ⊎_elim (λ c. rw (c.1, c.0) a-fits) (λ c. rw c.1 (w.slack.within j l)) (stored j);
        not_full =
            λ j l hard. ⊎_elim
            (λ c. omega (arith, c.1, hard, ap (at x₀) c.0, a-steps.0, most, w.reached.state.spare_high j l hard))
            (λ c. omega (arith, c.1, w.slack.not_full j l hard)) (stored j);
        not_empty =
            λ j l hard. ⊎_elim
            (λ c. omega (arith, c.1, hard, ap (at x₀) c.0, a-steps.1, most, w.reached.state.spare_low j l hard))
            (λ c. omega (arith, c.1, w.slack.not_empty j l hard)) (stored j);
        left = λ j l less. ⊎_elim (λ c. absurd (tight j c.0 less)) (λ c. c.1 ∙ w.slack.left j l less) (stored j);
        right = λ j l less. ⊎_elim (λ c. absurd (tight' j c.0 less)) (λ c. c.1 ∙ w.slack.right j l less) (stored j);
      }
        where
          tight : (j : ℕ) → j ≡ at parent v → stands N (at p) j < asks N (at p) j → ⊥
          tight j same more = let there = rw same at more in omega (arith, there, link.tight)

          tight' : (j : ℕ) → j ≡ at parent v → asks N (at p) j < stands N (at p) j → ⊥
          tight' j same more = let there = rw same at more in omega (arith, there, link.tight)

      -- the walk is at u
      next : Walking N s t d p x₀ e order parent residual (set x (at parent v) a) u
      next = record {
        reached = w.reached;
        amount = w.amount;
        x_size = simp length-set w.x_size;
        slack = slack';
        steps =
            λ j. ⊎_elim
            (λ c. (omega (arith, c.1, ap (at x₀) c.0, a-steps.0), omega (arith, c.1, ap (at x₀) c.0, a-steps.1)))
            (λ c. (omega (arith, c.1, (w.steps j).0), omega (arith, c.1, (w.steps j).1))) (stored j);
        fresh = λ y y-in l ne low. get_or-set_other x (at parent v) (at parent y) a 0 (not_i y y-in l ne low)
            ∙ w.fresh y y-in l ne (omega arith);
        v_in = u-in;
        v_reached = u-reached;
        v_residual = omega (arith, w.v_residual);
        moved = balanced;
      }

    -- the flows at y when arc i's flow becomes a
    module _ (a y : ℕ) where
      -- what flows out
      tails : flow (arcs N) (tail N) (at (set x (at parent v) a)) y + pick (tail N (at parent v)) y (at x (at parent v))
          ≡ flow (arcs N) (tail N) (at x) y + pick (tail N (at parent v)) y a
      tails = flow_set (arcs N) (tail N) x (at parent v) a y link.arc_in x_in

      -- what flows in
      heads : flow (arcs N) (head N) (at (set x (at parent v) a)) y + pick (head N (at parent v)) y (at x (at parent v))
          ≡ flow (arcs N) (head N) (at x) y + pick (head N (at parent v)) y a
      heads = flow_set (arcs N) (head N) x (at parent v) a y link.arc_in x_in

    -- the walk goes on over it
    pub walk_next : (x' : List ℕ) (u : ℕ) → Pushed N x (at parent v) v d x' u
        → Walking N s t d p x₀ e order parent residual x' u × (at order u < at order v)
    walk_next x' u m = ⊎_elim up down link.ends
      where
        lower : (k : ℕ) → u ≡ k → at order k < at order v → at order u < at order v
        lower k is low = rw is low

        up : FromHead N (at x₀) (at order) (at residual) v (at parent v)
            → Walking N s t d p x₀ e order parent residual x' u × (at order u < at order v)
        up c =
            let is = (m.up c.0).0 in
            let low = lower (head N (at parent v)) is c.2 in
            let u-in : u < length p = rw is (wf.arc_in (at parent v) link.arc_in).head_in in (
              rw (m.up c.0).1
                  (next u (at x (at parent v) + d) u-in (rw is c.1) low (rw is c.4) (omega (arith, x_same), omega (arith, x_same))
                  (omega (arith, (w.slack.within (at parent v) link.arc_in).0), omega (arith, x_same, w.v_residual, c.3))
                  (λ y y-in. omega (
                    arith,
                    w.moved y y-in,
                    tails (at x (at parent v) + d) y,
                    heads (at x (at parent v) + d) y,
                    pick_add (tail N (at parent v)) y (at x (at parent v)) d,
                    pick_add (head N (at parent v)) y (at x (at parent v)) d,
                    ap (λ (k : ℕ). pick k y d) c.0,
                    ap (λ (k : ℕ). pick k y d) is,
                  ))),
              low,
            )

        down : FromTail N (at x₀) (at order) (at residual) v (at parent v)
            → Walking N s t d p x₀ e order parent residual x' u × (at order u < at order v)
        down c =
            let ne : tail N (at parent v) ≡ v → ⊥ = λ h. omega (arith, ap (at order) h, c.2) in
            let is = (m.down ne).0 in
            let low = lower (tail N (at parent v)) is c.2 in
            let rest : at x (at parent v) - d + d ≡ at x (at parent v) = omega (arith, x_same, w.v_residual, c.3) in
            let u-in : u < length p = rw is (wf.arc_in (at parent v) link.arc_in).tail_in in (
              rw (m.down ne).1
                  (next u (at x (at parent v) - d) u-in (rw is c.1) low (rw is c.4) (omega (arith, x_same), omega (arith, x_same))
                  (omega (arith, x_same, w.v_residual, c.3), omega (arith, (w.slack.within (at parent v) link.arc_in).1))
                  (λ y y-in. omega (
                    arith,
                    w.moved y y-in,
                    tails (at x (at parent v) - d) y,
                    heads (at x (at parent v) - d) y,
                    pick_add (tail N (at parent v)) y (at x (at parent v) - d) d,
                    pick_add (head N (at parent v)) y (at x (at parent v) - d) d,
                    ap (λ (k : ℕ). pick (tail N (at parent v)) y k) rest,
                    ap (λ (k : ℕ). pick (head N (at parent v)) y k) rest,
                    ap (λ (k : ℕ). pick k y d) c.0,
                    ap (λ (k : ℕ). pick k y d) is,
                  ))),
              low,
            )
