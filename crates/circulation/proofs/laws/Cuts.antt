-- A cut: where no arc crosses from the reached nodes, they bring forth no more than they take in. So a search that
-- reaches no node with an excess finds a crossing arc.
use Rattle.network.specs.Sums.{sum_to}
use Rattle.network.specs.laws.SumsTo.{sum_to_le, sum_to_lt, sum_to_eq, sum_to_change, sum_to_zero, sum_to_add, sum_to_swap}
use Rattle.network.specs.Net.{Net, arcs, tail, head, low, high, asks, stands}
use Rattle.circulation.specs.inside.Slackness.{pick, flow, inflow, outflow, Slack}
use Rattle.network.specs.WellFormed.{WellFormed}
use Rattle.circulation.specs.Input.{Limited}
use Rattle.circulation.specs.inside.Search.{Deficits, Crosses}
use mathlib.Core.Path.{◌≡◌, refl, sym, ap, ◌∙◌}
use mathlib.Core.Logic.{inl, inr}
use mathlib.Core.Bool.{cond}
use Prim.Native.Nat.{ℕ, ◌+◌, ◌≤◌, ◌<◌}
use native.Mathlib.Decide.{ℕ_discrete, dec_lt}
use native.Mathlib.Omega.{arith}
use borrow.Author.Tests.{eq-eqb, ne_eqb}
use lib.Dec.{eqb}
use Rattle.circulation.specs.laws.Picks.{pick_yes, pick_no}
use Rattle.network.specs.Packed.{flow_zero}
use Rattle.network.specs.Nodes.{deficit_zero}

-- a where the place o in the order is not 0, else 0
keep : ℕ → ℕ → ℕ
keep o a = cond (eqb o 0) 0 a

-- a reached node keeps it
keep_in : (o a : ℕ) → 0 < o → keep o a ≡ a
unfolding keep
keep_in o a l = rw (ne_eqb o 0 (λ e. omega arith))

-- another does not
keep_out : (o a : ℕ) → o ≡ 0 → keep o a ≡ 0
unfolding keep
keep_out o a e = rw (eq-eqb o 0 e)

-- it may be taken term by term
keep_sum : (o m : ℕ) (f : ℕ → ℕ) → keep o (sum_to m f) ≡ sum_to m (λ i. keep o (f i))
keep_sum o m f = go (ℕ_discrete o 0)
  where
    go : Dec (o ≡ 0) → keep o (sum_to m f) ≡ sum_to m (λ i. keep o (f i))
    go (yes e) =
        keep_out o (sum_to m f) e
        ∙ sym (sum_to_eq m (λ i. keep o (f i)) (λ i. 0) (λ i l. keep_out o (f i) e) ∙ sum_to_zero m)
    go (no ne) =
        keep_in o (sum_to m f) (omega arith)
        ∙ sym (sum_to_eq m (λ i. keep o (f i)) f (λ i l. keep_in o (f i) (omega arith)))

-- of all nodes only one is picked
keep_pick : (n u a : ℕ) (order : ℕ → ℕ) → u < n → sum_to n (λ v. keep (order v) (pick u v a)) ≡ keep (order u) a
keep_pick n u a order l = omega (
  arith,
  sum_to_change n (λ v. keep (order v) (pick u v a)) (λ v. 0) u l
      (λ w w-in ne. none (order w) (pick u w a) (pick_no u w a (λ e. ne (sym e)))),
  sum_to_zero n,
  ap (keep (order u)) (pick_yes u u a refl),
)
  where
    none : (o b : ℕ) → b ≡ 0 → keep o b ≡ 0
    none o b z = go (ℕ_discrete o 0)
      where
        go : Dec (o ≡ 0) → keep o b ≡ 0
        go (yes e) = keep_out o b e
        go (no ne) = keep_in o b (omega arith) ∙ z

-- the flows at the reached nodes are those of the arcs that end there
keep_flow : (n m : ℕ) (ends x order : ℕ → ℕ) → ((i : ℕ) → i < m → ends i < n)
    → sum_to n (λ v. keep (order v) (flow m ends x v)) ≡ sum_to m (λ i. keep (order (ends i)) (x i))
keep_flow n m ends x order inside =
    sum_to_eq n (λ v. keep (order v) (flow m ends x v)) (λ v. sum_to m (λ i. keep (order v) (pick (ends i) v (x i))))
    (λ v l. keep_sum (order v) m (λ i. pick (ends i) v (x i)))
    ∙ sum_to_swap n m (λ v i. keep (order v) (pick (ends i) v (x i)))
    ∙ sum_to_eq m (λ i. sum_to n (λ v. keep (order v) (pick (ends i) v (x i)))) (λ i. keep (order (ends i)) (x i))
    (λ i l. keep_pick n (ends i) (x i) order (inside i l))

-- and summand by summand
keep_add : (o a b : ℕ) → keep o (a + b) ≡ keep o a + keep o b
keep_add o a b = go (ℕ_discrete o 0)
  where
    go : Dec (o ≡ 0) → keep o (a + b) ≡ keep o a + keep o b
    go (yes e) = omega (arith, keep_out o (a + b) e, keep_out o a e, keep_out o b e)
    go (no ne) = omega (arith, keep_in o (a + b) (omega arith), keep_in o a (omega arith), keep_in o b (omega arith))

module _ (N : Net) (n : ℕ) (p x order e : ℕ → ℕ) (wf : WellFormed N n) (limited : Limited N) (slack : Slack N p x)
    (deficits : Deficits N n x e)
    (none : (i : ℕ) → i < arcs N → Crosses N p x order i → ⊥) where
  -- no arc that ends in the set carries flow out of it
  crossing : (i : ℕ) → i < arcs N
      → keep (order (tail N i)) (x i) + keep (order (head N i)) flow_zero
      ≤ keep (order (head N i)) (x i) + keep (order (tail N i)) flow_zero
  crossing i l = go (ℕ_discrete (order (tail N i)) 0) (ℕ_discrete (order (head N i)) 0)
    where
      full : 0 < order (head N i) → order (tail N i) ≡ 0 → flow_zero ≤ x i
      full from to = try (dec_lt (asks N p i) (stands N p i)) (dec_lt (x i) (high N i))
        where
          try : Dec (asks N p i < stands N p i) → Dec (x i < high N i) → flow_zero ≤ x i
          try (yes more) b = omega (arith, slack.right i l more, (limited.each i l).high_in.bottom)
          try (no le) (yes residual) = absurd (none i l (inl (record { from = from; to = to; slack = omega arith; residual = residual })))
          try (no le) (no all) = omega (arith, (limited.each i l).high_in.bottom)

      empty : 0 < order (tail N i) → order (head N i) ≡ 0 → x i ≤ flow_zero
      empty from to = try (dec_lt (stands N p i) (asks N p i)) (dec_lt (low N i) (x i))
        where
          try : Dec (stands N p i < asks N p i) → Dec (low N i < x i) → x i ≤ flow_zero
          try (yes less) b = omega (arith, slack.left i l less, (limited.each i l).low_in.top)
          try (no le) (yes residual) = absurd (none i l (inr (record { from = from; to = to; slack = omega arith; residual = residual })))
          try (no le) (no all) = omega (arith, (limited.each i l).low_in.top)

      go : Dec (order (tail N i) ≡ 0) → Dec (order (head N i) ≡ 0)
          → keep (order (tail N i)) (x i) + keep (order (head N i)) flow_zero
          ≤ keep (order (head N i)) (x i) + keep (order (tail N i)) flow_zero
      go (yes te) (yes he) = omega (arith, keep_out (order (tail N i)) (x i) te, keep_out (order (head N i)) flow_zero he)
      go (yes te) (no hn) =
          omega (
            arith,
            keep_out (order (tail N i)) (x i) te,
            keep_in (order (head N i)) flow_zero (omega arith),
            keep_in (order (head N i)) (x i) (omega arith),
            full (omega arith) te,
          )
      go (no tn) (yes he) =
          omega (
            arith,
            keep_in (order (tail N i)) (x i) (omega arith),
            keep_in (order (tail N i)) flow_zero (omega arith),
            keep_out (order (head N i)) flow_zero he,
            empty (omega arith) he,
          )
      go (no tn) (no hn) = omega (
        arith,
        keep_in (order (tail N i)) (x i) (omega arith),
        keep_in (order (tail N i)) flow_zero (omega arith),
        keep_in (order (head N i)) (x i) (omega arith),
        keep_in (order (head N i)) flow_zero (omega arith),
      )

  -- where no arc crosses, no more flows out of the reached nodes than in
  kept_out : sum_to n (λ v. keep (order v) (outflow N (arcs N) x v)) ≤ sum_to n (λ v. keep (order v) (inflow N (arcs N) x v))
  kept_out = omega (
    arith,
    sum_to_eq n (λ v. keep (order v) (outflow N (arcs N) x v)) (λ v. keep (order v) (flow (arcs N) (tail N) x v) + keep (order v)
        (flow (arcs N) (head N) (λ i. flow_zero) v)) (λ v l. keep_add (order v) (flow (arcs N) (tail N) x v)
        (flow (arcs N) (head N) (λ i. flow_zero) v)),
    sum_to_eq n (λ v. keep (order v) (inflow N (arcs N) x v)) (λ v. keep (order v) (flow (arcs N) (head N) x v) + keep (order v)
        (flow (arcs N) (tail N) (λ i. flow_zero) v)) (λ v l. keep_add (order v) (flow (arcs N) (head N) x v)
        (flow (arcs N) (tail N) (λ i. flow_zero) v)),
    sum_to_add n (λ v. keep (order v) (flow (arcs N) (tail N) x v)) (λ v. keep (order v) (flow (arcs N) (head N) (λ i. flow_zero) v)),
    sum_to_add n (λ v. keep (order v) (flow (arcs N) (head N) x v)) (λ v. keep (order v) (flow (arcs N) (tail N) (λ i. flow_zero) v)),
    keep_flow n (arcs N) (tail N) x order (λ i l. (wf.arc_in i l).tail_in),
    keep_flow n (arcs N) (head N) x order (λ i l. (wf.arc_in i l).head_in),
    keep_flow n (arcs N) (tail N) (λ i. flow_zero) order (λ i l. (wf.arc_in i l).tail_in),
    keep_flow n (arcs N) (head N) (λ i. flow_zero) order (λ i l. (wf.arc_in i l).head_in),
    sum_to_le (arcs N) (λ i. keep (order (tail N i)) (x i) + keep (order (head N i)) flow_zero)
        (λ i. keep (order (head N i)) (x i) + keep (order (tail N i)) flow_zero) crossing,
    sum_to_add (arcs N) (λ i. keep (order (tail N i)) (x i)) (λ i. keep (order (head N i)) flow_zero),
    sum_to_add (arcs N) (λ i. keep (order (head N i)) (x i)) (λ i. keep (order (tail N i)) flow_zero),
  )

  -- a node with a deficit, where no reached node has an excess: impossible
  pub no_deficit : ((v : ℕ) → v < n → 0 < order v → deficit_zero ≤ e v) → (s : ℕ) → s < n → 0 < order s → deficit_zero < e s → ⊥
  no_deficit full s s_in reached more = omega (
    arith,
    kept_out,
    sum_to_lt n (λ v. keep (order v) (inflow N (arcs N) x v)) (λ v. keep (order v) (outflow N (arcs N) x v))
        (λ v l. one v l (ℕ_discrete (order v) 0)) s s_in
        (omega (
          arith,
          keep_in (order s) (inflow N (arcs N) x s) reached,
          keep_in (order s)
              (outflow N (arcs N) x s) reached,
          deficits.each s s_in,
        )),
  )
    where
      one : (v : ℕ) → v < n → Dec (order v ≡ 0) → keep (order v) (inflow N (arcs N) x v) ≤ keep (order v) (outflow N (arcs N) x v)
      one v l (yes e0) = omega (arith, keep_out (order v) (inflow N (arcs N) x v) e0)
      one v l (no ne) =
          omega (
            arith,
            keep_in (order v) (inflow N (arcs N) x v) (omega arith),
            keep_in (order v) (outflow N (arcs N) x v) (omega arith),
            deficits.each v l,
            full v l (omega arith),
          )
