-- A search keeps its invariants, and finds an excess: potentials of nodes not reached do not rise, so nodes with
-- an excess stay low.
use Rattle.network.specs.laws.SumsTo.{sum_to_change, sum_to_lt}
use Rattle.network.specs.Net.{at, Net, arcs}
use Rattle.network.specs.Sums.{sum_to}
use Rattle.circulation.specs.inside.Slackness.{inflow, outflow, Slack, Balanced, Low}
use Rattle.network.specs.WellFormed.{WellFormed}
use Rattle.circulation.specs.Input.{Limited}
use Rattle.circulation.specs.inside.Search.{Grown, Crossing, unreached, State, Reached}
use Rattle.circulation.specs.inside.Steps.{Extends}
use mathlib.Core.Path.{◌≡◌, refl, ap, ◌∙◌}
use mathlib.Core.Bool.{cond}
use mathlib.Core.List.{List}
use Prim.Native.Nat.{ℕ, zero, suc, ◌+◌, ◌≤◌, ◌<◌}
use native.Mathlib.Decide.{ℕ_discrete, dec_lt}
use native.Mathlib.Omega.{arith}
use borrow.Author.Tests.{eq-eqb, ne_eqb}
use lib.Dec.{eqb}
use lib.ListN.{length, get_or-eq_default}
use lib.Seq.{get_or-set_same, get_or-set_other}
use Rattle.circulation.proofs.laws.Flows.{in_is_out}
use Rattle.circulation.proofs.laws.Bounds.{search_top}
use Rattle.circulation.proofs.laws.Cuts.{no_deficit}
use Rattle.network.specs.Packed.{flow_zero}
use Rattle.network.specs.Nodes.{deficit_zero}
use Rattle.circulation.specs.Limits.{rested_limit}

-- no node is reached
all_unreached : (n : ℕ) (order : ℕ → ℕ) → ((v : ℕ) → order v ≡ 0) → unreached n order ≡ n
unfolding sum_to
all_unreached zero order z = refl
all_unreached (suc n) order z =
    let one : ◌≡◌ {A = ℕ} (cond (eqb (order n) 0) 1 0) 1 = rw (eq-eqb (order n) 0 (z n)) in
    omega (arith, all_unreached n order z, one)

-- what the search keeps; p₀ are the potentials that it started from
pub record Searching (N : Net) (s count : ℕ) (p₀ p x e order parent residual : List ℕ) : Type 0 where
  pub state : State N p₀ x e
  pub root_fits : at residual s + deficit_zero ≤ at e s
  pub size_same : length p ≡ length p₀
  pub grown : Grown N s count p x order parent residual
  pub full : (v : ℕ) → v < length p → 0 < at order v → deficit_zero ≤ at e v
  pub kept : (v : ℕ) → v < length p → at order v ≡ 0 → at p v ≡ at p₀ v

-- a search that has reached only s
module _ {N : Net} (p x order parent residual : List ℕ) (s : ℕ) (s_in : s < length p) (wf : WellFormed N (length p)) (limited : Limited N)
    (x_size : length x ≡ arcs N) (small : Low (at p)) (slack : Slack N (at p) (at x))
    (order_size : length order ≡ length p) (parent_size : length parent ≡ length p) (residual_size : length residual ≡ length p)
    (root : at order s ≡ 1) (alone : (v : ℕ) → (v ≡ s → ⊥) → at order v ≡ 0) (some : 0 < at residual s) where
  -- no other node is reached
  only : (v : ℕ) → 0 < at order v → v ≡ s
  only v r = elim (ℕ_discrete v s) [
    | yes e ↦ e
    | no ne ↦ absurd (omega (arith, alone v ne))
  ]

  -- all others are not
  rest : unreached (length p) (at order) + 1 ≡ length p
  rest =
      let one : ◌≡◌ {A = ℕ} (cond (eqb 0 0) 1 0) 1 = refl in
      let none : ◌≡◌ {A = ℕ} (cond (eqb (at order s) 0) 1 0) 0 = rw (ne_eqb (at order s) 0 (λ e. omega arith)) in
      omega (
        arith,
        sum_to_change (length p) (λ v. cond (eqb (at order v) 0) 1 0) (λ v. cond (eqb 0 0) 1 0) s s_in
            (λ v l ne. ap (λ (o : ℕ). cond (eqb o 0) 1 0) (alone v ne)),
        all_unreached (length p) (λ v. 0) (λ v. refl),
        one,
        none,
      )

  -- the search at its start
  pub begin_grown : Grown N s 1 p x order parent residual
  begin_grown = record {
    ready = record { wf = wf; limited = limited; x_size = x_size; order_size = order_size; p_in = λ v. omega (arith, small v) };
    parent_size = parent_size;
    residual_size = residual_size;
    slack = slack;
    tree = record { s_in = s_in; root = root; root_residual = some; links = λ v v_in reached ne. absurd (ne (only v reached)) };
    orders = λ v. elim (ℕ_discrete v s) [
      | yes e ↦ omega (arith, ap (at order) e)
      | no ne ↦ omega (arith, alone v ne)
    ];
    rest = rest;
    near = record { above = λ v l r. omega (arith, ap (at p) (only v r)); below = λ v l r. omega (arith, ap (at p) (only v r)) };
    low = λ v l r. small v;
  }

-- a search that has reached only s keeps what it must
pub search_start : {N : Net} {p x e order parent residual : List ℕ} (s : ℕ) → s < length p → State N p x e
    → length order ≡ length p → length parent ≡ length p → length residual ≡ length p
    → at order s ≡ 1 → ((v : ℕ) → (v ≡ s → ⊥) → at order v ≡ 0) → 0 < at residual s → at residual s + deficit_zero ≤ at e s
    → Searching N s 1 p p x e order parent residual
search_start {N} {p} {x} {e} {order} {parent} {residual} s s_in st order_size parent_size residual_size root alone some fits = record {
  state = st;
  root_fits = fits;
  size_same = refl;
  grown =
      begin_grown p x order parent residual s s_in st.wf st.limited st.x_size st.p_in
      st.slack order_size parent_size residual_size
      root alone some;
  full = λ v l r. elim (ℕ_discrete v s) [
    | yes same ↦ omega (arith, ap (at e) same)
    | no ne ↦ absurd (omega (arith, alone v ne))
  ];
  kept = λ v l z. refl;
}

-- while no reached node has an excess, some arc crosses
pub search_crosses : {N : Net} {s count : ℕ} {p₀ p x e order parent residual : List ℕ}
    → Searching N s count p₀ p x e order parent residual → Crossing N (at p) (at x) (at order)
search_crosses {N} {s} {count} {p₀} {p} {x} {e} {order} g none =
    no_deficit N (length p) (at p) (at x) (at order) (at e) g.grown.ready.wf g.grown.ready.limited g.grown.slack
    (rw g.size_same g.state.deficits_are) none
    g.full s g.grown.tree.s_in (omega (arith, g.grown.tree.root)) (omega (arith, g.root_fits, g.grown.tree.root_residual))

module _ {N : Net} {s count : ℕ} {p₀ p x e order parent residual p' order' parent' residual' : List ℕ} (v : ℕ)
    (g : Searching N s count p₀ p x e order parent residual) (m : Extends N s count x p order p' order' parent' residual' v)
    (same-residual : at residual' s ≡ at residual s) where
  -- who is reached now and is not v was before
  reached_before : (u : ℕ) → 0 < at order' u → (u ≡ v → ⊥) → 0 < at order u
  reached_before u l ne =
      let kept : at order' u ≡ at order u = ap (λ (o : List ℕ). at o u) m.stored ∙ get_or-set_other order v u (count + 1) 0 ne in
      omega arith

  -- the place of v
  here : at order' v ≡ count + 1
  here =
      ap (λ (o : List ℕ). at o v) m.stored
      ∙ get_or-set_same order v (count + 1) 0 (omega (arith, m.v_in, g.grown.ready.order_size))

  -- who is not reached now was not before
  was_not : (u : ℕ) → at order' u ≡ 0 → at order u ≡ 0
  was_not u z = elim (ℕ_discrete u v) [
    | yes e ↦ absurd (omega (arith, here, ap (at order') e))
    | no ne ↦ omega (arith, ap (λ (o : List ℕ). at o u) m.stored, get_or-set_other order v u (count + 1) 0 ne)
  ]

  -- who was not reached has not risen
  kept' : (u : ℕ) → u < length p → at order u ≡ 0 → at p' u ≡ at p₀ u
  kept' u u-in z = m.kept u u-in z ∙ g.kept u u-in z

  -- v has no excess: the search goes on
  pub search_next : deficit_zero ≤ at e v → Searching N s (count + 1) p₀ p' x e order' parent' residual'
  search_next enough = record {
    state = g.state;
    root_fits = omega (arith, g.root_fits);
    size_same = m.size_same ∙ g.size_same;
    grown = m.grown;
    full = λ u u-in l. go u u-in l (ℕ_discrete u v);
    kept = λ u u-in z. kept' u (omega (arith, m.size_same)) (was_not u z);
  }
    where
      go : (u : ℕ) → u < length p' → 0 < at order' u → Dec (u ≡ v) → deficit_zero ≤ at e u
      go u u-in l (yes same) = rw same enough
      go u u-in l (no ne) = g.full u (omega (arith, m.size_same)) (reached_before u l ne)

  -- v has an excess: the search ends
  pub search_found : at e v < deficit_zero → Reached N s v p' x e order' parent' residual'
  search_found less = record {
    state = record {
      wf = m.grown.ready.wf;
      limited = m.grown.ready.limited;
      x_size = g.state.x_size;
      e_size = omega (arith, m.size_same, g.size_same, g.state.e_size);
      p_in = low;
      calm = calm;
      slack = m.grown.slack;
      deficits_are = rw (same_size) g.state.deficits_are;
      spare_high = rw (same_size) g.state.spare_high;
      spare_low = rw (same_size) g.state.spare_low;
    };
    order_size = m.grown.ready.order_size;
    parent_size = m.grown.parent_size;
    residual_size = m.grown.residual_size;
    root_fits = omega (arith, g.root_fits);
    tree = m.grown.tree;
    t_in = omega (arith, m.v_in, m.size_same);
    t_reached = omega (arith, here);
    excess = less;
  }
    where
      same_size : length p' ≡ length p₀
      same_size = m.size_same ∙ g.size_same

      -- v was not reached before, so it has not risen
      v_low : at p' v ≤ flow_zero
      v_low = omega (arith, kept' v m.v_in m.v_new, g.state.calm v (omega (arith, m.v_in, g.size_same)) less)

      low : (u : ℕ) → at p' u ≤ rested_limit
      low u = inside (dec_lt u (length p'))
        where
          reached : u < length p' → Dec (at order' u ≡ 0) → at p' u ≤ rested_limit
          reached u-in (yes z) = m.grown.low u u-in z
          reached u-in (no ne) =
              search_top m.grown.ready.wf.nodes m.grown.near
              (λ w. omega (arith, m.grown.orders w, m.grown.rest)) (omega (arith, m.v_in, m.size_same))
              (omega (arith, here)) v_low u u-in (omega arith)

          inside : Dec (u < length p') → at p' u ≤ rested_limit
          inside (yes l) = reached l (ℕ_discrete (at order' u) 0)
          inside (no past) = omega (arith, get_or-eq_default p' 0 {n = u} (omega arith))

      -- of the reached nodes only v has an excess
      calm : (u : ℕ) → u < length p' → at e u < deficit_zero → at p' u ≤ flow_zero
      calm u u-in few = go (ℕ_discrete u v) (ℕ_discrete (at order' u) 0)
        where
          go : Dec (u ≡ v) → Dec (at order' u ≡ 0) → at p' u ≤ flow_zero
          go (yes e) z = omega (arith, ap (at p') e, v_low)
          go (no ne) (yes z) =
              omega (
                arith,
                kept' u (omega (arith, m.size_same)) (was_not u z),
                g.state.calm u (omega (arith, same_size)) few,
              )
          go (no ne) (no r) = absurd (omega (arith, g.full u (omega (arith, m.size_same)) (reached_before u (omega arith) ne)))

-- no node has a deficit: then none has an excess
pub solved : {N : Net} {p x e : List ℕ} → State N p x e → ((v : ℕ) → v < length p → at e v ≤ deficit_zero)
    → Slack N (at p) (at x) × Balanced N (length p) (at x)
solved {N} {p} {x} {e} s none = (
  s.slack,
  record { balance = λ v v_in. go v v_in (dec_lt (outflow N (arcs N) (at x) v) (inflow N (arcs N) (at x) v)) },
)
  where
    low : (v : ℕ) → v < length p → outflow N (arcs N) (at x) v ≤ inflow N (arcs N) (at x) v
    low v v_in = omega (arith, s.deficits_are.each v v_in, none v v_in)

    go : (v : ℕ) → v < length p → Dec (outflow N (arcs N) (at x) v < inflow N (arcs N) (at x) v)
        → inflow N (arcs N) (at x) v ≡ outflow N (arcs N) (at x) v
    go v v_in (yes less) = absurd (omega (
      arith,
      sum_to_lt (length p) (outflow N (arcs N) (at x)) (inflow N (arcs N) (at x)) low v v_in less,
      in_is_out N (length p) (arcs N) (at x) (λ i l. (s.wf.arc_in i l).tail_in) (λ i l. (s.wf.arc_in i l).head_in),
    ))
    go v v_in (no not-less) = omega (arith, low v v_in)
