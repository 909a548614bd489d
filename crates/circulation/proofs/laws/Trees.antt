-- One node more is reached: its arc is tight after the step, and the tree, the order and the nearness to the source stay.
use Rattle.network.specs.laws.SumsTo.{at_set, sum_to_set}
use Rattle.network.specs.Net.{at, Net, arcs, tail, head, low, high, stands, asks}
use Rattle.circulation.specs.inside.Search.{Enters, Leaves, ResidualOver, Near, step, Moved, FromHead, FromTail, Link, Grown, unreached}
use Rattle.circulation.specs.inside.Steps.{Nearest, Extends}
use mathlib.Core.Path.{◌≡◌, refl, sym, ap, ◌∙◌}
use mathlib.Core.Bool.{cond}
use mathlib.Core.Logic.{inl, inr, ⊎_elim}
use mathlib.Core.List.{List}
use Prim.Native.Nat.{ℕ, ◌+◌, ◌*◌, ◌≤◌, ◌<◌}
use native.Mathlib.Decide.{ℕ_discrete}
use native.Mathlib.Omega.{arith}
use borrow.Author.Tests.{eq-eqb, ne_eqb}
use lib.Dec.{eqb}
use lib.ListN.{length, set, length-set}
use lib.Seq.{get_or-set_same, get_or-set_other}
use Rattle.circulation.proofs.laws.Moves.{lift_in, lift_out}
use Rattle.circulation.proofs.laws.Slacks.{same_slack}
use Rattle.circulation.proofs.laws.Bounds.{near_link}
use Rattle.network.specs.Packed.{kink_zero}
use Rattle.circulation.specs.Limits.{rested_limit}
use Rattle.circulation.proofs.laws.Growing.{residual_some, raised}

module _ {N : Net} {s count : ℕ} {p x order parent residual : List ℕ} (g : Grown N s count p x order parent residual)
    (i d : ℕ) (near : Nearest N (arcs N) (at p) (at x) (at order) i) (is-step : d ≡ step N (at p) i)
    (v r : ℕ) (over : ResidualOver N (at x) (at residual) i v r) (p' : List ℕ) (size : length p' ≡ length p) (m : Moved (length p) d (at order) (at p) (at p'))
    (at_head : at order (head N i) ≡ 0 → v ≡ head N i) (at_tail : 0 < at order (head N i) → v ≡ tail N i) where
  -- v is a node
  v_in : v < length p
  v_in = ⊎_elim
      (λ c. rw (at_tail c.from) (g.ready.wf.arc_in i near.0).tail_in)
      (λ c. rw (at_head c.to) (g.ready.wf.arc_in i near.0).head_in)
      near.1

  -- that was not reached
  v_none : at order v ≡ 0
  v_none = ⊎_elim (λ c. ap (at order) (at_tail c.from) ∙ c.to) (λ c. ap (at order) (at_head c.to) ∙ c.to) near.1

  -- its place in the order now
  v_stored : at (set order v (count + 1)) v ≡ count + 1
  v_stored = get_or-set_same order v (count + 1) 0 (omega (arith, v_in, g.ready.order_size))

  -- a reached node is not v, and keeps its place
  not_v : (u : ℕ) → 0 < at order u → u ≡ v → ⊥
  not_v u l e = omega (arith, ap (at order) e, v_none)

  -- any other keeps its place
  kept : (u : ℕ) → (u ≡ v → ⊥) → at (set order v (count + 1)) u ≡ at order u
  kept u ne = get_or-set_other order v u (count + 1) 0 ne

  -- as each reached node does
  kept_order : (u : ℕ) → 0 < at order u → at (set order v (count + 1)) u ≡ at order u
  kept_order u l = kept u (not_v u l)

  -- and its residual
  kept_residual : (u : ℕ) → (u ≡ v → ⊥) → at (set residual v r) u ≡ at residual u
  kept_residual u ne = get_or-set_other residual v u r 0 ne

  -- the residual of v
  v_residual : at (set residual v r) v ≡ r
  v_residual = get_or-set_same residual v r 0 (omega (arith, v_in, g.residual_size))

  -- a reached node has risen by the step
  up : (u : ℕ) → u < length p → 0 < at order u → at p' u ≡ at p u + d
  up u u-in l = m.moved u u-in ∙ lift_in (at order u) (at p u) d l

  -- another has not
  stay : (u : ℕ) → u < length p → at order u ≡ 0 → at p' u ≡ at p u
  stay u u-in e = m.moved u u-in ∙ lift_out (at order u) (at p u) d e

  -- a link of another node is one still
  keep_link : (w j : ℕ) → (w ≡ v → ⊥) → Link N (at p) (at x) (at order) (at residual) w j
      → Link N (at p') (at x) (at (set order v (count + 1))) (at (set residual v r)) w j
  keep_link w j ne l = record { arc_in = l.arc_in; some = omega (arith, kept_residual w ne, l.some); tight = ⊎_elim tight_head tight_tail l.ends; ends = ⊎_elim (λ e. inl (from_head e)) (λ e. inr (from_tail e)) l.ends }
    where
      h_in : head N j < length p
      h_in = (g.ready.wf.arc_in j l.arc_in).head_in

      t_in : tail N j < length p
      t_in = (g.ready.wf.arc_in j l.arc_in).tail_in

      both : 0 < at order (head N j) → 0 < at order (tail N j) → asks N (at p') j ≡ stands N (at p') j
      both lt lh = omega (arith, l.tight, up (head N j) h_in lt, up (tail N j) t_in lh)

      tight_head : FromHead N (at x) (at order) (at residual) w j → asks N (at p') j ≡ stands N (at p') j
      tight_head e = both e.1 (omega (arith, ap (at order) e.0, e.1, e.2))

      tight_tail : FromTail N (at x) (at order) (at residual) w j → asks N (at p') j ≡ stands N (at p') j
      tight_tail e = both (omega (arith, ap (at order) e.0, e.1, e.2)) e.1

      from_head : FromHead N (at x) (at order) (at residual) w j
          → FromHead N (at x) (at (set order v (count + 1))) (at (set residual v r)) w j
      from_head e =
          rw (kept_order (head N j) e.1, kept w ne, kept_residual w ne, kept_residual (head N j) (not_v (head N j) e.1)) e

      from_tail : FromTail N (at x) (at order) (at residual) w j
          → FromTail N (at x) (at (set order v (count + 1))) (at (set residual v r)) w j
      from_tail e =
          rw (kept_order (tail N j) e.1, kept w ne, kept_residual w ne, kept_residual (tail N j) (not_v (tail N j) e.1)) e

  -- arc i is the link of v
  new_link : Link N (at p') (at x) (at (set order v (count + 1))) (at (set residual v r)) v i
  new_link = ⊎_elim entering leaving near.1
    where
      h_in : head N i < length p
      h_in = (g.ready.wf.arc_in i near.0).head_in

      t_in : tail N i < length p
      t_in = (g.ready.wf.arc_in i near.0).tail_in

      below : (u : ℕ) → 0 < at order u
          → (0 < at (set order v (count + 1)) u) × (at (set order v (count + 1)) u < at (set order v (count + 1)) v)
      below u l = (omega (arith, kept_order u l), omega (arith, kept_order u l, v_stored, g.orders u))

      entering : Enters (stands N (at p) i) (asks N (at p) i) (at order (head N i)) (at order (tail N i)) (at x i) (low N i) (high N i)
          → Link N (at p') (at x) (at (set order v (count + 1))) (at (set residual v r)) v i
      entering c =
          let b = below (head N i) c.from in
          let o = over.up (sym (at_tail c.from)) c.residual (residual_some g (head N i) h_in c.from) in
          record {
            arc_in = near.0;
            some = omega (arith, v_residual, o.0);
            tight = omega (arith, is-step, c.slack, up (head N i) h_in c.from, stay (tail N i) t_in c.to);
            ends =
                inl (
                  sym (at_tail c.from),
                  b.0,
                  b.1,
                  omega (arith, v_residual, o.1),
                  omega (arith, v_residual, o.2, kept_residual (head N i) (not_v (head N i) c.from)),
                );
          }

      leaving : Leaves (stands N (at p) i) (asks N (at p) i) (at order (head N i)) (at order (tail N i)) (at x i) (low N i) (high N i)
          → Link N (at p') (at x) (at (set order v (count + 1))) (at (set residual v r)) v i
      leaving c =
          let b = below (tail N i) c.from in
          let o = over.down (not_v (tail N i) c.from) c.residual (residual_some g (tail N i) t_in c.from) in
          record {
            arc_in = near.0;
            some = omega (arith, v_residual, o.0);
            tight = omega (arith, is-step, c.slack, up (tail N i) t_in c.from, stay (head N i) h_in c.to);
            ends =
                inr (
                  sym (at_head c.to),
                  b.0,
                  b.1,
                  omega (arith, v_residual, o.1),
                  omega (arith, v_residual, o.2, kept_residual (tail N i) (not_v (tail N i) c.from)),
                );
          }

  -- each reached node has one
  links' : (w : ℕ) → w < length p → 0 < at (set order v (count + 1)) w → (w ≡ s → ⊥)
      → Link N (at p') (at x) (at (set order v (count + 1))) (at (set residual v r)) w (at (set parent v i) w)
  links' w w-in reached ne = go (ℕ_discrete w v)
    where
      go : Dec (w ≡ v) → Link N (at p') (at x) (at (set order v (count + 1))) (at (set residual v r)) w (at (set parent v i) w)
      go (yes e) =
          let here : at (set parent v i) v ≡ i = get_or-set_same parent v i 0 (omega (arith, v_in, g.parent_size)) in
          rw (e, here) new_link
      go (no other) =
          let same : at (set parent v i) w ≡ at parent w = get_or-set_other parent v w i 0 other in
          rw same (keep_link w (at parent w) other (g.tree.links w w-in (omega (arith, kept w other)) ne))

  -- one node less is not reached
  rest' : unreached (length p) (at (set order v (count + 1))) + (count + 1) ≡ length p
  rest' =
      let one : ◌≡◌ {A = ℕ} (cond (eqb (at order v) 0) 1 0) 1 = rw (eq-eqb (at order v) 0 v_none) in
      let zero' : ◌≡◌ {A = ℕ} (cond (eqb (count + 1) 0) 1 0) 0 = rw (ne_eqb (count + 1) 0 (λ e. omega arith)) in
      omega (arith, sum_to_set (length p) (λ w a. cond (eqb a 0) 1 0) order v (count + 1) v_in (omega (arith, v_in, g.ready.order_size)), g.rest, one, zero')

  -- those that were reached stay near, and v is near by its arc
  near' : Near (length p) s (at (set order v (count + 1))) (at p')
  near' = record { above = λ w l r. (both w l r (ℕ_discrete w v)).0; below = λ w l r. (both w l r (ℕ_discrete w v)).1 }
    where
      old : (w : ℕ) → w < length p → 0 < at (set order v (count + 1)) w → (w ≡ v → ⊥)
          → (at p' w ≤ at p' s + kink_zero * at (set order v (count + 1)) w) × (at p' s ≤ at p' w + kink_zero * at (set order v (count + 1)) w)
      old w l r ne =
          let r' : 0 < at order w = omega (arith, kept w ne) in
          let root : 0 < at order s = omega (arith, g.tree.root) in
          (omega (arith, kept w ne, up w l r', up s g.tree.s_in root, g.near.above w l r'), omega (arith, kept w ne, up w l r', up s g.tree.s_in root, g.near.below w l r'))

      both : (w : ℕ) → w < length p → 0 < at (set order v (count + 1)) w → Dec (w ≡ v)
          → (at p' w ≤ at p' s + kink_zero * at (set order v (count + 1)) w) × (at p' s ≤ at p' w + kink_zero * at (set order v (count + 1)) w)
      both w l r (no ne) = old w l r ne
      both w l r (yes e) =
          rw e
          (near_link v i g.ready.wf new_link
          (λ u u-in u-r less. old u u-in u-r (λ same. omega (arith, ap (at (set order v (count + 1))) same))))

  -- who is not reached has not risen
  low' : (w : ℕ) → w < length p → at (set order v (count + 1)) w ≡ 0 → at p' w ≤ rested_limit
  low' w l z = elim (ℕ_discrete w v) [
    | yes e ↦ absurd (omega (arith, v_stored, ap (at (set order v (count + 1))) e))
    | no ne ↦ omega (arith, kept w ne, stay w l (omega (arith, kept w ne)), g.low w l (omega (arith, kept w ne)))
  ]

  -- the search with v
  pub extends : Extends N s count x p order p' (set order v (count + 1)) (set parent v i) (set residual v r) v
  extends = record {
    v_in = v_in;
    v_new = v_none;
    stored = refl;
    size_same = size;
    v_root = λ e. omega (arith, ap (at order) e, v_none, g.tree.root);
    kept = stay;
    grown = record {
      ready = record {
        wf = rw size g.ready.wf;
        limited = g.ready.limited;
        x_size = g.ready.x_size;
        order_size = simp length-set (omega (arith, g.ready.order_size));
        p_in = m.small;
      };
      parent_size = simp length-set (omega (arith, g.parent_size));
      residual_size = simp length-set (omega (arith, g.residual_size));
      slack = same_slack g.ready.wf m.moved (raised g i d near is-step);
      tree =
          rw size
          (record {
            s_in = g.tree.s_in;
            root = kept_order s (omega (arith, g.tree.root)) ∙ g.tree.root;
            root_residual = omega (arith, kept_residual s (not_v s (omega (arith, g.tree.root))), g.tree.root_residual);
            links = links';
          });
      orders =
          λ u. ⊎_elim (λ e. omega (arith, e.1)) (λ e. omega (arith, e.1, g.orders u))
          (at_set order v (count + 1) u (omega (arith, v_in, g.ready.order_size)));
      rest = rw size rest';
      near = rw size near';
      low = rw size low';
    };
  }
