-- After a walk the deficits of its two ends are counted: the state is one again, and d less is left to move.
use Rattle.network.specs.laws.SumsTo.{sum_to_eq, sum_to_add}
use Rattle.network.specs.Net.{at, Net}
use Rattle.circulation.specs.inside.Slackness.{pick}
use Rattle.circulation.specs.inside.Stores.{Apart}
use Rattle.circulation.specs.inside.Steps.{ReachedAt, Augments}
use Rattle.circulation.specs.laws.Columns.{column_length}
use Rattle.circulation.specs.inside.Search.{total_deficit, State, Reached, Amount, Walked}
use mathlib.Core.Path.{◌≡◌, refl, sym, subst, ap, ◌∙◌}
use mathlib.Core.List.{List}
use Prim.Native.Nat.{ℕ, ◌+◌, ◌-◌, ◌/◌, ◌≤◌, ◌<◌}
use native.Mathlib.Decide.{ℕ_discrete}
use native.Mathlib.Omega.{arith}
use lib.ListN.{length}
use Rattle.circulation.proofs.laws.Flows.{sum_pick}
use Rattle.circulation.specs.laws.Picks.{pick_yes, pick_no}
use Rattle.network.specs.Nodes.{potentials, deficits, residuals, node_stride, deficit_zero}
use Rattle.circulation.proofs.laws.Amounts.{amount_most}

-- the deficits of the two ends are counted: the state is one again, and d less is left to move
module _ {N : Net} {s t d : ℕ} {p x₀ x e order parent residual : List ℕ} (e' : List ℕ) (r : Reached N s t p x₀ e order parent residual)
    (a : Amount s t d (at e) (at residual))
    (w : Walked N s t d p e x₀ x) (e_size : length e' ≡ length e) (c : (v : ℕ) → at e' v + pick s v d ≡ at e v + pick t v d) where
  -- s's deficit is as much
  pub source_fits : d + deficit_zero ≤ at e s
  source_fits = (amount_most r d a).0

  -- s is not t
  not_t : s ≡ t → ⊥
  not_t same = omega (arith, source_fits, r.excess, ap (at e) same)

  -- the deficit of s
  at_s : at e' s + d ≡ at e s
  at_s = omega (arith, c s, pick_yes s s d refl, pick_no t s d (λ same. not_t (sym same)))

  -- the deficit of t
  at_t : at e' t ≡ at e t + d
  at_t = omega (arith, c t, pick_no s t d not_t, pick_yes t t d refl)

  -- the deficit of any other
  at_y : (y : ℕ) → (y ≡ s → ⊥) → (y ≡ t → ⊥) → at e' y ≡ at e y
  at_y y ne-s ne-t = omega (arith, c y, pick_no s y d (λ same. ne-s (sym same)), pick_no t y d (λ same. ne-t (sym same)))

  -- what a node adds to the total deficit
  less_at : (y : ℕ) → (at e' y - deficit_zero) + pick s y d ≡ at e y - deficit_zero
  less_at y = go (ℕ_discrete y s) (ℕ_discrete y t)
    where
      go : Dec (y ≡ s) → Dec (y ≡ t) → (at e' y - deficit_zero) + pick s y d ≡ at e y - deficit_zero
      go (yes is) z = omega (arith, ap (at e) is, ap (at e') is, at_s, source_fits, pick_yes s y d (sym is))
      go (no ne) (yes is) = omega (arith, ap (at e) is, ap (at e') is, at_t, a.excess_fits, pick_no s y d (λ same. ne (sym same)))
      go (no ne) (no nt) = omega (arith, at_y y ne nt, pick_no s y d (λ same. ne (sym same)))

  -- d less is left to move
  pub less_left : total_deficit (length p) (at e') + d ≡ total_deficit (length p) (at e)
  less_left = omega (
    arith,
    sum_to_add (length p) (λ y. at e' y - deficit_zero) (λ y. pick s y d),
    sum_pick (length p) s d r.tree.s_in,
    sum_to_eq (length p) (λ y. (at e' y - deficit_zero) + pick s y d) (λ y. at e y - deficit_zero) (λ y l. less_at y),
  )

  -- the state is one again
  pub augmented : State N p x e'
  augmented = record {
    wf = r.state.wf;
    limited = r.state.limited;
    x_size = w.size_same ∙ r.state.x_size;
    e_size = e_size ∙ r.state.e_size;
    p_in = r.state.p_in;
    calm = λ y l few. r.state.calm y l (was_excess y few (ℕ_discrete y s) (ℕ_discrete y t));
    slack = w.slack;
    deficits_are = record { each = λ y l. omega (arith, w.moved y l, c y) };
    spare_high = λ i l hard. omega (arith, less_left, r.state.spare_high i l hard, (w.steps i).0);
    spare_low = λ i l hard. omega (arith, less_left, r.state.spare_low i l hard, (w.steps i).1);
  }
    where
      was_excess : (y : ℕ) → at e' y < deficit_zero → Dec (y ≡ s) → Dec (y ≡ t) → at e y < deficit_zero
      was_excess y few (yes is) z = absurd (omega (arith, ap (at e') is, at_s, source_fits))
      was_excess y few (no ne) (yes is) = omega (arith, ap (at e) is, r.excess)
      was_excess y few (no ne) (no nt) = omega (arith, at_y y ne nt)

-- the same over packed nodes
pub augments : {N : Net} {s t d : ℕ} {x₀ x nodes : List ℕ} (new : List ℕ) → ReachedAt N s t x₀ nodes
    → Amount s t d (at (deficits nodes)) (at (residuals nodes))
    → Walked N s t d (potentials nodes) (deficits nodes) x₀ x → ((v : ℕ)
    → at (deficits new) v + pick s v d ≡ at (deficits nodes) v + pick t v d) → Apart 1 nodes new → Augments N x nodes new
augments {N} {s} {t} {d} {x₀} {x} {nodes} new r a w c only = record {
  state =
      subst (λ (l : List ℕ). State N l x (deficits new)) (sym (only.others 0 (omega arith) (λ e. omega arith)))
      (augmented (deficits new) r a w e_size c);
  less =
      omega (
        arith,
        at_size (length new / node_stride) (deficits new) (omega (arith, column_length 0 nodes, only.length_same)),
        at_size (length nodes / node_stride) (deficits nodes) (column_length 0 nodes),
        less_left (deficits new) r a w e_size c,
        a.some,
      );
  length_same = only.length_same;
}
  where
    e_size : length (deficits new) ≡ length (deficits nodes)
    e_size = omega (arith, column_length 1 new, column_length 1 nodes, only.length_same)

    at_size : (n : ℕ) (e : List ℕ) → length (potentials nodes) ≡ n
        → total_deficit (length (potentials nodes)) (at e) ≡ total_deficit n (at e)
    at_size n e is = ap (λ (k : ℕ). total_deficit k (at e)) is
