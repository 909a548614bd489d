-- The residual over an arc, and a node more that is reached, from what the calls answer.
use Rattle.network.specs.Net.{at, Net, arcs, tail, head}
use Rattle.network.specs.Nodes.{potentials, orders, parents, residuals, size, node_stride}
use Rattle.circulation.specs.inside.Stores.{Apart, Reaches}
use Rattle.circulation.specs.inside.Search.{ResidualOver, Moved, step}
use Rattle.circulation.specs.inside.Steps.{Nearest, GrownAt, Extends, Extended}
use mathlib.Core.Path.{◌≡◌, sym, subst, ap, ◌∙◌}
use mathlib.Core.List.{List}
use Prim.Native.Nat.{ℕ, ◌+◌, ◌/◌, ◌<◌}
use native.Mathlib.Omega.{arith}
use lib.ListN.{length, set}
use lib.Seq.{get_or-set_other}
use Rattle.circulation.specs.laws.Columns.{column_length}
use Rattle.circulation.proofs.laws.Trees.{extends}
use Rattle.network.specs.Limits.{most_nodes}

module _ {N : Net} {s count : ℕ} {x nodes : List ℕ} (g : GrownAt N s count x nodes) (i d : ℕ)
    (near : Nearest N (arcs N) (at (potentials nodes)) (at x) (at (orders nodes)) i) (is-step : d ≡ step N (at (potentials nodes)) i)
    (one : List ℕ) (m : Moved (length nodes / node_stride) d (at (orders nodes)) (at (potentials nodes)) (at (potentials one)))
    (only : Apart 0 nodes one)
    (v : ℕ) (at_head : at (orders one) (head N i) ≡ 0 → v ≡ head N i) (at_tail : 0 < at (orders one) (head N i) → v ≡ tail N i)
    (r : ℕ) (over : ResidualOver N (at x) (at (residuals one)) i v r) where
  -- the order is as before the step
  same_orders : orders one ≡ orders nodes
  same_orders = only.others 2 (omega arith) (λ e. omega arith)

  -- the parents
  same_parents : parents one ≡ parents nodes
  same_parents = only.others 3 (omega arith) (λ e. omega arith)

  -- and the residuals
  same_residuals : residuals one ≡ residuals nodes
  same_residuals = only.others 4 (omega arith) (λ e. omega arith)

  -- the search with one node more, over lists
  ext : Extends N s count x (potentials nodes) (orders nodes) (potentials one) (set (orders nodes) v (count + 1))
      (set (parents nodes) v i) (set (residuals nodes) v r) v
  ext = extends g i d near is-step v r (subst (λ (l : List ℕ). ResidualOver N (at x) (at l) i v r) same_residuals over) (potentials one)
      (omega (arith, column_length 0 one, column_length 0 nodes, only.length_same))
      (subst (λ (n : ℕ). Moved n d (at (orders nodes)) (at (potentials nodes)) (at (potentials one))) (sym (column_length 0 nodes)) m)
      (subst (λ (l : List ℕ). at l (head N i) ≡ 0 → v ≡ head N i) same_orders at_head)
      (subst (λ (l : List ℕ). 0 < at l (head N i) → v ≡ tail N i) same_orders at_tail)

  -- the new end is a node
  pub far_in : v < length nodes / node_stride
  far_in = omega (arith, ext.v_in, column_length 0 nodes)

  -- the search with one node more, over packed nodes
  pub extended : (new : List ℕ) → Reaches v (count + 1) i r one new → Extended N s count x nodes new v
  extended new h = record {
    extends = rw (h.potentials_same, h.orders_set, h.parents_set, h.residuals_set, same_orders, same_parents, same_residuals) ext;
    length_same = h.length_same ∙ only.length_same;
    deficits_same = h.deficits_same ∙ only.others 1 (omega arith) (λ e. omega arith);
    root_residual =
        ap (λ (l : List ℕ). at l s) h.residuals_set
        ∙ (get_or-set_other (residuals one) v s r 0 (λ e. ext.v_root (sym e)) ∙ ap (λ (l : List ℕ). at l s) same_residuals);
  }

-- the node that is reached is there, and so is number k of it
pub new_there : {N : Net} {s count v k : ℕ} {x old new : List ℕ} → GrownAt N s count x old → Extended N s count x old new v
    → k < node_stride → (v < size new) × (v < most_nodes) × (k < node_stride)
new_there {old = old} g e k-in = (
  omega (arith, e.extends.v_in, column_length 0 old, e.length_same),
  omega (arith, e.extends.v_in, g.ready.wf.nodes),
  k-in,
)
