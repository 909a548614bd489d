-- Packed numbers as columns: a store changes one place of one column. By extensionality of lists.
use Rattle.network.specs.Net.{at}
use Rattle.circulation.specs.laws.Columns.{column_length, column_at, column_past}
use Rattle.network.specs.Nodes.{column, orders, residuals, node_stride}
use Rattle.circulation.specs.inside.Stores.{Stored, Apart, Reaches, Begun}
use mathlib.Core.Path.{◌≡◌, refl, sym, ap, ◌∙◌}
use mathlib.Core.List.{List}
use Prim.Native.Nat.{ℕ, ◌+◌, ◌*◌, ◌/◌, ◌≤◌, ◌<◌}
use native.Mathlib.Decide.{ℕ_discrete, dec_lt}
use native.Mathlib.Omega.{arith}
use borrow.Author.Count.{below_none, below_more}
use lib.ListN.{length, set, length-set}
use lib.Seq.{get_or-set_same, get_or-set_other, set-get_or, ext_get_or}

module _ (k v a : ℕ) (nodes : List ℕ) (k-in : k < node_stride) (v_in : v < length nodes / node_stride) where
  -- a store keeps the count of nodes
  size_same : length (set nodes (node_stride * v + k) a) / node_stride ≡ length nodes / node_stride
  size_same = simp length-set refl

  -- the column of the store
  same : column k (set nodes (node_stride * v + k) a) ≡ set (column k nodes) v a
  same = ext_get_or 0 (column k (set nodes (node_stride * v + k) a)) (set (column k nodes) v a)
      (column_length k (set nodes (node_stride * v + k) a)
      ∙ (size_same ∙ (sym (column_length k nodes) ∙ sym (length-set (column k nodes) v a))))
      (λ i l. each i (omega (arith, column_length k (set nodes (node_stride * v + k) a), size_same)))
    where
      each : (i : ℕ) → i < length nodes / node_stride
          → at (column k (set nodes (node_stride * v + k) a)) i ≡ at (set (column k nodes) v a) i
      each i l = column_at k (set nodes (node_stride * v + k) a) i (omega (arith, size_same)) ∙ go (ℕ_discrete i v)
        where
          go : Dec (i ≡ v) → at (set nodes (node_stride * v + k) a) (node_stride * i + k) ≡ at (set (column k nodes) v a) i
          go (yes e) =
              rw e
              (get_or-set_same nodes (node_stride * v + k) a 0 (omega arith)
              ∙ sym (get_or-set_same (column k nodes) v a 0 (omega (arith, column_length k nodes))))
          go (no ne) =
              get_or-set_other nodes (node_stride * v + k) (node_stride * i + k) a 0 (λ e. ne (omega arith))
              ∙ (sym (column_at k nodes i l) ∙ sym (get_or-set_other (column k nodes) v i a 0 ne))

  -- and the other columns
  other : (j : ℕ) → j < node_stride → (j ≡ k → ⊥) → column j (set nodes (node_stride * v + k) a) ≡ column j nodes
  other j j-in ne = ext_get_or 0 (column j (set nodes (node_stride * v + k) a)) (column j nodes)
      (column_length j (set nodes (node_stride * v + k) a) ∙ (size_same ∙ sym (column_length j nodes)))
      (λ i l. each i (omega (arith, column_length j (set nodes (node_stride * v + k) a), size_same)))
    where
      each : (i : ℕ) → i < length nodes / node_stride
          → at (column j (set nodes (node_stride * v + k) a)) i ≡ at (column j nodes) i
      each i l =
          column_at j (set nodes (node_stride * v + k) a) i (omega (arith, size_same))
          ∙ (get_or-set_other nodes (node_stride * v + k) (node_stride * i + j) a 0 (λ e. ne (omega arith)) ∙ sym (column_at j nodes i l))

  -- what a store changes
  pub stored : Stored k v a nodes (set nodes (node_stride * v + k) a)
  stored = record { same = same; others = other; length_same = length-set nodes (node_stride * v + k) a }

-- nothing has changed yet
pub apart_start : (k : ℕ) (nodes : List ℕ) → Apart k nodes nodes
apart_start k nodes = record { others = λ j l ne. refl; length_same = refl }

-- a store into a column of which only it changed
pub apart_next : {k v a : ℕ} {old mid new : List ℕ} → Apart k old mid → Stored k v a mid new → Apart k old new
apart_next m s = record { others = λ j l ne. s.others j l ne ∙ m.others j l ne; length_same = s.length_same ∙ m.length_same }

-- a store of what stands there
pub stored_same : (k v a : ℕ) (nodes : List ℕ) → a ≡ at (column k nodes) v → Stored k v a nodes nodes
stored_same k v a nodes e = record {
  same = sym (ap (λ (b : ℕ). set (column k nodes) v b) e ∙ set-get_or (column k nodes) v 0);
  others = λ j l ne. refl;
  length_same = refl;
}

-- the k-th numbers of the first v nodes are a
pub record Filling (k a : ℕ) (nodes₀ nodes : List ℕ) (v : ℕ) : Type 0 where
  pub v_in : v ≤ length nodes₀ / node_stride
  pub only : Apart k nodes₀ nodes
  pub filled : (u : ℕ) → u < v → at (column k nodes) u ≡ a

module _ {k a : ℕ} {nodes₀ : List ℕ} where
  -- none is filled at first
  pub fill_start : Filling k a nodes₀ nodes₀ 0
  fill_start = record { v_in = omega arith; only = apart_start k nodes₀; filled = below_none _ }

  -- one more is
  pub fill_next : {nodes : List ℕ} {v : ℕ} (new : List ℕ) → Filling k a nodes₀ nodes v → v < length nodes₀ / node_stride
      → Stored k v a nodes new → Filling k a nodes₀ new (v + 1)
  fill_next {nodes} {v} new f l s = record {
    v_in = omega arith;
    only = apart_next f.only s;
    filled = below_more _ v
        (λ u below. ap (λ (o : List ℕ). at o u) s.same ∙ (get_or-set_other (column k nodes) v u a 0 (omega arith) ∙ f.filled u below))
        (ap (λ (o : List ℕ). at o v) s.same
        ∙ get_or-set_same (column k nodes) v a 0 (omega (arith, column_length k nodes, f.only.length_same)));
  }

-- a column that is filled with 0 is 0 everywhere
pub fill_zeros : {k : ℕ} {old new : List ℕ} → ((v : ℕ) → v < length old / node_stride → at (column k new) v ≡ 0)
    → Apart k old new → (u : ℕ) → at (column k new) u ≡ 0
fill_zeros {k} {old} {new} f a u = go (dec_lt u (length old / node_stride))
  where
    go : Dec (u < length old / node_stride) → at (column k new) u ≡ 0
    go (yes l) = f u l
    go (no out) = column_past k new u (omega (arith, a.length_same))

-- three stores at a node
pub reaches : {v order parent residual : ℕ} {old one two new : List ℕ} → Stored 2 v order old one → Stored 3 v parent one two
    → Stored 4 v residual two new → Reaches v order parent residual old new
reaches {v} {order} {parent} {residual} a b c = record {
  length_same = c.length_same ∙ (b.length_same ∙ a.length_same);
  potentials_same =
      c.others 0 (omega arith) (λ e. omega arith)
      ∙ (b.others 0 (omega arith) (λ e. omega arith) ∙ a.others 0 (omega arith) (λ e. omega arith));
  deficits_same =
      c.others 1 (omega arith) (λ e. omega arith)
      ∙ (b.others 1 (omega arith) (λ e. omega arith) ∙ a.others 1 (omega arith) (λ e. omega arith));
  orders_set = c.others 2 (omega arith) (λ e. omega arith) ∙ (b.others 2 (omega arith) (λ e. omega arith) ∙ a.same);
  parents_set =
      c.others 3 (omega arith) (λ e. omega arith)
      ∙ (b.same ∙ ap (λ (l : List ℕ). set l v parent) (a.others 3 (omega arith) (λ e. omega arith)));
  residuals_set =
      c.same
      ∙ ap (λ (l : List ℕ). set l v residual)
      (b.others 4 (omega arith) (λ e. omega arith) ∙ a.others 4 (omega arith) (λ e. omega arith));
}

-- the order cleared, and one node reached
pub begun : {s residual : ℕ} {old one two new : List ℕ} → s < length old / node_stride → ((v : ℕ) → at (orders one) v ≡ 0)
    → Apart 2 old one → Stored 2 s 1 one two → Stored 4 s residual two new → Begun s residual old new
begun {s} {residual} {old} {one} {two} {new} s_in zeros a b c = record {
  length_same = c.length_same ∙ (b.length_same ∙ a.length_same);
  potentials_same =
      c.others 0 (omega arith) (λ e. omega arith)
      ∙ (b.others 0 (omega arith) (λ e. omega arith) ∙ a.others 0 (omega arith) (λ e. omega arith));
  deficits_same =
      c.others 1 (omega arith) (λ e. omega arith)
      ∙ (b.others 1 (omega arith) (λ e. omega arith) ∙ a.others 1 (omega arith) (λ e. omega arith));
  root =
      ap (λ (l : List ℕ). at l s) order_set
      ∙ get_or-set_same (orders one) s 1 0 (omega (arith, column_length 2 one, a.length_same));
  alone = λ v ne. ap (λ (l : List ℕ). at l v) order_set ∙ (get_or-set_other (orders one) s v 1 0 ne ∙ zeros v);
  root_residual =
      ap (λ (l : List ℕ). at l s) c.same
      ∙ get_or-set_same (residuals two) s residual 0 (omega (arith, column_length 4 two, b.length_same, a.length_same));
}
  where
    order_set : orders new ≡ set (orders one) s 1
    order_set = c.others 2 (omega arith) (λ e. omega arith) ∙ b.same

-- one after the other
pub apart_join : {k : ℕ} {old mid new : List ℕ} → Apart k old mid → Apart k mid new → Apart k old new
apart_join a b = record { others = λ j l ne. b.others j l ne ∙ a.others j l ne; length_same = b.length_same ∙ a.length_same }
