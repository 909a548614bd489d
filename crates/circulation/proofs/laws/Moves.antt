-- The loop that raises the reached nodes raises exactly these: one store for each node.
use Rattle.network.specs.Net.{at}
use Rattle.circulation.specs.inside.Search.{lift, lifted, Moved}
use Rattle.circulation.specs.inside.Slackness.{Small}
use Rattle.network.specs.Nodes.{potentials, orders, node_stride}
use Rattle.circulation.specs.inside.Stores.{Stored, Apart}
use mathlib.Core.Path.{◌≡◌, ap, ◌∙◌}
use mathlib.Core.Logic.{◌⊎◌, inl, inr, ⊎_elim}
use mathlib.Core.List.{List}
use Prim.Native.Nat.{ℕ, ◌+◌, ◌/◌, ◌≤◌, ◌<◌}
use native.Mathlib.Nat.{le_refl}
use native.Mathlib.Decide.{ℕ_discrete, dec_lt}
use native.Mathlib.Omega.{arith}
use borrow.Author.Count.{below_more}
use borrow.Author.Tests.{eq-eqb, ne_eqb}
use lib.ListN.{length}
use lib.Seq.{get_or-set_same, get_or-set_other}
use Rattle.circulation.specs.laws.Columns.{column_length}
use Rattle.circulation.proofs.laws.Columns.{apart_next}
use Rattle.circulation.specs.Limits.{potential_limit}

-- a reached node rises
pub lift_in : (o a d : ℕ) → 0 < o → lift o a d ≡ a + d
unfolding lift
lift_in o a d l = rw (ne_eqb o 0 (λ e. omega arith))

-- another does not
pub lift_out : (o a d : ℕ) → o ≡ 0 → lift o a d ≡ a
unfolding lift
lift_out o a d e = rw (eq-eqb o 0 e)

-- one of the two
pub lift_cases : (o a d : ℕ) → ((0 < o) × (lift o a d ≡ a + d)) ⊎ ((o ≡ 0) × (lift o a d ≡ a))
lift_cases o a d = go (ℕ_discrete o 0)
  where
    go : Dec (o ≡ 0) → ((0 < o) × (lift o a d ≡ a + d)) ⊎ ((o ≡ 0) × (lift o a d ≡ a))
    go (yes e) = inr (e, lift_out o a d e)
    go (no ne) = inl (omega arith, lift_in o a d (omega arith))

-- the first v potentials are moved
pub record Moving (d : ℕ) (nodes₀ nodes : List ℕ) (v : ℕ) : Type 0 where
  pub v_in : v ≤ length nodes₀ / node_stride
  pub only : Apart 0 nodes₀ nodes
  pub moved : (k : ℕ) → k < v → at (potentials nodes) k ≡ lifted (at (orders nodes₀)) (at (potentials nodes₀)) d k
  pub rest : (k : ℕ) → v ≤ k → at (potentials nodes) k ≡ at (potentials nodes₀) k

-- the order stays
pub orders_kept : {old new : List ℕ} → Apart 0 old new → orders new ≡ orders old
orders_kept a = a.others 2 (omega arith) (λ e. omega arith)

module _ {d : ℕ} {nodes₀ : List ℕ} where
  module _ {nodes : List ℕ} {v : ℕ} (m : Moving d nodes₀ nodes v) (l : v < length nodes₀ / node_stride) where
    -- one more is moved
    pub move_next : (new : List ℕ) → Stored 0 v (lift (at (orders nodes) v) (at (potentials nodes) v) d) nodes new
        → Moving d nodes₀ new (v + 1)
    move_next new s = record {
      v_in = omega arith;
      only = apart_next m.only s;
      moved = below_more _ v (λ k below. other k (omega arith) ∙ m.moved k below) here;
      rest = λ k past. other k (omega arith) ∙ m.rest k (omega arith);
    }
      where
        a : ℕ
        a = lift (at (orders nodes) v) (at (potentials nodes) v) d

        other : (k : ℕ) → (k ≡ v → ⊥) → at (potentials new) k ≡ at (potentials nodes) k
        other k ne =
            ap (λ (o : List ℕ). at o k) s.same
            ∙ get_or-set_other (potentials nodes) v k (lift (at (orders nodes) v) (at (potentials nodes) v) d) 0 ne

        here : at (potentials new) v ≡ lifted (at (orders nodes₀)) (at (potentials nodes₀)) d v
        here =
            ap (λ (o : List ℕ). at o v) s.same
            ∙ (get_or-set_same (potentials nodes) v (lift (at (orders nodes) v) (at (potentials nodes) v) d) 0
            (omega (arith, column_length 0 nodes, m.only.length_same))
            ∙ (ap (λ (o : ℕ). lift o (at (potentials nodes) v) d) (ap (λ (o : List ℕ). at o v) (orders_kept m.only))
            ∙ ap (λ (b : ℕ). lift (at (orders nodes₀) v) b d) (m.rest v (le_refl _))))

  -- all are
  pub move_end : {nodes : List ℕ} {v : ℕ} → Moving d nodes₀ nodes v → length nodes₀ / node_stride ≤ v → Small (at (potentials nodes₀))
      → ((u : ℕ) → u < length nodes₀ / node_stride → 0 < at (orders nodes₀) u → at (potentials nodes₀) u + d ≤ potential_limit)
      → Moved (length nodes₀ / node_stride) d (at (orders nodes₀)) (at (potentials nodes₀)) (at (potentials nodes))
  move_end {nodes} {v} m past small fits = record {
    moved = λ k l. m.moved k (omega arith);
    small = λ k. go k
        (dec_lt k (length nodes₀ / node_stride));
  }
    where
      go : (k : ℕ) → Dec (k < length nodes₀ / node_stride) → at (potentials nodes) k ≤ potential_limit
      go k (yes l) = ⊎_elim
          (λ c. omega (arith, m.moved k (omega arith), c.1, fits k l c.0))
          (λ c. omega (arith, m.moved k (omega arith), c.1, small k))
          (lift_cases (at (orders nodes₀) k) (at (potentials nodes₀) k) d)
      go k (no out) = omega (arith, m.rest k (omega (arith, m.v_in)), small k)

-- a step of nothing moves nothing
lift_none : (o a d : ℕ) → d ≡ 0 → a ≡ lift o a d
lift_none o a d e = ⊎_elim (λ c. omega (arith, c.1, e)) (λ c. omega (arith, c.1)) (lift_cases o a d)

-- nor changes a potential
pub unmoved : {n : ℕ} {order p : ℕ → ℕ} (d : ℕ) → d ≡ 0 → Small p → Moved n d order p p
unmoved {order = order} {p = p} d e s = record { moved = λ v l. lift_none (order v) (p v) d e; small = s }
