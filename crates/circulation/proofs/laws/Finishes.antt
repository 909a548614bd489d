-- What the last step takes and leaves: no node is far left of ground, each potential is relative to ground's, and the other numbers are 0.
use Rattle.network.specs.Net.{at, Net, head}
use Rattle.network.specs.Packed.{kink_zero}
use Rattle.circulation.specs.laws.Columns.{column_length}
use Rattle.network.specs.Nodes.{column, potentials, size, node_stride, potential_zero}
use Rattle.network.specs.WellFormed.{WellFormed}
use Rattle.circulation.specs.Input.{Feasible, Hangs, Rooted}
use Rattle.circulation.specs.inside.Stores.{Stored, Apart}
use Rattle.circulation.specs.inside.Finish.{ground_of, Zeroed}
use mathlib.Core.Path.{◌≡◌, ap, ◌∙◌}
use mathlib.Core.Logic.{⊎_elim}
use mathlib.Core.List.{List}
use Prim.Native.Nat.{ℕ, zero, suc, ◌+◌, ◌-◌, ◌*◌, ◌≤◌, ◌<◌}
use native.Mathlib.Decide.{ℕ_discrete}
use native.Mathlib.Omega.{arith}
use borrow.Author.Count.{below_more}
use lib.ListN.{length}
use lib.Seq.{get_or-set_same, get_or-set_other}

module _ (N : Net) (n : ℕ) (p : ℕ → ℕ) (wf : WellFormed N n) (rooted : Rooted N n) (met : Feasible N p) where
  -- a node hangs on ground by at most as many arcs as its number and one, each 2^16 long at most
  near_to : (k v : ℕ) → v < k → v < n → p (n - 1) ≤ p v + kink_zero * (v + 1)
  near_to zero v l w = absurd (omega arith)
  near_to (suc k) v l w = elim (ℕ_discrete v (n - 1)) [
    | yes e ↦ omega (arith, ap p e)
    | no ne ↦ step (rooted.hangs v (omega arith)) (λ u b. near_to k u (omega arith) (omega arith))
  ]
    where
      step : Hangs N (n - 1) v → ((u : ℕ) → u < v → p (n - 1) ≤ p u + kink_zero * (u + 1)) → p (n - 1) ≤ p v + kink_zero * (v + 1)
      step h before = ⊎_elim
          (λ c. omega (
            arith,
            ap p c,
            ap p h.by.from,
            met.not_right h.arc h.arc_in h.by.hard,
            (wf.arc_in h.arc h.arc_in).kink_high,
          ))
          (λ c. omega (
            arith,
            c,
            before (head N h.arc) c,
            ap p h.by.from,
            met.not_right h.arc h.arc_in h.by.hard,
            (wf.arc_in h.arc h.arc_in).kink_high,
          ))
          h.by.to

  -- no node is more than 2^28 left of ground
  pub near_ground : (v : ℕ) → v < n → p (n - 1) ≤ p v + potential_zero
  near_ground v l = omega (arith, near_to (suc v) v (omega arith) l, wf.nodes)

-- the number stored
pub stored_here : {k v a : ℕ} {old new : List ℕ} → Stored k v a old new → v < size old → at (column k new) v ≡ a
stored_here {k} {v} {a} {old} {new} s l =
    ap (λ (o : List ℕ). at o v) s.same ∙ get_or-set_same (column k old) v a 0 (omega (arith, column_length k old))

-- and the other ones of its column
pub stored_there : {k v a : ℕ} {old new : List ℕ} (u : ℕ) → Stored k v a old new → (u ≡ v → ⊥)
    → at (column k new) u ≡ at (column k old) u
stored_there {k} {v} {a} {old} {new} u s ne = ap (λ (o : List ℕ). at o u) s.same ∙ get_or-set_other (column k old) v u a 0 ne

-- the potentials of the first v nodes are relative to ground's
pub record Settling (nodes₀ nodes : List ℕ) (v : ℕ) : Type 0 where
  pub v_in : v ≤ size nodes₀
  pub length_same : length nodes ≡ length nodes₀
  pub done : (u : ℕ) → u < v → at (potentials nodes) u + ground_of nodes₀ ≡ at (potentials nodes₀) u + potential_zero
  pub todo : (u : ℕ) → v ≤ u → at (potentials nodes) u ≡ at (potentials nodes₀) u

module _ {nodes₀ : List ℕ} where
  -- one more is
  pub settle_next : {nodes : List ℕ} {v a : ℕ} (new : List ℕ) → Settling nodes₀ nodes v → v < size nodes₀
      → Stored 0 v a nodes new → a + ground_of nodes₀ ≡ at (potentials nodes₀) v + potential_zero
      → Settling nodes₀ new (v + 1)
  settle_next {nodes} {v} {a} new m l s e = record {
    v_in = omega arith;
    length_same = s.length_same ∙ m.length_same;
    done = below_more _ v
        (λ u below. omega (arith, stored_there u s (λ same. omega arith), m.done u below))
        (omega (arith, stored_here s (omega (arith, m.length_same))));
    todo = λ u past. stored_there u s (λ same. omega arith) ∙ m.todo u (omega arith);
  }

-- one more number of every node is
pub zeroed_next : {k : ℕ} {nodes new : List ℕ} → k < node_stride → Zeroed k nodes → ((v : ℕ) → at (column k new) v ≡ 0)
    → Apart k nodes new → Zeroed (k + 1) new
zeroed_next {k} {nodes} {new} k-in z here apart = record { zero = λ j v some few. go j v some few (ℕ_discrete j k) }
  where
    go : (j v : ℕ) → 0 < j → j < k + 1 → Dec (j ≡ k) → at (column j new) v ≡ 0
    go j v some few (yes e) = ap (λ (i : ℕ). at (column i new) v) e ∙ here v
    go j v some few (no ne) = ap (λ (o : List ℕ). at o v) (apart.others j (omega arith) ne) ∙ z.zero j v some (omega arith)
