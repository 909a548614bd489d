-- The contract fixes the answer and every number that is lent but the flows: two ends of the same input have the same
-- finding and the same nodes.
use Rattle.network.specs.Net.{at, Net, meant}
use Rattle.network.specs.laws.Indexed.{upto_in}
use Rattle.network.specs.Integers.{down, up}
use Rattle.network.specs.laws.IntegerParts.{less_parts}
use Rattle.network.specs.laws.Unique.{leftmost_unique}
use Rattle.network.specs.Nodes.{potentials, size, node_stride, potential_zero}
use Rattle.circulation.specs.Solutions.{potentials_of, Solution, Cleared, Finding, Means}
use Rattle.circulation.specs.Solutions.Finding.{solved, malformed}
use Rattle.circulation.specs.laws.Columns.{column_at}
use Rattle.std.specs.Prelude.{◌≡◌, refl, List, ℕ, ◌+◌, ◌-◌, ◌*◌, ◌/◌, ◌%◌, ◌<◌, ℤ, pos, ◌-ℤ◌, get_or}
use Rattle.std.proofs.Common.{sym, ap, ◌∙◌, arith, ext_get_or}
use Rattle.std.proofs.Math.Decide.{ℕ_discrete, dec_lt}

-- stored potentials of the same integers are the same
potentials_same : (n : ℕ) (p q : ℕ → ℕ) → potentials_of n p ≡ potentials_of n q → p (n - 1) ≡ potential_zero
    → q (n - 1) ≡ potential_zero → (v : ℕ) → v < n → p v ≡ q v
potentials_same n p q e g h v l = elim (ℕ_discrete v (n - 1)) [
  | yes last ↦ omega (arith, ap p last, ap q last)
  | no ne ↦ omega (
    arith,
    less_parts (p v) potential_zero,
    less_parts (q v) potential_zero,
    ap up (same (omega arith)),
    ap down (same (omega arith)),
  )
]
  where
    same : v < n - 1 → (pos (p v) -ℤ pos potential_zero) ≡ (pos (q v) -ℤ pos potential_zero)
    same inside = sym (upto_in (pos 0) (n - 1) (λ v. pos (p v) -ℤ pos potential_zero) v inside)
        ∙ (ap (λ (l : List ℤ). get_or l v (pos 0)) e ∙ upto_in (pos 0) (n - 1) (λ v. pos (q v) -ℤ pos potential_zero) v inside)

module _ (N : Net) (x₀ nodes₀ x nodes y other : List ℕ) where
  -- the findings are the same
  pub one_finding : (r s : Finding) → Means N x₀ nodes₀ x nodes r → Means N x₀ nodes₀ y other s → r ≡ s
  one_finding solved solved m k = refl
  one_finding solved malformed m k = absurd (k.0 m.0)
  one_finding malformed solved m k = absurd (m.0 k.0)
  one_finding malformed malformed m k = refl

  -- the nodes of two solutions
  pub solved_nodes : Cleared nodes₀ nodes → Cleared nodes₀ other
      → Solution N (size nodes₀) (at x) (at (potentials nodes)) → Solution N (size nodes₀) (at y) (at (potentials other)) → nodes ≡ other
  solved_nodes c d s t =
      ext_get_or 0 nodes other (c.nodes_size ∙ sym d.nodes_size) (λ i l. each i (dec_lt i (node_stride * size nodes₀)))
    where
      potential : (v : ℕ) → v < size nodes₀ → at (potentials nodes) v ≡ at (potentials other) v
      potential v l = potentials_same (size nodes₀) (at (potentials nodes)) (at (potentials other))
          (leftmost_unique (meant N (size nodes₀)) (potentials_of (size nodes₀) (at (potentials nodes)))
          (potentials_of (size nodes₀) (at (potentials other))) s.best t.best)
          s.ground t.ground v l

      number : (v k : ℕ) → v < size nodes₀ → k < node_stride → Dec (k ≡ 0)
          → at nodes (node_stride * v + k) ≡ at other (node_stride * v + k)
      number v k v_in k-in (yes e) =
          rw e
          (sym (column_at 0 nodes v (omega (arith, c.nodes_size)))
          ∙ (potential v v_in ∙ column_at 0 other v (omega (arith, d.nodes_size))))
      number v k v_in k-in (no ne) = c.others v k v_in (omega arith) k-in ∙ sym (d.others v k v_in (omega arith) k-in)

      each : (i : ℕ) → Dec (i < node_stride * size nodes₀) → at nodes i ≡ at other i
      each i (yes l) =
          let place : node_stride * (i / node_stride) + i % node_stride ≡ i = omega arith in
          ap (at nodes) (sym place)
          ∙ (number (i / node_stride) (i % node_stride) (omega arith) (omega arith) (ℕ_discrete (i % node_stride) 0) ∙ ap (at other) place)
      each i (no past) = c.rest i (omega arith) ∙ sym (d.rest i (omega arith))

  -- the nodes are the same
  pub one_end : (r s : Finding) → Means N x₀ nodes₀ x nodes r → Means N x₀ nodes₀ y other s → nodes ≡ other
  one_end solved solved m k = solved_nodes m.2 k.2 m.3 k.3
  one_end solved malformed m k = absurd (k.0 m.0)
  one_end malformed solved m k = absurd (m.0 k.0)
  one_end malformed malformed m k = m.2 ∙ sym k.2
