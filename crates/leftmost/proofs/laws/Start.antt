-- The least solution of the hard constraints is a start for the solver of flows, so what that leaves is the answer.
use Prim.Native.Nat.{ℕ, ◌-◌, ◌*◌, ◌/◌, ◌≤◌, ◌<◌}
use mathlib.Core.Path.{◌≡◌, sym, ◌∙◌, ap, subst}
use mathlib.Core.List.{List}
use native.Mathlib.Decide.{ℕ_discrete, dec_lt}
use native.Mathlib.Omega.{arith}
use Rattle.std.proofs.Common.{Result, Ok, Err}
use lib.ListN.{length, take, replicate, length-take, get_or-eq_default}
use lib.Seq.{get_or-take}
use Rattle.network.specs.Net.{at, Net, meant}
use Rattle.difference.specs.Solutions.{RestKept, Solves, finding as difference-finding, Means as DifferenceMeans}
use Rattle.network.specs.declared.Unsolved.{Unsolved}
use Rattle.network.specs.declared.Unsolved.TheVariants.{NoSolution, Malformed}
use Rattle.network.specs.Nodes.{node_stride, potentials, size}
use Rattle.circulation.specs.Input.{ArcsTaken, First, Valid}
use Rattle.circulation.specs.Solutions.{Solution, Cleared as NodesCleared, finding as flow-finding, Means as CirculationMeans}
use Rattle.circulation.specs.laws.Feasible.{feasible_stored}
use Rattle.circulation.specs.declared.Malformed as circulation
use Rattle.leftmost.specs.Solutions.{Taken, SomeFeasible, Finding, Means}
use Rattle.leftmost.specs.inside.Potentials.{potentials_to}
use Rattle.leftmost.proofs.laws.Potentials.{ready, size_same, potential_is, potential_behind, potentials_length, behind_same}

module _ {N : Net} (values nodes : List ℕ) (arcs_in : ArcsTaken N (size nodes)) (g : Solves N (size nodes) values)
    (enough : size nodes ≤ length values) where
  -- the values without ground's
  abbrev q : List ℕ
  q = take (size nodes - 1) values

  -- read the same, with ground
  same : (u : ℕ) → u < size nodes → at q u ≡ at values u
  same u l = elim (ℕ_discrete u (size nodes - 1)) [
    | yes e ↦
        get_or-eq_default q 0 (omega (arith, length-take (size nodes - 1) values))
        ∙ sym (ap (at values) e ∙ g.ground)
    | no ne ↦ get_or-take (size nodes - 1) values u 0 (omega arith)
  ]

  -- the potentials to start from are small
  first : First (at (potentials (ready values nodes)))
  first v = elim (dec_lt v (size nodes)) [
    | yes l ↦ omega (arith, potential_is values nodes v l, g.small v l, arcs_in.wf.nodes)
    | no past ↦ omega (arith, potential_behind values nodes v (omega arith))
  ]

  -- a start
  pub valid_start : Valid N (size nodes) (potentials (ready values nodes))
  valid_start =
      record {
        wf = arcs_in.wf;
        limited = arcs_in.limited;
        p_in = first;
        feasible =
            feasible_stored N (size nodes) (at (potentials (ready values nodes))) q arcs_in.wf
            (λ u l. potential_is values nodes u l ∙ sym (same u l)) g.lowest.feasible;
        rooted = arcs_in.rooted;
      }

-- nodes that are cleared, from nodes that were worked in: they are as many, and the same behind the last one
cleared_before : (nodes₀ nodes₁ nodes : List ℕ) → length nodes₁ ≡ length nodes₀
    → ((i : ℕ) → node_stride * size nodes₀ ≤ i → at nodes₁ i ≡ at nodes₀ i) → NodesCleared nodes₁ nodes → NodesCleared nodes₀ nodes
cleared_before nodes₀ nodes₁ nodes size_is behind m = record {
  nodes_size = m.nodes_size ∙ size_is;
  others = λ v k v_in. m.others v k (omega arith);
  rest = λ i past. m.rest i (omega arith) ∙ behind i past;
}

module _ {N : Net} (x₀ nodes₀ room₀ x nodes room : List ℕ) (taken : Taken N (size nodes₀) (length room₀))
    (zeros : room ≡ replicate (length room₀) 0) where
  -- what the solver of flows leaves from there is the answer: it is never malformed
  left_from : (values : List ℕ) (r : Result (Unit {0}) circulation.Malformed) → RestKept (size nodes₀) room₀ values → Solves N (size nodes₀) values
      → CirculationMeans N x₀ (ready values nodes₀) x nodes (flow-finding r)
      → Means N x₀ nodes₀ room₀ x nodes room Finding.solved
  left_from values (Ok done) kept g m = (
    taken,
    record { start = take (size nodes₀ - 1) values; feasible = g.lowest.feasible },
    m.1,
    record {
      in_nodes = cleared_before nodes₀ (ready values nodes₀) nodes (potentials_length (size nodes₀) values nodes₀)
          (behind_same (size nodes₀) values nodes₀) m.2;
      in_room = zeros;
    },
    subst (λ (n : ℕ). Solution N n (at x) (at (potentials nodes))) (size_same values nodes₀) m.3,
  )
  left_from values (Err refused) kept g m = absurd (m.0
      (subst (λ (n : ℕ). Valid N n (potentials (ready values nodes₀))) (sym (size_same values nodes₀))
      (valid_start values nodes₀ taken.arcs_in g (omega (arith, taken.room_in, kept.size)))))

  -- where some potentials are feasible, the solver of differences finds the least: the only case of its answer
  pub solved_from : (values started : List ℕ) (a : Result (Unit {0}) Unsolved) (r : Result (Unit {0}) circulation.Malformed) → SomeFeasible (meant N (size nodes₀))
      → DifferenceMeans N (size nodes₀) room₀ values (difference-finding a) → started ≡ potentials_to (size nodes₀) values nodes₀
      → CirculationMeans N x₀ started x nodes (flow-finding r) → Means N x₀ nodes₀ room₀ x nodes room Finding.solved
  solved_from values started (Ok done) r some d e m =
      left_from values r d.1 d.2
      (subst (λ (l : List ℕ). CirculationMeans N x₀ l x nodes (flow-finding r)) e m)
  solved_from values started (Err NoSolution) r some d e m = absurd (d.2 some.start some.feasible)
  solved_from values started (Err Malformed) r some d e m =
      absurd (d.0 (record { wf = taken.arcs_in.wf; values_room = taken.room_in }))

-- a solution from slices that were worked in is one from the slices before: they are as long, and the same behind the last node
pub solved_before : {N : Net} (x₀ nodes₀ room₀ x₁ nodes₁ room₁ x nodes room : List ℕ) → length x₁ ≡ length x₀
    → length nodes₁ ≡ length nodes₀
    → ((i : ℕ) → node_stride * size nodes₀ ≤ i → at nodes₁ i ≡ at nodes₀ i) → length room₁ ≡ length room₀
    → Means N x₁ nodes₁ room₁ x nodes room Finding.solved → Means N x₀ nodes₀ room₀ x nodes room Finding.solved
solved_before {N} x₀ nodes₀ room₀ x₁ nodes₁ room₁ x nodes room x_size nodes_size behind room-size m = (
  subst (λ (k : ℕ). Taken N (size nodes₀) k) room-size (subst (λ (n : ℕ). Taken N n (length room₁)) same m.0),
  subst (λ (n : ℕ). SomeFeasible (meant N n)) same m.1,
  m.2 ∙ x_size,
  record {
    in_nodes = cleared_before nodes₀ nodes₁ nodes nodes_size behind m.3.in_nodes;
    in_room = m.3.in_room ∙ ap (λ (k : ℕ). replicate k 0) room-size;
  },
  subst (λ (n : ℕ). Solution N n (at x) (at (potentials nodes))) same m.4,
)
  where
    same : size nodes₁ ≡ size nodes₀
    same = ap (λ (k : ℕ). k / node_stride) nodes_size
