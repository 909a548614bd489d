-- Potentials are on no forbidden side of the packed arcs exactly where they are feasible for the network that the arcs are.
use Rattle.network.specs.Net.{at, Net, arcs, tail, head, meant}
use Rattle.network.specs.Network.{integers, legal, Feasible as NetworkFeasible}
use Rattle.network.specs.Packed.{arc_at}
use Rattle.network.specs.laws.Indexed.{upto_all}
use Rattle.network.specs.laws.PackedLegal.{Meets, legal_meets}
use Rattle.network.specs.WellFormed.{WellFormed}
use Rattle.circulation.specs.Input.{Feasible}
use Rattle.std.specs.Prelude.{◌≡◌, List, ℕ, ◌<◌}
use Rattle.std.proofs.Common.{arith}

-- q are the potentials p of all nodes but ground, whose potential is 0
module _ (N : Net) (n : ℕ) (p : ℕ → ℕ) (q : List ℕ) (wf : WellFormed N n) (same : (v : ℕ) → v < n → p v ≡ at q v) where
  -- what is feasible for the network is on no forbidden side
  pub feasible_stored : NetworkFeasible (meant N n) (integers q) → Feasible N p
  feasible_stored f = record {
    not_right =
        λ i l hard. omega (
          arith,
          (meets i l).not_right hard,
          same (head N i) (wf.arc_in i l).head_in,
          same (tail N i) (wf.arc_in i l).tail_in,
        );
    not_left =
        λ i l hard. omega (
          arith,
          (meets i l).not_left hard,
          same (head N i) (wf.arc_in i l).head_in,
          same (tail N i) (wf.arc_in i l).tail_in,
        );
  }
    where
      meets : (i : ℕ) → i < arcs N → Meets N (at q) i
      meets i l = legal_meets N q i (upto_all (legal (integers q)) (arcs N) (arc_at N.list) f.legals i l)
