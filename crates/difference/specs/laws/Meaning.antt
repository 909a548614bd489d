-- Potentials are feasible exactly where they solve the packed arcs' constraints; so the least solution is the lowest feasible
-- potentials, and none means none.
use Rattle.std.specs.Prelude.{ℕ, ◌-◌, ◌≤◌, ◌<◌, ◌≡◌, List, pos, length, take}
use Rattle.std.proofs.Common.{ap, ◌∙◌, sym, arith, length-take, get_or-take}
use Rattle.std.proofs.Math.Decide.{ℕ_discrete, dec_lt}
use Rattle.std.proofs.lemmas.List.{length-map}
use Rattle.std.proofs.Math.ListN.{get_or-eq_default}
use Rattle.network.specs.Network.{Feasible, integers, legal}
use Rattle.network.specs.Packed.{arc_at}
use Rattle.network.specs.Net.{at, Net, arcs, tail, head, meant}
use Rattle.network.specs.laws.Indexed.{all_upto, upto_all}
use Rattle.network.specs.laws.PackedLegal.{legal_meets, meets_legal}
use Rattle.network.specs.WellFormed.{WellFormed}
use Rattle.difference.specs.Solutions.{potentials, Lowest, NoneFeasible}
use Rattle.difference.specs.inside.Constraints.{AllMet, Solution, Least, None}

module _ {N : Net} {n : ℕ} (wf : WellFormed N n) where
  -- feasible potentials solve the constraints
  pub feasible_solution : (q : List ℕ) → Feasible (meant N n) (integers q) → Solution N n (at q)
  feasible_solution q f =
      record {
        ground = ground;
        meets =
            λ i l. let m = legal_meets N q i (upto_all (legal (integers q)) (arcs N) (arc_at N.list) f.legals i l) in
            (m.not_right, m.not_left);
      }
    where
      ground : at q (n - 1) ≡ 0
      ground = get_or-eq_default q 0 (omega (arith, f.size, length-map q pos))

  -- values that meet the constraints are feasible potentials
  meets_feasible : (p : List ℕ) → length p ≡ n - 1 → AllMet N (at p) (at p) → Feasible (meant N n) (integers p)
  meets_feasible p size m =
      record {
        size = length-map p pos ∙ size;
        legals =
            all_upto (legal (integers p)) (arcs N) (arc_at N.list)
            (λ i l. meets_legal N p i (record { not_right = (m i l).0; not_left = (m i l).1 }));
      }

  module _ (w : List ℕ) (size : length w ≡ n) (least : Least N n w) where
    -- ground's value is taken off
    taken_size : length (take (n - 1) w) ≡ n - 1
    taken_size = omega (arith, length-take (n - 1) w, size)

    -- and reads 0 still
    same : (u : ℕ) → u < n → at (take (n - 1) w) u ≡ at w u
    same u u-in = go (ℕ_discrete u (n - 1))
      where
        go : Dec (u ≡ n - 1) → at (take (n - 1) w) u ≡ at w u
        go (yes e) =
            get_or-eq_default (take (n - 1) w) 0 (omega (arith, taken_size))
            ∙ sym (ap (at w) e ∙ least.solves.ground)
        go (no ne) = get_or-take (n - 1) w u 0 (omega arith)

    -- so the constraints are met without it
    meets : AllMet N (at (take (n - 1) w)) (at (take (n - 1) w))
    meets i l =
        let h = same (head N i) (wf.arc_in i l).head_in in
        let t = same (tail N i) (wf.arc_in i l).tail_in in
        (λ hard. omega (arith, h, t, (least.solves.meets i l).0 hard), λ hard. omega (arith, h, t, (least.solves.meets i l).1 hard))

    -- the least solution is the lowest potentials
    pub least_lowest : Lowest (meant N n) (potentials n w)
    least_lowest = record { feasible = meets_feasible (take (n - 1) w) taken_size meets; lowest = λ q f u. below q f u (dec_lt u n) }
      where
        below : (q : List ℕ) → Feasible (meant N n) (integers q) → (u : ℕ) → Dec (u < n) → at (take (n - 1) w) u ≤ at q u
        below q f u (yes l) = omega (arith, same u l, least.least (at q) (feasible_solution q f) u l)
        below q f u (no past) = omega (arith, get_or-eq_default (take (n - 1) w) 0 {n = u} (omega (arith, taken_size)))

  -- no solution, no feasible potentials
  pub none_feasible : None N n → NoneFeasible (meant N n)
  none_feasible none q f = none (at q) (feasible_solution q f)
