-- What the whole call answers, from what the passes left in the lent part of the slice: the part is the first n values of
-- what is put back.
use Rattle.network.specs.Net.{at, Net, meant}
use Rattle.difference.specs.Input.{Taken}
use Rattle.difference.specs.inside.Constraints.{Least, None}
use Rattle.difference.specs.inside.Steps.{Ran}
use Rattle.difference.specs.declared.Stuck.{Stuck}
use Rattle.network.specs.declared.Unsolved.{Unsolved}
use Rattle.network.specs.declared.Unsolved.TheVariants.{NoSolution}
use Rattle.std.specs.Prelude.{Result, Ok, Err, MatchResult, IsErrAnd}
use Rattle.difference.specs.Solutions.{finding, Finding, Lowest, RestKept, Solves, Means}
use Rattle.difference.specs.laws.Meaning.{least_lowest, none_feasible}
use mathlib.Core.Path.{◌≡◌, ap, ◌∙◌, sym, subst}
use mathlib.Core.List.{List, ◌++◌}
use Prim.Native.Nat.{ℕ, ◌+◌, ◌-◌, ◌≤◌}
use native.Mathlib.Omega.{arith}
use lib.ListN.{length, take, drop, replicate, length-take, length-drop, length-append, get_or-append}
use lib.Seq.{take-append-le, get_or-append-add, get_or-drop}

-- what is behind the part is kept
rest_kept : (n : ℕ) (w v₀ : List ℕ) → length w ≡ n → n ≤ length v₀ → RestKept n v₀ (w ++ drop n v₀)
rest_kept n w v₀ size room = record { size = omega (arith, length-append w (drop n v₀), length-drop n v₀); rest = λ u past. go u past }
  where
    go : (u : ℕ) → n ≤ u → at (w ++ drop n v₀) u ≡ at v₀ u
    go u past =
        let behind : length w + (u - n) ≡ u = omega arith in
        let front : n + (u - n) ≡ u = omega arith in
        ap (at (w ++ drop n v₀)) (sym behind) ∙ get_or-append-add w (drop n v₀) (u - n) 0 ∙ get_or-drop n v₀ (u - n) 0 ∙ ap (at v₀) front

module _ {N : Net} {n : ℕ} {v₀ : List ℕ} (taken : Taken N n v₀) (w : List ℕ) (size : length w ≡ length (take n v₀)) where
  -- how long it is
  part_size : length (take n v₀) ≡ n
  part_size = omega (arith, length-take n v₀, taken.values_room)

  -- its values are the first ones of the whole
  solves : Least N n w → Solves N n (w ++ drop n v₀)
  solves least = record {
    ground = get_or-append w (drop n v₀) 0 (n - 1) (omega (arith, size, part_size, taken.wf.some)) ∙ least.solves.ground;
    small =
        λ u u-in. let e = get_or-append w (drop n v₀) 0 u (omega (arith, size, part_size)) in omega
        (arith, e, least.small u u-in);
    lowest =
        subst (λ (p : List ℕ). Lowest (meant N n) p)
        (sym (take-append-le (n - 1) w (drop n v₀) (omega (arith, size, part_size))))
        (least_lowest taken.wf w (size ∙ part_size) least);
  }

  -- the answer if the passes found a solution
  solved_back : Least N (length (take n v₀)) w → Means N n v₀ (w ++ drop n v₀) Finding.solved
  solved_back m = (taken, rest_kept n w v₀ (size ∙ part_size) taken.values_room, solves (rw part_size at m))

  -- the answer if they found none
  none_back : None N (length (take n v₀)) × (w ≡ replicate (length (take n v₀)) 0)
      → Means N n v₀ (w ++ drop n v₀) Finding.none
  none_back m =
      let none : None N n × (w ≡ replicate n 0) = rw part_size at m in
      (taken, ap (λ (l : List ℕ). l ++ drop n v₀) none.1, none_feasible taken.wf none.0)

  -- the answer, by what the passes found
  pub answered : {Told : Stuck → Unsolved → Type 0} (found : Result (Unit {0}) Stuck) (answer : Result (Unit {0}) Unsolved)
      → Ran N (length (take n v₀)) w found → MatchResult found (λ done. answer ≡ Ok done) (λ stuck. IsErrAnd answer (Told stuck))
      → ((stuck : Stuck) (why : Unsolved) → Told stuck why → why ≡ NoSolution)
      → Means N n v₀ (w ++ drop n v₀) (finding answer)
  answered (Ok done) answer m is why = rw is (solved_back m)
  answered (Err stuck) (Ok done) m is why = absurd is
  answered (Err stuck) (Err unsolved) m is why = rw (why stuck unsolved is) (none_back m)
