-- Why n passes are enough, for n nodes with the ground. For a solution q above the values, the nodes where the values
-- agree with q become more with each pass that raises a value; or q can be lowered, at each node that is still below q,
-- to another solution with a smaller sum.
use Rattle.network.specs.Net.{at, Net, tail, head, kink}
use Rattle.network.specs.Sums.{sum_to}
use Rattle.network.specs.laws.SumsTo.{sum_to_le, sum_to_lt, sum_to_ge}
use Rattle.network.specs.WellFormed.{WellFormed}
use Rattle.difference.specs.inside.Constraints.{AllMet, Solution, Below, Ready, Risen, Grew, Least, None}
use Rattle.difference.specs.inside.Steps.{Stepped, Swept}
use mathlib.Core.Path.{◌≡◌, sym, ◌∙◌}
use mathlib.Core.Logic.{◌⊎◌, ⊎_elim}
use mathlib.Core.Bool.{Bool, true, false, true≢false}
use mathlib.Core.List.{List}
use Prim.Native.Nat.{ℕ, zero, suc, ◌+◌, ◌-◌, ◌≤◌, ◌<◌}
use native.Mathlib.Nat.{le_refl}
use native.Mathlib.Decide.{ℕ_discrete, dec_lt}
use native.Mathlib.Omega.{arith}
use lib.ListN.{length}
use Rattle.difference.specs.declared.Stuck.{Stuck}
use Rattle.std.specs.Prelude.{Result, Ok, Err, IsErr}
use Rattle.difference.proofs.laws.Bounds.{bounded}
use Rattle.difference.proofs.laws.Levels.{sum_ones, same, same_yes, same_no, same_le, same_mono, lowered, lowered_cases, lowered_meets}
use Rattle.network.specs.Packed.{kink_zero}

-- how many of the first n nodes have the same value in v and q
pub agree : ℕ → (ℕ → ℕ) → (ℕ → ℕ) → ℕ
agree n v q = sum_to n (λ u. same (v u) (q u))

-- they are at most n
agree_le : (n : ℕ) (v q : ℕ → ℕ) → agree n v q ≤ n
unfolding agree
agree_le n v q = omega (arith, sum_to_le n (λ u. same (v u) (q u)) (λ u. 1) (λ u u-in. same_le (v u) (q u)), sum_ones n)

-- the ground is one of them
ground_agrees : (v : List ℕ) (q : ℕ → ℕ) → 0 < length v → at v (length v - 1) ≡ q (length v - 1) → 1 ≤ agree (length v) (at v) q
unfolding agree
ground_agrees v q some e =
    omega (
      arith,
      same_yes (at v (length v - 1)) (q (length v - 1)) e,
      sum_to_ge (length v) (λ u. same (at v u) (q u)) (length v - 1) (omega arith),
    )

-- some solution q agrees with v at k nodes or more
pub record Near (N : Net) (n : ℕ) (v : ℕ → ℕ) (k : ℕ) : Type 0 where
  pub q : ℕ → ℕ
  pub solution : Solution N n q
  pub count : k ≤ agree n v q

module _ {N : Net} {v v' : List ℕ} (r : Ready N v) (risen : Risen N v v') (reach : AllMet N (at v) (at v')) (grew : Grew v v') where
  -- the values after the pass are at most each solution's
  after : (q : ℕ → ℕ) → Solution N (length v) q → Below (length v) (at v') q
  after = rw risen.size at risen.ready.under

  module _ (q : ℕ → ℕ) (s : Solution N (length v) q) (none-joins : (u : ℕ) → u < length v → at v' u ≡ q u → at v u ≡ q u) where
    -- every value of q that is not reached lowered by 1
    q₁ : ℕ → ℕ
    q₁ u = lowered (at v' u) (q u)

    -- a value is lowered, or was reached
    cases : (u : ℕ) → ((at v' u < q u) × (q₁ u + 1 ≡ q u)) ⊎ ((q u ≤ at v' u) × (q₁ u ≡ q u))
    unfolding q₁
    cases u = lowered_cases (at v' u) (q u)

    -- no value rises by that
    q₁_le : Below (length v) q₁ q
    q₁_le u u-in = ⊎_elim (λ w. omega (arith, w.1)) (λ w. omega (arith, w.1)) (cases u)

    -- a node that agrees with q has done so before the pass, which then raised the other end as far as that asked
    forced : (from to a b : ℕ) → from < length v → at v from + a ≤ at v' to + b → q from ≤ at v' from → at v' to < q to
        → q from + a < q to + b
    forced from to a b from_in met le less = omega (arith, none-joins from from_in (omega (arith, after q s from from_in)), met)

    -- it is a solution still
    lower : Solution N (length v) q₁
    unfolding q₁
    lower = record {
      ground = ⊎_elim (λ w. omega (arith, w.0, s.ground)) (λ w. omega (arith, w.1, s.ground)) (cases (length v - 1));
      meets = λ i l. (
        λ hard. lowered_meets (at v' (head N i)) (at v' (tail N i)) (q (head N i)) (q (tail N i)) kink_zero (kink N i) ((s.meets i l).0 hard)
            (forced (head N i) (tail N i) kink_zero (kink N i) (r.wf.arc_in i l).head_in ((reach i l).0 hard)),
        λ hard. lowered_meets (at v' (tail N i)) (at v' (head N i)) (q (tail N i)) (q (head N i)) (kink N i) kink_zero ((s.meets i l).1 hard)
            (forced (tail N i) (head N i) (kink N i) kink_zero (r.wf.arc_in i l).tail_in ((reach i l).1 hard)),
      );
    }

    -- the nodes that agree with q agree with it
    stays : (u : ℕ) → u < length v → at v u ≡ q u → at v u ≡ q₁ u
    stays u u-in e = ⊎_elim (λ w. omega (arith, w.0, risen.up u)) (λ w. e ∙ sym w.1) (cases u)

    -- so as many agree
    count₁ : agree (length v) (at v) q ≤ agree (length v) (at v) q₁
    unfolding agree
    count₁ =
        sum_to_le (length v) (λ u. same (at v u) (q u)) (λ u. same (at v u) (q₁ u))
        (λ u u-in. same_mono (at v u) (q u) (at v u) (q₁ u) (stays u u-in))

    -- its sum is smaller, since a value rose
    smaller : sum_to (length v) q₁ < sum_to (length v) q
    smaller =
        sum_to_lt (length v) q₁ q q₁_le grew.node grew.node_in
        (⊎_elim (λ w. omega (arith, w.1)) (λ w. absurd (raised w)) (cases grew.node))
      where
        raised : (q grew.node ≤ at v' grew.node) × (q₁ grew.node ≡ q grew.node) → ⊥
        raised w =
            let e : at v' grew.node ≡ q grew.node = omega (arith, w.0, after q s grew.node grew.node_in) in
            omega (arith, none-joins grew.node grew.node_in e, grew.rose)

  -- the nodes that agree stay so
  kept : (q : ℕ → ℕ) → Solution N (length v) q → (u : ℕ) → u < length v → at v u ≡ q u → at v' u ≡ q u
  kept q s u u-in e = omega (arith, risen.up u, after q s u u-in)

  -- where no more agree, none has joined
  joins : (q : ℕ → ℕ) → Solution N (length v) q → (agree (length v) (at v) q < agree (length v) (at v') q → ⊥) → (u : ℕ)
      → u < length v → at v' u ≡ q u → at v u ≡ q u
  unfolding agree
  joins q s no_more u u-in e = go (ℕ_discrete (at v u) (q u))
    where
      go : Dec (at v u ≡ q u) → at v u ≡ q u
      go (yes same-value) = same-value
      go (no ne) = absurd (no_more (sum_to_lt (length v) (λ w. same (at v w) (q w)) (λ w. same (at v' w) (q w))
          (λ w w-in. same_mono (at v w) (q w) (at v' w) (q w) (kept q s w w-in)) u u-in
          (omega (arith, same_no (at v u) (q u) ne, same_yes (at v' u) (q u) e))))

  -- one node more agrees with some solution, given what a solution of smaller sum gives
  nearer : (k : ℕ) (q : ℕ → ℕ) → Solution N (length v) q → k ≤ agree (length v) (at v) q
      → ((q' : ℕ → ℕ) → Solution N (length v) q' → k ≤ agree (length v) (at v) q' → sum_to (length v) q' < sum_to (length v) q → Near N (length v) (at v') (k + 1)) → Near N (length v) (at v') (k + 1)
  nearer k q s c smaller-gives = go (dec_lt (agree (length v) (at v) q) (agree (length v) (at v') q))
    where
      go : Dec (agree (length v) (at v) q < agree (length v) (at v') q) → Near N (length v) (at v') (k + 1)
      go (yes more) = record { q = q; solution = s; count = omega arith }
      go (no no_more) =
          let none = joins q s no_more in
          smaller-gives (q₁ q s none) (lower q s none) (omega (arith, count₁ q s none)) (smaller q s none)

  -- by induction on the sum
  descend : (bound k : ℕ) (q : ℕ → ℕ) → sum_to (length v) q ≤ bound → Solution N (length v) q
      → k ≤ agree (length v) (at v) q → Near N (length v) (at v') (k + 1)
  descend zero k q small s c = nearer k q s c (λ q' s' c' less. absurd (omega arith))
  descend (suc bound) k q small s c = nearer k q s c (λ q' s' c' less. descend bound k q' (omega arith) s' c')

  -- a pass that raises a value comes closer
  pub closer : (k : ℕ) → Near N (length v) (at v) k → Near N (length v) (at v') (k + 1)
  closer k d = descend (sum_to (length v) d.q) k d.q (le_refl _) d.solution d.count

-- before pass k: the values are near some solution if there is any; the ground agrees with each
pub record Running (N : Net) (n : ℕ) (v : List ℕ) (k : ℕ) : Type 0 where
  pub ready : Ready N v
  pub size : length v ≡ n
  pub near : (q : ℕ → ℕ) → Solution N (length v) q → Near N (length v) (at v) (k + 1)

module _ {N : Net} {n : ℕ} where
  -- before the first pass
  pub begins : (v : List ℕ) → length v ≡ n → WellFormed N n → ((u : ℕ) → at v u ≡ 0) → Running N n v 0
  begins v size wf zeros = record {
    ready = record { wf = rw size wf; ground = zeros (length v - 1); small = λ u. omega (arith, zeros u); under = λ q s u u-in. omega (arith, zeros u) };
    size = size;
    near =
        λ q s. record {
          q = q;
          solution = s;
          count = ground_agrees v q (rw size wf.some) (omega (arith, zeros (length v - 1), s.ground));
        };
  }

  module _ {v : List ℕ} {k : ℕ} (r : Running N n v k) (v' : List ℕ) where
    -- after a pass that raised a value
    pub changed : Stepped (AllMet N) N v v' (Ok true) → Running N n v' (k + 1)
    changed s = record {
      ready = s.risen.ready;
      size = s.risen.size ∙ r.size;
      near = rw s.risen.size (λ q t. closer r.ready s.risen s.told.1 s.told.0 (k + 1) (r.near q t));
    }

    -- after a pass that raised none
    pub solved : Stepped (AllMet N) N v v' (Ok false) → Least N n v'
    solved s = rw (← r.size, s.told.0) (record {
      solves = met;
      least = r.ready.under;
      small =
          λ u u-in. let d = bounded r.ready.wf (at v) met in omega
          (arith, d.small u u-in, r.ready.under d.q d.solution u u-in);
    })
      where
        met : Solution N (length v) (at v)
        met = record { ground = r.ready.ground; meets = rw s.told.0 at s.told.1 }

    -- after a pass that is stuck
    pub stops : {r : Result Bool Stuck} {e : Stuck} → Stepped (AllMet N) N v v' r → r ≡ Err e → (swept : Result (Unit {0}) Stuck) → IsErr swept
        → Swept N n v' swept
    stops s is (Ok done) failed = absurd (true≢false (sym failed))
    stops s is (Err e) failed = rw (← r.size) (rw is at s.told)

  -- after as many passes as nodes
  pub over : {v : List ℕ} {k : ℕ} → Running N n v k → n ≤ k → None N n
  over {v} {k} r past = rw (← r.size) (λ q s. let c = r.near q s in omega (arith, agree_le (length v) (at v) c.q, c.count, r.size))
