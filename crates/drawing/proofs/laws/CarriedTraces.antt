-- The traces of edges are what they carry: an edge is the first with its ends exactly where none of those passed has them. So what
-- all edges carry is tested by its two cases.
use Rattle.std.specs.Prelude.{ℕ, zero, suc, max, ◌≤◌, ◌<◌, ◌≡◌, refl, Bool, not, ◌||◌, List, [], ◌∷◌, T}
use Rattle.std.proofs.Common.{⊎_elim, arith}
use Rattle.std.proofs.Math.Decide.{ℕ_discrete}
use Rattle.network.specs.Sums.{all}
use Rattle.network.specs.laws.Tests.{or_left, or_right, either, fails, not_both, chosen}
use Rattle.drawing.specs.Sheet.{Edge}
use Rattle.drawing.specs.Traces.{parallel, any_parallel, greatest_parallel, whole_trace, bare, traces_behind, traces}
use Rattle.drawing.specs.laws.Traces.{parallel_ends, ends_parallel, traces_length}
use Rattle.drawing.specs.Carriers.{At, SameEnds, NoneOf, FirstOf, Among, Greatest, Carries, CarriesNothing, AllCarried}
use Rattle.drawing.specs.laws.Carriers.{ends_back, ends_own, itself, further, first_start, first_next, first_known, at_length, all_at}
use Rattle.drawing.specs.Carriers.At.{here, later}

-- edges with the same ends are parallel
same_parallel : (e x : Edge) → SameEnds x e → T (parallel e x)
same_parallel e x s = ends_parallel e x (ends_back s).upper (ends_back s).lower

-- parallel edges have the same ends
parallel_same : (e x : Edge) → T (parallel e x) → SameEnds x e
parallel_same e x t = let same = parallel_ends e x t in ends_back (record { upper = same.0; lower = same.1 })

-- where no edge is parallel to e, none has its ends
pub none_parallel : (e : Edge) (es : List Edge) → T (not (any_parallel e es)) → NoneOf es e
none_parallel e [] t j y x4 s = elim x4 [ ]
none_parallel e (x ∷ es) t zero y here s =
    not_both (parallel e x || any_parallel e es) (or_left (parallel e x) (any_parallel e es) (same_parallel e x s)) t
none_parallel e (x ∷ es) t (suc j) y (later a) s =
    let any : Bool = parallel e x || any_parallel e es in
    none_parallel e es (fails (any_parallel e es) (λ q. not_both any (or_right (parallel e x) (any_parallel e es) q) t)) j y a s

-- and back
pub parallel_none : (e : Edge) (es : List Edge) → NoneOf es e → T (not (any_parallel e es))
parallel_none e [] n = tt
parallel_none e (x ∷ es) n =
    let rest : T (not (any_parallel e es)) = parallel_none e es (λ j y a. n (suc j) y (later a)) in
    fails (parallel e x || any_parallel e es)
    (λ t. ⊎_elim (λ p. n 0 x here (parallel_same e x p)) (λ q. not_both (any_parallel e es) q rest)
    (either (parallel e x) (any_parallel e es) t))

module _ (f : Edge → ℕ) (e : Edge) where
  -- the greatest of parallel edges is at least each
  greatest_most : {es : List Edge} {j : ℕ} {x : Edge} → At es j x → SameEnds x e → f x ≤ greatest_parallel f e es
  greatest_most {x = x} (here {es = es}) s =
      let rest : ℕ = greatest_parallel f e es in
      chosen (λ n. f x ≤ n) (parallel e x) (max (f x) rest) rest (λ t. omega arith)
      (λ n. absurd (not_both (parallel e x) (same_parallel e x s) n))
  greatest_most {x = x} (later {x = y} {es = es} a) s =
      let rest : ℕ = greatest_parallel f e es in
      let most : f x ≤ rest = greatest_most a s in
      chosen (λ n. f x ≤ n) (parallel e y) (max (f y) rest) rest (λ t. omega arith) (λ n. most)

  -- above 0 it is one of theirs
  greatest_some : (es : List Edge) → 0 < greatest_parallel f e es → Among es e (λ j x. f x ≡ greatest_parallel f e es)
  greatest_some [] h = absurd (omega arith)
  greatest_some (x ∷ xs) h =
      let rest : ℕ = greatest_parallel f e xs in
      chosen (λ n. 0 < n → Among (x ∷ xs) e (λ j y. f y ≡ n)) (parallel e x) (max (f x) rest) rest
      (λ t h. elim (ℕ_discrete (f x) (max (f x) rest)) [
        | yes m ↦ record { index = 0; edge = x; at = here; ends = parallel_same e x t; holds = m }
        | no n ↦ further x (λ j y. f y ≡ rest) (λ j y. f y ≡ max (f x) rest) (λ j y s m. omega arith) (greatest_some xs (omega arith))
      ])
      (λ n h. further x (λ j y. f y ≡ rest) (λ j y. f y ≡ rest) (λ j y s m. m) (greatest_some xs h))
      h

  -- so it is the greatest
  greatest_is : {es : List Edge} {i : ℕ} → At es i e → Greatest es e f (greatest_parallel f e es)
  greatest_is {es} a = record {
    most = λ j x. greatest_most;
    attained = elim (ℕ_discrete (greatest_parallel f e es) 0) [
      | yes z ↦ itself (λ j x. f x ≡ greatest_parallel f e es) a (omega (arith, greatest_most a (ends_own e)))
      | no n ↦ greatest_some es (omega arith)
    ];
  }

-- no edge passed has the ends of e, and of those that are left none before index i
record Fresh (passed left : List Edge) (i : ℕ) (e : Edge) : Type 0 where
  not_passed : NoneOf passed e
  not_left : FirstOf left i e

-- no edge has the ends of e, and none that is put in front
none_more : {es : List Edge} {x e : Edge} → (SameEnds x e → ⊥) → NoneOf es e → NoneOf (x ∷ es) e
none_more n m zero y here s = n s
none_more n m (suc j) y (later a) s = m j y a s

-- one edge more is passed
fresh_on : {passed left : List Edge} {i : ℕ} {x e : Edge} → Fresh passed (x ∷ left) (suc i) e → Fresh (x ∷ passed) left i e
fresh_on {x = x} f = record {
  not_passed = none_more (f.not_left 0 x (omega arith) here) f.not_passed;
  not_left = λ j y h a. f.not_left (suc j) y (omega arith) (later a);
}

-- and back
fresh_back : {passed left : List Edge} {i : ℕ} {x e : Edge} → Fresh (x ∷ passed) left i e → Fresh passed (x ∷ left) (suc i) e
fresh_back {x = x} f = record {
  not_passed = λ j y a. f.not_passed (suc j) y (later a);
  not_left = first_next (f.not_passed 0 x here) f.not_left;
}

-- what the last edges carry goes by those passed
behind_are : (es passed : List Edge) {left : List Edge} {i : ℕ} {e t : Edge} → At left i e → At (traces_behind es passed left) i t
    → (Fresh passed left i e → t ≡ whole_trace es e) × ((Fresh passed left i e → ⊥) → t ≡ bare e)
behind_are es passed {e = e} (here {es = left}) here =
    let fresh : Type 0 = Fresh passed (e ∷ left) 0 e in
    chosen (λ t. (fresh → t ≡ whole_trace es e) × ((fresh → ⊥) → t ≡ bare e)) (any_parallel e passed) (bare e) (whole_trace es e)
    (λ y. (λ f. absurd (not_both (any_parallel e passed) y (parallel_none e passed f.not_passed)), λ n. refl))
    (λ n. (λ f. refl, λ m. absurd (m (record { not_passed = none_parallel e passed n; not_left = first_start (e ∷ left) e }))))
behind_are es passed (later {x = x} a) (later b) =
    let rest = behind_are es (x ∷ passed) a b in (λ f. rest.0 (fresh_on f), λ n. rest.1 (λ f. n (fresh_back f)))

-- the traces of edges are what they carry
pub traces_are : (es : List Edge) → AllCarried es (traces es)
unfolding traces
traces_are es = record {
  size = traces_length es;
  each = λ i e t a b.
      let is = behind_are es [] a b in
      record {
        first = λ f. rw (is.0 (record { not_passed = none_parallel e [] tt; not_left = f }))
            (record {
              ends = record { upper = refl; lower = refl };
              kind = greatest_is (λ x. x.kind) e a;
              weight = greatest_is (λ x. x.weight) e a;
            });
        other = λ n. rw (is.1 (λ f. n f.not_left))
            (record { ends = record { upper = refl; lower = refl }; kind = refl; weight = refl });
      };
}

-- a test passes of what all edges carry where it passes of what carries a trace, and of what carries nothing
pub traces_all : (t : Edge → Bool) (es : List Edge) → ((i : ℕ) (e x : Edge) → At es i e → Carries es e x → T (t x))
    → ((i : ℕ) (e x : Edge) → At es i e → CarriesNothing e x → T (t x)) → T (all t (traces es))
traces_all t es f g =
    all_at t (traces es)
    (λ i x b.
    let e = at_length es (traces_length es) b in
    let carried = (traces_are es).each i e.0 x e.1 b in
    elim (first_known e.1) [
      | yes first ↦ f i e.0 x e.1 (carried.first first)
      | no other ↦ g i e.0 x e.1 (carried.other other)
    ])
