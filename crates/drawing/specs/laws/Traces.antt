-- Parallel edges have the same ends and the same greatest, which is within what bounds all; edges carry as many traces as they are.
use Rattle.std.specs.Prelude.{◌≡◌, refl, List, [], ◌∷◌, ℕ, suc, max, ◌≤◌, T, leb, eqb, length}
use Rattle.std.proofs.Common.{ap, arith, leb→le, eqb→eq, eq-eqb}
use Rattle.network.specs.Sums.{all}
use Rattle.network.specs.laws.Tests.{chosen, and_left, and_right}
use Rattle.drawing.specs.Sheet.{Edge}
use Rattle.drawing.specs.Traces.{parallel, greatest_parallel, traces_behind, traces}

-- parallel edges have the same ends
pub parallel_ends : (a b : Edge) → T (parallel a b) → (a.upper ≡ b.upper) × (a.lower ≡ b.lower)
parallel_ends a b t = (
  eqb→eq a.upper b.upper (and_left (eqb a.upper b.upper) (eqb a.lower b.lower) t),
  eqb→eq a.lower b.lower (and_right (eqb a.upper b.upper) (eqb a.lower b.lower) t),
)

-- edges with the same ends are parallel
pub ends_parallel : (a b : Edge) → a.upper ≡ b.upper → a.lower ≡ b.lower → T (parallel a b)
ends_parallel a b u l = rw (eq-eqb a.upper b.upper u, eq-eqb a.lower b.lower l) tt

-- one for each edge
behind_length : (es before rest : List Edge) → length (traces_behind es before rest) ≡ length rest
behind_length es before [] = refl
behind_length es before (e ∷ rest) = ap suc (behind_length es (e ∷ before) rest)

-- as many as edges
pub traces_length : (es : List Edge) → length (traces es) ≡ length es
unfolding traces
traces_length es = behind_length es [] es

module _ (f : Edge → ℕ) where
  -- the greatest of parallel edges is within what bounds all
  pub greatest_le : (k : ℕ) (e : Edge) (es : List Edge) → T (all (λ x. leb (f x) k) es) → greatest_parallel f e es ≤ k
  greatest_le k e [] t = omega arith
  greatest_le k e (x ∷ xs) t =
      let rest : greatest_parallel f e xs ≤ k = greatest_le k e xs (and_right (leb (f x) k) (all (λ x. leb (f x) k) xs) t) in
      let here : f x ≤ k = leb→le (f x) k (and_left (leb (f x) k) (all (λ x. leb (f x) k) xs) t) in
      chosen (λ n. n ≤ k) (parallel e x) (max (f x) (greatest_parallel f e xs)) (greatest_parallel f e xs) (λ y. omega arith) (λ n. rest)

  -- parallel edges have the same greatest
  pub greatest_same : (a b : Edge) → a.upper ≡ b.upper → a.lower ≡ b.lower → (es : List Edge)
      → greatest_parallel f a es ≡ greatest_parallel f b es
  greatest_same a b u l [] = refl
  greatest_same a b u l (x ∷ xs) = rw (greatest_same a b u l xs, u, l)
