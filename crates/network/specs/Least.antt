-- Least, and leftmost among the least, of any lists of natural numbers that are candidates, by any measure.
use Rattle.std.specs.Prelude.{ℕ, ◌≤◌, ◌≡◌, List, get_or}

module _ (Candidate : List ℕ → Type 0) (measure : List ℕ → ℕ) where
  -- a candidate, and every other candidate has at least as large a measure
  pub record LeastOf (p : List ℕ) : Type 0 where
    pub candidate : Candidate p
    pub least : (q : List ℕ) → Candidate q → measure p ≤ measure q

  -- and in every other one of equal measure each number is this one's or greater
  pub record LeftmostOf (p : List ℕ) : Type 0 where
    pub is_least : LeastOf p
    pub leftmost : (q : List ℕ) → Candidate q → measure q ≡ measure p → (v : ℕ) → get_or p v 0 ≤ get_or q v 0
