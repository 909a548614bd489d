-- A list is stored in a slice, from an index on.
use Rattle.std.specs.Prelude.{ℕ, ◌+◌, ◌≤◌, ◌≡◌, List, length}
use Rattle.std.proofs.lemmas.List.Edits.{sets}

-- a slice has room for a list at an index
pub record Room {A : Type 0} (slice : List A) (at : ℕ) (list : List A) : Type 0 where
  pub fits : at + length list ≤ length slice

-- new is old with a list stored at an index, and next is the index behind it
pub record Puts {A : Type 0} (old : List A) (at : ℕ) (list new : List A) (next : ℕ) : Type 0 where
  pub stored : new ≡ sets old at list
  pub behind : next ≡ at + length list
