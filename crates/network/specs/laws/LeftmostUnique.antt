-- Of candidates of one length one at most is leftmost among the least: each of two is at most the other.
use Rattle.std.specs.Prelude.{ℕ, ◌≡◌, List, length}
use Rattle.std.proofs.Common.{sym, le_antisymm, ext_get_or}
use Rattle.network.specs.Least.{LeftmostOf}

-- there is one at most
pub leftmost_one : (Candidate : List ℕ → Type 0) (measure : List ℕ → ℕ) (p q : List ℕ) → length p ≡ length q
    → LeftmostOf Candidate measure p → LeftmostOf Candidate measure q → p ≡ q
leftmost_one Candidate measure p q n a b =
    let e : measure p ≡ measure q = le_antisymm (a.is_least.least q b.is_least.candidate) (b.is_least.least p a.is_least.candidate) in
    ext_get_or 0 p q n
    (λ i h. le_antisymm (a.leftmost q b.is_least.candidate (sym e) i) (b.leftmost p a.is_least.candidate e i))
