-- A list of zeros is 0 at every index, and a list that is 0 at every index is one.
use Rattle.std.specs.Prelude.{ℕ, ◌<◌, ◌≡◌, List, length, replicate}
use Rattle.std.proofs.Common.{sym, ◌∙◌, ap, arith, ext_get_or}
use Rattle.std.proofs.Math.Decide.{dec_lt}
use Rattle.std.proofs.lemmas.List.{length-replicate, get_or-replicate}
use Rattle.std.proofs.Math.ListN.{get_or-eq_default}
use Rattle.network.specs.Net.{at}

-- every number of n zeros is 0, and so is what is behind them
pub zero_at : (n i : ℕ) → at (replicate n 0) i ≡ 0
zero_at n i = go (dec_lt i n)
  where
    go : Dec (i < n) → at (replicate n 0) i ≡ 0
    go (yes l) = get_or-replicate n i 0 0 l
    go (no past) = get_or-eq_default (replicate n 0) 0 (omega (arith, length-replicate {A = ℕ} n 0))

-- so of a list that is n zeros
pub zeros_at : {v : List ℕ} (n : ℕ) → v ≡ replicate n 0 → (i : ℕ) → at v i ≡ 0
zeros_at n e i = ap (λ (l : List ℕ). at l i) e ∙ zero_at n i

-- a list whose numbers are all 0
pub zeros_are : (v : List ℕ) → ((i : ℕ) → i < length v → at v i ≡ 0) → v ≡ replicate (length v) 0
zeros_are v z = ext_get_or 0 v (replicate (length v) 0) (sym (length-replicate (length v) 0))
    (λ i l. z i l ∙ sym (get_or-replicate (length v) i 0 0 l))
