-- The sums that are left: every layer that was added has its sum in its element, and all other elements are old.
use Prim.Native.Nat.{ℕ, ◌+◌, ◌≤◌, ◌<◌, min}
use mathlib.Core.Path.{◌≡◌, refl, sym, ◌∙◌, ap, ap₂}
use mathlib.Core.Bool.{Bool, true, false, cond, ◌&&◌}
use mathlib.Core.Logic.{⊎_elim}
use mathlib.Core.List.{List}
use native.Mathlib.Omega.{arith}
use lib.Dec.{ltb}
use lib.ListN.{length, get_or}
use lib.Seq.{ext_get_or}
use borrow.Author.Tests.{lt-ltb, le-ltb}
use Rattle.leb128.specs.laws.Cases.{lt_or_le}
use Rattle.sheet.specs.Limits.{max_nodes}
use Rattle.network.specs.Sums.{upto}
use Rattle.network.specs.laws.Indexed.{upto_length, upto_in}
use Rattle.totals.specs.RunningSums.{sum_after, rises, chainable, with_sums, left_sums}

-- the layers behind this one have their sums
pub record SumsFrom (first p s old sums : List ℕ) (layer : ℕ) : Type 0 where
  pub size : length sums ≡ length old
  pub above : (i : ℕ) → i < length old → layer ≤ i → i < length first → get_or sums i 0 ≡ sum_after first p s (i + 1)
  pub below : (i : ℕ) → i < layer → get_or sums i 0 ≡ get_or old i 0
  pub behind : (i : ℕ) → length first ≤ i → get_or sums i 0 ≡ get_or old i 0

-- no layer is added yet
pub sums_begin : (first p s old : List ℕ) → SumsFrom first p s old old (length first)
sums_begin first p s old = record {
  size = refl;
  above = λ i h k l. absurd (omega arith);
  below = λ i h. refl;
  behind = λ i h. refl;
}

module _ {first p s old sums : List ℕ} {layer : ℕ} (w : SumsFrom first p s old sums layer) where
  -- all layers are added
  pub sums_end : layer ≡ 0 → sums ≡ with_sums first p s old
  unfolding with_sums
  sums_end e =
      ext_get_or 0 sums (upto (length old) f) (w.size ∙ sym (upto_length (length old) f))
      (λ i h. each i (omega (arith, w.size)) ∙ sym (upto_in 0 (length old) f i (omega (arith, w.size))))
    where
      -- the element of a layer, and one behind the layers
      f : ℕ → ℕ
      f i = cond (ltb i (length first)) (sum_after first p s (i + 1)) (get_or old i 0)

      each : (i : ℕ) → i < length old → get_or sums i 0 ≡ f i
      each i h =
          ⊎_elim
          (λ (l : i < length first). rw (lt-ltb i (length first) l) (w.above i h (omega arith) l))
          (λ (l : length first ≤ i). rw (le-ltb i (length first) l) (w.behind i l))
          (lt_or_le i (length first))

module _ (first p s old : List ℕ) where
  -- if the first nodes do not rise, the slice is as it was
  pub left_not_rising : rises first ≡ false → old ≡ left_sums first p s old
  unfolding left_sums
  left_not_rising e = sym (ap (λ (b : Bool). cond (b && chainable (min (length p) max_nodes) s) (with_sums first p s old) old) e)

  -- if they do, the sums are left exactly if the edges can be chained
  pub left_chained : {n : ℕ} {b : Bool} → n ≡ min (length p) max_nodes → rises first ≡ true → chainable n s ≡ b
      → cond b (with_sums first p s old) old ≡ left_sums first p s old
  unfolding left_sums
  left_chained k t e =
      sym (ap₂ (λ (a b : Bool). cond (a && b) (with_sums first p s old) old) t (ap (λ (m : ℕ). chainable m s) (sym k) ∙ e))
