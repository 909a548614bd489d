-- Chaining edge after edge: no edge is chained at first, and one more becomes the last of its chain, with the former last one before it.
-- And which edges can be chained.
use Prim.Native.Nat.{ℕ, ◌/◌, ◌≤◌, ◌<◌}
use mathlib.Core.Path.{◌≡◌, sym, ◌∙◌, ap, subst}
use mathlib.Core.Bool.{Bool, true, false}
use mathlib.Core.List.{List}
use native.Mathlib.Omega.{arith}
use lib.Dec.{T, leb, le→leb, ltb, ltb→lt, lt→ltb}
use lib.ListN.{length, get_or, replicate, length-replicate, get_or-replicate}
use Rattle.sheet.specs.Limits.{max_edges}
use Rattle.network.specs.Sums.{below}
use Rattle.network.specs.Packed.{stride}
use Rattle.network.specs.laws.Tests.{and_right, and_both, is_true, is_false, fails, below_at, at_below}
use Rattle.totals.specs.RunningSums.{chainable}
use Rattle.totals.specs.inside.Chains.{links, lower_of, Last, Chained}

-- no edge is chained yet
pub chained_begin : (starts s : List ℕ) {chains : List ℕ} → chains ≡ replicate links 0 → Chained starts s 0 chains
chained_begin starts s e = record {
  size = ap length e ∙ length-replicate {A = ℕ} links 0;
  few = omega arith;
  low = λ i h. absurd (omega arith);
  lasts = λ v h. none (ap (λ (l : List ℕ). get_or l v 0) e ∙ get_or-replicate {A = ℕ} links v 0 0 (omega arith));
  befores = λ i h. absurd (omega arith);
}
  where
    none : {v link : ℕ} → link ≡ 0 → Last starts s v 0 link
    none e = record { inside = omega arith; ends = λ i f. absurd (omega arith); none = λ i l h f. omega arith }

module _ (n : ℕ) (s : List ℕ) where
  -- the test of a lower end
  abbrev lies : ℕ → Bool
  lies i = ltb (lower_of s i) n

  -- the test of the count
  abbrev few : Bool
  few = leb (length s / stride) max_edges

  -- a lower end that is none of the n nodes
  pub no_node : {i : ℕ} → i < length s / stride → n ≤ lower_of s i → false ≡ chainable n s
  no_node {i} h k =
      sym
      (is_false (chainable n s)
      (fails (chainable n s)
      (λ t.
      let all : T (below (length s / stride) lies) = and_right few (below (length s / stride) lies) t in
      omega (arith, ltb→lt (lower_of s i) n (below_at (length s / stride) lies all i h)))))

  -- edges that cannot be chained are not
  pub not_chained : {starts chains : List ℕ} → false ≡ chainable n s → T (chainable n s) → Chained starts s (length s / stride) chains
  not_chained e t = absurd (subst T (sym e) t)

-- edges that are chained can be
pub all_chained : (starts s : List ℕ) {chains : List ℕ} → Chained starts s (length s / stride) chains → true ≡ chainable (length starts) s
all_chained starts s c =
    sym
    (is_true (chainable (length starts) s)
    (and_both (few (length starts) s) (below (length s / stride) (lies (length starts) s)) (le→leb (length s / stride) max_edges c.few)
    (at_below (length s / stride) (lies (length starts) s) (λ i h. lt→ltb (lower_of s i) (length starts) (c.low i h)))))

-- a test of which the code finds that it holds
pub passes : {a b : Bool} → a ≡ b → a ≡ true → T b
passes e f = subst T (sym f ∙ e) tt
