-- Walking along a layer's chain adds the edges whose lower end is in that layer: between two links there is no other.
use Prim.Native.Nat.{ℕ, ◌+◌, ◌/◌, ◌≤◌, ◌<◌, min}
use mathlib.Core.Path.{◌≡◌, refl, sym, ◌∙◌, ap, subst}
use mathlib.Core.Bool.{cond}
use mathlib.Core.List.{List}
use native.Mathlib.Numerals.{add-one}
use native.Mathlib.Omega.{arith}
use lib.Dec.{eqb}
use lib.ListN.{length, get_or}
use borrow.Author.Tests.{eq-eqb, ne_eqb}
use Rattle.sheet.specs.Limits.{max_nodes}
use Rattle.network.specs.Sums.{sum_to}
use Rattle.network.specs.Packed.{stride}
use Rattle.network.specs.laws.SumsTo.{sum_to_rest}
use Rattle.leb128.specs.Words.{u32_most}
use Rattle.packed.specs.Ends.{edge_from}
use Rattle.totals.specs.Lengths.{counted_at}
use Rattle.totals.specs.inside.Chains.{start_of, Last, Chained}

module _ (p starts s : List ℕ) (v : ℕ) where
  -- what edge i counts, if its lower end is in the layer that starts at v
  abbrev pub term : ℕ → ℕ
  term i = cond (eqb v (start_of starts s i)) (counted_at p (edge_from i s)) 0

  -- the edges behind the last one of a chain add nothing
  last_sum : {n link : ℕ} → Last starts s v n link → sum_to n term ≡ sum_to link term
  last_sum {n} {link} l =
      sum_to_rest link n term l.inside (λ i a b. rw (ne_eqb v (start_of starts s i) (λ e. l.none i a b (sym e))) refl)

-- on the way: what is added, with the chain's edges among the first n, comes to the whole, and the link leads to the last of these
pub record Walking (p starts s : List ℕ) (v sum link r : ℕ) : Type 0 where
  pub upto : ℕ
  pub inside : upto ≤ length s / stride
  pub last : Last starts s v upto link
  pub small : r ≤ u32_most
  pub whole : min u32_most (r + sum_to upto (term p starts s v)) ≡ min u32_most (sum + sum_to (length s / stride) (term p starts s v))

module _ {p starts s chains : List ℕ} {v : ℕ} (c : Chained starts s (length s / stride) chains) where
  -- before the first edge
  pub walking_begin : {sum link : ℕ} → v < max_nodes → sum ≤ u32_most → link ≡ get_or chains v 0 → Walking p starts s v sum link sum
  walking_begin h k e = record {
    upto = length s / stride;
    inside = omega arith;
    last = rw e (c.lasts v h);
    small = k;
    whole = refl;
  }

  module _ {sum link r : ℕ} (w : Walking p starts s v sum link r) where
    -- the link leads to edge i
    module _ (i : ℕ) (is : link ≡ i + 1) where
      -- which is there
      pub walking_there : i < length s / stride
      walking_there = omega (arith, w.last.inside, w.inside)

      -- and is in the chain
      here : start_of starts s i ≡ v
      here = w.last.ends i (omega arith)

      -- one edge more
      pub walking_next : {next r' : ℕ} → r' ≡ min u32_most (r + counted_at p (edge_from i s))
          → next ≡ get_or chains (max_nodes + i) 0 → Walking p starts s v sum next r'
      unfolding sum_to
      walking_next e f =
          let f-i : ℕ → ℕ = term p starts s v in
          let counts : f-i i ≡ counted_at p (edge_from i s) = rw (eq-eqb v (start_of starts s i) (sym here)) refl in
          let parts : sum_to link f-i ≡ f-i i + sum_to i f-i = ap (λ (k : ℕ). sum_to k f-i) (is ∙ add-one i) in
          record {
            upto = i;
            inside = omega (arith, walking_there);
            last = rw f (subst (λ (u : ℕ). Last starts s u i (get_or chains (max_nodes + i) 0)) here (c.befores i walking_there));
            small = omega arith;
            whole = omega (arith, last_sum p starts s v w.last, parts, counts, e, w.whole);
          }

    -- no edge is left
    pub walking_end : link ≡ 0 → r ≡ min u32_most (sum + sum_to (length s / stride) (term p starts s v))
    unfolding sum_to
    walking_end e =
        let none : sum_to link (term p starts s v) ≡ 0 = ap (λ (k : ℕ). sum_to k (term p starts s v)) e in
        omega (arith, last_sum p starts s v w.last, w.whole, w.small)
