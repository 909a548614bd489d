-- Every number of a sheet is held as itself, is small, and meets refusals 4 and 5 only; and a walk takes at most 2,559 of
-- them: one induction along the grammar.
use Rattle.std.specs.Prelude.{ℕ, zero, suc, ◌+◌, ◌-◌, ◌*◌, ◌≤◌, ◌<◌, min, ◌≡◌, refl, ◌⊎◌, true, false, ◌&&◌, not, List, [], ◌∷◌, ◌++◌, length, get_or, ltb, eqb}
use Rattle.std.proofs.Common.{inl, inr, ⊎_elim, arith, length-append, eq-eqb, ne_eqb, lt-ltb}
use Rattle.leb128.specs.Limits.{number_limit, list_limit}
use Rattle.leb128.specs.Grammar.{Form, Grammar, Rule, plain, within, both}
use Rattle.leb128.specs.laws.Cases.{test, eq_or_ne, lt_or_le}
use Rattle.leb128.specs.laws.EachNumber.{Each, first, each_more, within_limits}
use Rattle.leb128.specs.laws.EachNumber.Each.{end}
use Rattle.leb128.specs.laws.RefusalsGiven.{Gives, within_gives}
use Rattle.sheet.specs.Refusals.{separations_crossed, NumberRefusal}
use Rattle.sheet.specs.Refusals.NumberRefusal.{outside, apart}
use Rattle.sheet.specs.Limits.{max_width, max_kind, max_layers, max_layer_nodes, max_nodes, max_separation, max_edges, max_numbers}
use Rattle.sheet.specs.Layout.{first_layer_at, separation_stride, layer_size, edges_at, edge_stride}
use Rattle.sheet.specs.Grammar.{crossed, maximum_rule, separation, separations, layers, edge, edges, sheet}

-- what holds of each number of a sheet
pub record SheetNumber (form : Form) (rule : Rule) : Type 0 where
  pub is_plain : form ≡ plain
  pub small : (n : ℕ) → rule n ≡ 0 → (n < number_limit) × (n < list_limit)
  pub gives : Gives NumberRefusal form rule

-- a number within limits
limited : (low high : ℕ) → high ≤ max_separation → SheetNumber plain (within low high)
limited low high h =
    record {
      is_plain = refl;
      small = λ n ok. (omega (arith, within_limits low high n ok), omega (arith, within_limits low high n ok));
      gives = within_gives NumberRefusal outside plain low high;
    }

-- a maximum separation
both_zero : (one other : Rule) (n : ℕ) → both one other n ≡ 0 → one n ≡ 0
unfolding both
both_zero one other n e =
    ⊎_elim
    (λ (z : one n ≡ 0). z)
    (λ (z : one n ≡ 0 → ⊥). rw (ne_eqb (one n) 0 z) at e)
    (eq_or_ne (one n) 0)

-- crossed separations give refusal 5
crossed_gives : (least n : ℕ) → (crossed least n ≡ 0) ⊎ NumberRefusal (crossed least n)
unfolding crossed
crossed_gives least n =
    ⊎_elim
    (λ (t : (not (eqb n 0) && ltb n least) ≡ true). inr (rw t apart))
    (λ (t : (not (eqb n 0) && ltb n least) ≡ false). inl (rw t))
    (test (not (eqb n 0) && ltb n least))

-- a maximum separation gives 4 or 5
both_gives : (least n : ℕ) → (maximum_rule least n ≡ 0) ⊎ NumberRefusal (maximum_rule least n)
unfolding both
both_gives least n =
    ⊎_elim
    (λ (z : within 0 max_separation n ≡ 0). rw (eq-eqb (within 0 max_separation n) 0 z) (crossed_gives least n))
    (λ (z : within 0 max_separation n ≡ 0 → ⊥). rw (ne_eqb (within 0 max_separation n) 0 z)
    (within_gives NumberRefusal outside plain 0 max_separation n))
    (eq_or_ne (within 0 max_separation n) 0)

-- a maximum separation is small
maximum : (least : ℕ) → SheetNumber plain (maximum_rule least)
maximum least =
    record {
      is_plain = refl;
      small = λ n ok. (limited 0 max_separation (omega arith)).small n (both_zero (within 0 max_separation) (crossed least) n ok);
      gives = both_gives least;
    }

-- a maximum separation that is accepted is within its limits
pub maximum_within : (least n : ℕ) → maximum_rule least n ≡ 0 → n ≤ max_separation
maximum_within least n ok = (within_limits 0 max_separation n (both_zero (within 0 max_separation) (crossed least) n ok)).1

-- and, where it is set, not below its minimum
pub maximum_apart : (least n : ℕ) → maximum_rule least n ≡ 0 → 0 < n → least ≤ n
unfolding both crossed
maximum_apart least n ok pos =
    ⊎_elim
    (λ (below : n < least).
    let in-limits = eq-eqb (within 0 max_separation n) 0 (both_zero (within 0 max_separation) (crossed least) n ok) in
    let e = rw (in-limits, ne_eqb n 0 (omega arith), lt-ltb n least below) at ok in
    let z : ◌≡◌ {A = ℕ} separations_crossed 0 = e in absurd (omega arith))
    (λ (h : least ≤ n). h)
    (lt_or_le n least)

-- the pairs of a layer
each_separations : (n m : ℕ) {next : Grammar} → Each SheetNumber m next
    → Each SheetNumber (separation_stride * n + m) (separations n next)
unfolding separations separation
each_separations zero m s = each_more (omega arith) s
each_separations (suc n) m s =
    first (omega arith) (limited 1 max_separation (omega arith)) λ least low.
    first (omega arith) (maximum least) λ greatest high.
    each_more (omega arith) (each_separations n m s)

-- counts of nodes
abbrev Counts : List ℕ → Type 0
Counts counts = (i : ℕ) → get_or counts i 0 ≤ max_layer_nodes

-- one count more
counts_more : (counts : List ℕ) (nodes : ℕ) → Counts counts → nodes ≤ max_layer_nodes → Counts (counts ++ nodes ∷ [])
counts_more [] nodes c h zero = h
counts_more [] nodes c h (suc i) = omega arith
counts_more (count ∷ counts) nodes c h zero = c zero
counts_more (count ∷ counts) nodes c h (suc i) = counts_more counts nodes (λ j. c (suc j)) h i

-- n layers of at most room nodes, and of at most 64 each, have one number for each layer and two for each pair
each_layers : (n room m bound : ℕ) (counts : List ℕ) {next : List ℕ → Grammar} → n < m
    → min (separation_stride * room) (separation_stride * max_layer_nodes * n) + m ≤ bound + n → Counts counts
    → ((all : List ℕ) → length all ≡ length counts + n → Counts all → Each SheetNumber m (next all))
    → Each SheetNumber bound (layers n room counts next)
unfolding layers
each_layers zero room m bound counts more h c s = each_more (omega arith) (s counts (omega arith) c)
each_layers (suc n) room m bound counts more h c s =
    first (omega arith) (limited 1 (min max_layer_nodes room) (omega arith)) λ nodes ok.
    let l = within_limits 1 (min max_layer_nodes room) nodes ok in
    let left : ℕ = bound - layer_size nodes in
    each_more (omega (arith, l))
    (each_separations (nodes - 1) left
    (each_layers n (room - nodes) m left (counts ++ nodes ∷ []) (omega arith) (omega (arith, l))
    (counts_more counts nodes c (omega (arith, l)))
    (λ all e d. s all (omega (arith, length-append counts (nodes ∷ []))) d)))

-- the edges
each_edges : (n : ℕ) (counts : List ℕ) → length counts ≤ max_layers → Counts counts
    → Each SheetNumber (edge_stride * n) (edges n counts)
unfolding edges edge
each_edges zero counts h c = end
each_edges (suc n) counts h c =
    first (omega arith) (limited 1 (length counts - 1) (omega arith)) λ layer low.
    first (omega arith) (limited 1 (get_or counts (layer - 1) 0) (omega (arith, c (layer - 1)))) λ upper high.
    first (omega arith) (limited 1 (get_or counts layer 0) (omega (arith, c layer))) λ lower ok.
    first (omega arith) (limited 0 max_kind (omega arith)) λ kind fine.
    each_more (omega arith) (each_edges n counts h c)

-- the sheet
pub each_sheet : Each SheetNumber max_numbers sheet
unfolding sheet
each_sheet =
    first (omega arith) (limited 0 max_width (omega arith)) λ width low.
    first (omega arith) (limited 1 max_layers (omega arith)) λ n ok.
    let l = within_limits 1 max_layers n ok in
    each_layers n max_nodes (edges_at + edge_stride * max_edges) (max_numbers - first_layer_at) [] (omega (arith, l)) (omega (arith, l))
    (λ i. omega arith) λ counts e c.
    first (omega arith) (limited 0 max_edges (omega arith)) λ m fine.
    each_more (omega (arith, within_limits 0 max_edges m fine)) (each_edges m counts (omega (arith, l)) c)
