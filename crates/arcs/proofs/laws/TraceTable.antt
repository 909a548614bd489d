-- A table with a number for each pair of ends: edges that join two layers share an index exactly where they are parallel, since an
-- upper end stands in one layer. So storing the number of one edge changes the numbers of the edges parallel to it.
use Prim.Native.Nat.{ℕ, zero, suc, max, ◌+◌, ◌-◌, ◌≤◌, ◌<◌}
use mathlib.Core.Path.{◌≡◌, refl, sym, ◌∙◌, ap, ap₂}
use mathlib.Core.Bool.{Bool, true, false, not}
use mathlib.Core.List.{List, [], ◌∷◌}
use mathlib.Core.Logic.{⊎_elim}
use native.Mathlib.Nat.{le_of_eq}
use native.Mathlib.Omega.{arith}
use lib.Dec.{T}
use lib.ListN.{length, get_or, set, length-set, replicate, length-replicate}
use lib.Seq.{get_or-set_same, get_or-set_other}
use Rattle.leb128.specs.laws.Cases.{lt_or_le}
use Rattle.network.specs.laws.Tests.{is_true, is_false, not_both}
use Rattle.sheet.specs.Layout.{edge_layer_at}
use Rattle.drawing.specs.Sheet.{Edge, first_nodes, edge_of}
use Rattle.drawing.specs.Traces.{parallel}
use Rattle.drawing.specs.laws.Good.{GoodEdge}
use Rattle.drawing.specs.laws.GoodNumbers.{next_first, first_nodes_length}
use Rattle.drawing.specs.laws.Traces.{parallel_ends, ends_parallel, greatest_same}
use Rattle.arcs.specs.inside.Traces.{strength, strongest, left_over, slot_of, slot, Joins, Rising, Blank, Tabled}

-- the first nodes of layers never fall
pub rising : (k v : ℕ) (s : List ℕ) → Rising (first_nodes k v s)
rising k v s = record { next = λ i h. omega (arith, next_first k v s i (omega (arith, first_nodes_length k v s))) }

-- a good edge joins two layers
pub joins : {n : ℕ} {first : List ℕ} (s : List ℕ) → GoodEdge n first s → Joins first (edge_of first s)
joins {n} {first} s g =
    let r : ℕ = get_or s edge_layer_at 0 in
    let up : suc (r - 1) ≡ r = omega (arith, g.layer) in
    let down : r + 1 - 1 ≡ r = omega arith in
    let here : get_or first (suc (r - 1)) 0 ≡ get_or first r 0 = ap (λ (j : ℕ). get_or first j 0) up in
    let behind : get_or first (r + 1 - 1) 0 ≡ get_or first r 0 = ap (λ (j : ℕ). get_or first j 0) down in
    record {
      layer = r - 1;
      there = omega (arith, g.layer);
      after = omega arith;
      inside = omega (arith, g.inside);
      below = omega arith;
      near = omega (arith, g.near, g.positions);
    }

-- parallel edges share an index
slot_shared : (a b : Edge) → T (parallel a b) → slot a ≡ slot b
slot_shared a b t = let e = parallel_ends a b t in ap₂ slot_of e.0 e.1

module _ {first : List ℕ} (rise : Rising first) where
  -- over several layers
  rises : (i k : ℕ) → i + k < length first → get_or first i 0 ≤ get_or first (i + k) 0
  rises i zero h = le_of_eq (ap (λ (j : ℕ). get_or first j 0) (omega arith))
  rises i (suc k) h =
      let next : i + suc k ≡ suc (i + k) = omega arith in
      omega (arith, rises i k (omega arith), rise.next (i + k) (omega arith), ap (λ (j : ℕ). get_or first j 0) next)

  -- an upper end does not stand in an earlier layer, too
  not_earlier : (a b : Edge) (x : Joins first a) (y : Joins first b) → a.upper ≡ b.upper → x.layer < y.layer → ⊥
  not_earlier a b x y e h =
      let k : ℕ = y.layer - suc x.layer in
      let there : suc x.layer + k ≡ y.layer = omega arith in
      omega (
        arith,
        x.inside,
        y.after,
        rises (suc x.layer) k (omega (arith, y.there)),
        ap (λ (j : ℕ). get_or first j 0) there,
      )

  -- edges with the same upper end join the same layers
  same_layer : (a b : Edge) (x : Joins first a) (y : Joins first b) → a.upper ≡ b.upper → x.layer ≡ y.layer
  same_layer a b x y e =
      ⊎_elim
      (λ (h : x.layer < y.layer). absurd (not_earlier a b x y e h))
      (λ (h : y.layer ≤ x.layer).
      ⊎_elim
      (λ (k : y.layer < x.layer). absurd (not_earlier b a y x (sym e) k))
      (λ (k : x.layer ≤ y.layer). omega arith)
      (lt_or_le y.layer x.layer))
      (lt_or_le x.layer y.layer)

  -- edges that share an index are parallel
  slot_apart : (a b : Edge) → Joins first a → Joins first b → slot a ≡ slot b → T (parallel a b)
  slot_apart a b x y e =
      let up : a.upper ≡ b.upper = omega arith in
      let next : get_or first (suc x.layer) 0 ≡ get_or first (suc y.layer) 0 =
      ap (λ (j : ℕ). get_or first (suc j) 0) (same_layer a b x y up) in
      ends_parallel a b up (omega (arith, x.below, x.near, y.below, y.near))

  -- the number of an edge is stored: that of parallel edges is the new one, all others stay
  stored : {table : List ℕ} {f g : Edge → ℕ} (e : Edge) (n : ℕ) → Tabled first table f → Joins first e
      → ((x : Edge) → T (parallel x e) → n ≡ g x) → ((x : Edge) → T (not (parallel x e)) → f x ≡ g x)
      → Tabled first (set table (slot e) n) g
  stored {table} {f} {g} e n t j same other = record {
    room = λ x k. omega (arith, t.room x k, length-set table (slot e) n);
    number = λ x k. by_case x k (parallel x e) refl;
  }
    where
      by_case : (x : Edge) → Joins first x → (b : Bool) → parallel x e ≡ b → get_or (set table (slot e) n) (slot x) 0 ≡ g x
      by_case x k true p =
          ap (λ (i : ℕ). get_or (set table (slot e) n) i 0) (slot_shared x e (rw p tt))
          ∙ get_or-set_same table (slot e) n 0 (t.room e j)
          ∙ same x (rw p tt)
      by_case x k false p =
          get_or-set_other table (slot e) (slot x) n 0 (λ i. not_both (parallel x e) (slot_apart x e k j i) (rw p tt))
          ∙ t.number x k
          ∙ other x (rw p tt)

  -- one edge more raises the number of its ends to its strength
  pub raised : {table : List ℕ} (es : List Edge) (e : Edge) → Tabled first table (strongest es) → Joins first e
      → Tabled first (set table (slot e) (max (strength e) (get_or table (slot e) 0))) (strongest (e ∷ es))
  raised {table} es e t j =
      stored e (max (strength e) (get_or table (slot e) 0)) t j
      (λ x p. let ends = parallel_ends x e p in
      ap (max (strength e)) (t.number e j ∙ sym (greatest_same strength x e ends.0 ends.1 es)) ∙ rw (is_true (parallel x e) p))
      (λ x p. rw (is_false (parallel x e) p))

  -- one edge more takes the number of its ends
  pub taken : {table : List ℕ} (es before : List Edge) (e : Edge) → Tabled first table (left_over es before) → Joins first e
      → Tabled first (set table (slot e) 0) (left_over es (e ∷ before))
  taken es before e t j =
      stored e 0 t j (λ x p. rw (is_true (parallel x e) p)) (λ x p. rw (is_false (parallel x e) p))

  -- an upper end is before the last first node
  upper_before : (last : ℕ) → length first ≡ suc last → (e : Edge) → Joins first e → e.upper < get_or first last 0
  upper_before last long e x =
      let k : ℕ = last - suc x.layer in
      let there : suc x.layer + k ≡ last = omega (arith, x.there) in
      omega (
        arith,
        x.inside,
        rises (suc x.layer) k (omega arith),
        ap (λ (j : ℕ). get_or first j 0) there,
      )

  -- a table of zeros for all nodes, whose count is the last first node
  pub blank_tabled : (last : ℕ) → length first ≡ suc last → {table : List ℕ} → Blank (get_or first last 0) table
      → Tabled first table (strongest [])
  blank_tabled last long {table} b = record {
    room = λ x j. omega (
      arith,
      upper_before last long x j,
      b.enough,
      ap length b.zeros ∙ length-replicate {A = ℕ} b.size 0,
    );
    number = λ x j. ap (λ (t : List ℕ). get_or t (slot x) 0) b.zeros ∙ none b.size (slot x);
  }
    where
      none : (n i : ℕ) → ◌≡◌ {A = ℕ} (get_or (replicate n 0) i 0) 0
      none zero i = refl
      none (suc n) zero = refl
      none (suc n) (suc i) = none n i
