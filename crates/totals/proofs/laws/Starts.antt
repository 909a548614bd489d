-- Where layers start: first nodes that rise are nodes, in order, so each node is in one layer; and a pass over the nodes that goes on to
-- the next layer at its first node finds the layer of each.
use Prim.Native.Nat.{ℕ, zero, suc, ◌+◌, ◌-◌, ◌≤◌, ◌<◌}
use mathlib.Core.Path.{◌≡◌, refl, sym, ◌∙◌, ap}
use mathlib.Core.Bool.{Bool, true, false, cond, ◌&&◌}
use mathlib.Core.Logic.{⊎_elim}
use mathlib.Core.List.{List, [], ◌∷◌}
use native.Mathlib.Omega.{arith}
use lib.Dec.{T, eqb, eqb→eq, leb, ltb, ltb→lt, lt→ltb}
use lib.ListN.{length, get_or, get_or-eq_default}
use borrow.Author.Tests.{eq-eqb, ne_eqb, le-leb, lt-leb, lt-ltb, le-ltb}
use Rattle.leb128.specs.laws.Cases.{lt_or_le, eq_or_ne}
use Rattle.sheet.specs.Limits.{max_nodes}
use Rattle.network.specs.Sums.{below}
use Rattle.network.specs.laws.Tests.{and_left, and_right, is_true, is_false, fails, below_at, at_below}
use Rattle.totals.specs.RunningSums.{layer_start, rises}
use Rattle.totals.specs.inside.Chains.{InLayer, Near, StartAt}

-- a number that is there, whatever stands for one that is not
pub any_default : (l : List ℕ) (i d e : ℕ) → i < length l → get_or l i d ≡ get_or l i e
any_default [] i d e h = absurd (omega arith)
any_default (x ∷ l) zero d e h = refl
any_default (x ∷ l) (suc i) d e h = any_default l i d e (omega arith)

-- each first node is before the next one, and the last one is a node
abbrev pub Rising : List ℕ → Type 0
Rising first = (i : ℕ) → i < length first → layer_start first (i + 1) < layer_start first (i + 2)

module _ (first : List ℕ) where
  -- the test at an index
  abbrev rise : ℕ → Bool
  rise i = ltb (layer_start first (i + 1)) (layer_start first (i + 2))

  -- the tests at all of them
  all_rise : T (rises first) → T (below (length first) rise)
  all_rise t = and_right (eqb (layer_start first 1) 0) (below (length first) rise) t

  -- so each is before the next one
  rising : T (rises first) → Rising first
  rising t i h =
      ltb→lt (layer_start first (i + 1)) (layer_start first (i + 2)) (below_at (length first) rise (all_rise t) i h)

  -- what passes exactly if they rise
  pub rising_tested : {r : Bool} → layer_start first 1 ≡ 0 → (r ≡ true → Rising first) → (Rising first → r ≡ true) → r ≡ rises first
  rising_tested {r = true} e given back =
      rw (eq-eqb (layer_start first 1) 0 e)
      (sym
      (is_true (below (length first) rise)
      (at_below (length first) rise (λ i h. lt→ltb (layer_start first (i + 1)) (layer_start first (i + 2)) (given refl i h)))))
  rising_tested {r = false} e given back = sym (is_false (rises first) (fails (rises first) (λ t. absurd_of (back (rising t)))))
    where
      absurd_of : false ≡ true → ⊥
      absurd_of f = cc

module _ (first : List ℕ) (t : T (rises first)) where
  -- the first layer starts at node 0
  pub starts_zero : layer_start first 1 ≡ 0
  starts_zero = eqb→eq (layer_start first 1) 0 (and_left (eqb (layer_start first 1) 0) (below (length first) (rise first)) t)

  -- a layer starts before the next one
  pub starts_rise : {layer : ℕ} → 1 ≤ layer → layer ≤ length first → layer_start first layer < layer_start first (layer + 1)
  starts_rise {layer} h k =
      let i : ℕ = layer - 1 in
      let this : i + 1 - 1 ≡ layer - 1 = omega arith in
      let next : i + 2 - 1 ≡ layer + 1 - 1 = omega arith in
      rw (this, next) at (rising first t i (omega arith))

  -- so it starts no later than any layer behind it
  starts_order : {layer : ℕ} (d : ℕ) → 1 ≤ layer → layer + d ≤ length first + 1 → layer_start first layer ≤ layer_start first (layer + d)
  starts_order {layer} zero h k = let none : layer + 0 ≡ layer = omega arith in rw none (omega arith)
  starts_order {layer} (suc d) h k =
      let next : layer + suc d ≡ layer + d + 1 = omega arith in
      rw next (omega (arith, starts_order d h (omega arith), starts_rise {layer = layer + d} (omega arith) (omega arith)))

  -- the same of two layers
  ordered : {a b : ℕ} → 1 ≤ a → a ≤ b → b ≤ length first + 1 → layer_start first a ≤ layer_start first b
  ordered {a} {b} h k l = let back : a + (b - a) ≡ b = omega arith in rw back at (starts_order (b - a) h (omega arith))

  -- behind the last layer is no node
  behind : layer_start first (length first + 1) ≡ max_nodes
  behind = get_or-eq_default first max_nodes (omega arith)

  -- a layer starts at a node
  pub starts_node : {layer : ℕ} → 1 ≤ layer → layer ≤ length first → layer_start first layer < max_nodes
  starts_node {layer} h k =
      omega (arith, starts_rise h k, ordered {a = layer + 1} {b = length first + 1} (omega arith) (omega arith) (omega arith), behind)

  -- a node is in one layer
  one_layer : {a b v : ℕ} → InLayer first a v → InLayer first b v → a ≡ b
  one_layer {a} {b} i j =
      ⊎_elim
      (λ (l : a < b).
      absurd (omega (arith, ordered {a = a + 1} {b = b} (omega arith) (omega arith) (omega (arith, j.there)), i.before, j.after)))
      (λ (l : b ≤ a).
      ⊎_elim
      (λ (e : a ≡ b). e)
      (λ (ne : a ≡ b → ⊥).
      absurd (omega (arith, ordered {a = b + 1} {b = a} (omega arith) (omega arith) (omega (arith, i.there)), j.before, i.after)))
      (eq_or_ne a b))
      (lt_or_le a b)

  -- a layer's first node is in it
  first_in : {layer : ℕ} → 1 ≤ layer → layer ≤ length first → InLayer first layer (layer_start first layer)
  first_in h k = record { some = h; there = k; after = omega arith; before = starts_rise h k }

  -- a layer starts at the first node of v's layer exactly where v is in it
  pub start_in : {layer v start : ℕ} → 1 ≤ layer → layer ≤ length first → StartAt first v start → (n : ℕ)
      → cond (eqb (layer_start first layer) start) n 0
      ≡ cond (leb (layer_start first layer) v && ltb v (layer_start first (layer + 1))) n 0
  start_in {layer} {v} {start} h k at n =
      ⊎_elim
      (λ (l : v < layer_start first layer).
      rw (
        lt-leb (layer_start first layer) v l,
        ne_eqb (layer_start first layer) start (λ e. omega (arith, at.is, at.inside.after)),
      )
      refl)
      (λ (l : layer_start first layer ≤ v).
      ⊎_elim
      (λ (m : v < layer_start first (layer + 1)).
      let in-it : InLayer first layer v = record { some = h; there = k; after = l; before = m } in
      let same : layer_start first layer ≡ start = ap (layer_start first) (one_layer in-it at.inside) ∙ sym at.is in
      rw (
        le-leb (layer_start first layer) v l,
        lt-ltb v (layer_start first (layer + 1)) m,
        eq-eqb (layer_start first layer) start same,
      )
      refl)
      (λ (m : layer_start first (layer + 1) ≤ v).
      rw (
        le-leb (layer_start first layer) v l,
        le-ltb v (layer_start first (layer + 1)) m,
        ne_eqb (layer_start first layer) start (λ e. later m e),
      )
      refl)
      (lt_or_le v (layer_start first (layer + 1))))
      (lt_or_le v (layer_start first layer))
    where
      later : layer_start first (layer + 1) ≤ v → layer_start first layer ≡ start → ⊥
      later m e =
          let other : InLayer first at.layer (layer_start first layer) =
          rw (e ∙ at.is) (first_in at.inside.some at.inside.there) in
          let same : at.layer ≡ layer = one_layer other (first_in h k) in
          let end : layer_start first (at.layer + 1) ≡ layer_start first (layer + 1) = ap (λ (b : ℕ). layer_start first (b + 1)) same in
          omega (arith, at.inside.before)

  -- the next layer is reached
  pub near_next : {layer v : ℕ} → Near first layer v → v < max_nodes → layer_start first (layer + 1) ≤ v → InLayer first (layer + 1) v
  near_next {layer} {v} n h k =
      record {
        some = omega arith;
        there = reached;
        after = k;
        before = omega (arith, n.before, starts_rise {layer = layer + 1} (omega arith) reached);
      }
    where
      reached : layer + 1 ≤ length first
      reached =
          ⊎_elim
          (λ (l : layer < length first). omega arith)
          (λ (l : length first ≤ layer).
          let last : layer ≡ length first = omega (arith, n.there) in
          absurd (omega (arith, ap (λ (b : ℕ). layer_start first (b + 1)) last, behind)))
          (lt_or_le layer (length first))

-- on the way through the nodes: those before v have the first node of their layer, and v is near the last layer found
pub record StartsTo (first starts : List ℕ) (layer v : ℕ) : Type 0 where
  pub size : length starts ≤ max_nodes
  pub near : Near first layer v
  pub each : (u : ℕ) → u < v → StartAt first u (get_or starts u 0)
