-- The nested loops over the layers and the pairs of each: what is read so far, and what follows from the cursor on.
use Prim.Native.Nat.{ℕ, suc, ◌+◌, ◌-◌, ◌≤◌, ◌<◌, min}
use mathlib.Core.Path.{◌≡◌, refl, sym, ◌∙◌, ap}
use mathlib.Core.List.{List, [], ◌∷◌, ◌++◌}
use native.Mathlib.Omega.{arith}
use native.Mathlib.Nat.{sub-zero}
use native.Mathlib.Numerals.{add-one}
use lib.ListN.{length, take, set, length-set}
use lib.Seq.{take-suc-set, take-length}
use Rattle.sheet.specs.Limits.{max_nodes, max_layer_nodes}
use Rattle.leb128.specs.Grammar.{Grammar}
use Rattle.sheet.specs.Grammar.{separations, layers}
use Rattle.sheet.specs.inside.Cursor.{Counted, Limited, walk_from, onward, OfValue, Separation, LayersRead}
use Rattle.sheet.specs.declared.Cursor.{Cursor}
use Rattle.leb128.specs.declared.Refusal.{Refusal}
use Rattle.sheet.specs.declared.Input.{Input}
use Rattle.std.specs.Prelude.{Ok, Err}
use Rattle.sheet.specs.inside.Cursor.{Step}
use Rattle.sheet.proofs.laws.WalkSteps.{good_value}

-- step ends at the cursor c
pub record Here (input : Input) (step : Step) (c : Cursor) : Type 0 where
  pub last : ℕ
  pub is : step ≡ Ok (last, c)
  pub counted : Counted input c

-- the pairs of a layer: from c on, in the place of nodes - first pairs from start on, nodes - pair pairs follow
pub record PairsLeft (input : Input) (start : Cursor) (nodes first : ℕ) (step : Step) (c : Cursor) (pair : ℕ) : Type 0 where
  pub here : Here input step c
  pub turns : pair ≤ nodes
  pub same : (next : Grammar)
      → walk_from input c (separations (nodes - pair) next) ≡ walk_from input start (separations (nodes - first) next)

module _ {input : Input} {start c : Cursor} {nodes first pair : ℕ} {before step : Step} (left : PairsLeft input start nodes first before c pair) (more : pair < nodes) (read : Separation input c step) where
  -- a pair is read, and the others follow
  pair_on : (next : Grammar)
      → onward input step (λ m. separations (nodes - (pair + 1)) next) ≡ walk_from input start (separations (nodes - first) next)
  unfolding separations
  pair_on next =
      let e : nodes - pair ≡ suc (nodes - (pair + 1)) = omega arith in
      sym (read.reads.follows (λ m. separations (nodes - (pair + 1)) next)) ∙ rw e at (left.same next)

  -- a pair is read
  pub pair_next : {m : ℕ} {next : Cursor} → step ≡ Ok (m, next) → PairsLeft input start nodes first step next (pair + 1)
  unfolding onward
  pair_next {m} e = record { here = record { last = m; is = e; counted = (good_value read.reads e).0 }; turns = omega arith; same = λ next. rw e at (pair_on next) }

-- the layers are as many as their counts
layers_read : {input : Input} {start : Cursor} {n : ℕ} {counts : List ℕ} {r : Step} → length counts ≡ n
    → ((next : List ℕ → Grammar) → walk_from input start (layers n max_nodes [] next) ≡ onward input r (λ m. next counts))
    → OfValue r (λ m c. Counted input c) → LayersRead input start counts r
layers_read {input} {start} size follows good =
    record {
      follows = λ next. ap (λ (k : ℕ). walk_from input start (layers k max_nodes [] next)) size ∙ follows next;
      good = good;
    }

-- the layers: i of n are read, room is left for nodes, and the others follow from c on
pub record LayersLeft (input : Input) (start : Cursor) (n : ℕ) (counts : List ℕ) (step : Step) (c : Cursor) (room i : ℕ) : Type 0 where
  pub here : Here input step c
  pub turns : i ≤ n
  pub size : length counts ≡ n
  pub same : (next : List ℕ → Grammar)
      → walk_from input c (layers (n - i) room (take i counts) next) ≡ walk_from input start (layers n max_nodes [] next)

-- no layer is read at the start
pub layers_begin : {input : Input} {start : Cursor} {counts : List ℕ} {step : Step} → Here input step start
    → LayersLeft input start (length counts) counts step start max_nodes 0
layers_begin here = record { here = here; turns = omega arith; size = refl; same = λ next. rw sub-zero }

-- all layers are read
pub layers_end : {input : Input} {start : Cursor} {n : ℕ} {counts : List ℕ} {step : Step} {c : Cursor} {room i : ℕ}
    → LayersLeft input start n counts step c room i → n ≤ i → LayersRead input start counts step
unfolding layers onward
layers_end {input} {n = n} {counts} {c = c} {room} {i} left h =
    let e : n - i ≡ 0 = omega arith in
    let f : i ≡ length counts = omega (arith, left.size) in
    rw left.here.is
    (layers_read left.size (λ next. sym (rw (e, f, take-length counts) at (left.same next))) left.here.counted)

module _ {input : Input} {start c : Cursor} {n room i : ℕ} {counts : List ℕ} {before step : Step} (left : LayersLeft input start n counts before c room i) (more : i < n) (read : Limited input c 1 (min max_layer_nodes room) step) where
  -- a count is read, and its pairs follow
  count_on : (next : List ℕ → Grammar)
      → onward input step (λ nodes. separations (nodes - 1) (layers (n - (i + 1)) (room - nodes) (take i counts ++ nodes ∷ []) next)) ≡ walk_from input start (layers n max_nodes [] next)
  unfolding layers
  count_on next =
      let e : n - i ≡ suc (n - (i + 1)) = omega arith in
      sym (read.reads.follows (λ nodes. separations (nodes - 1) (layers (n - (i + 1)) (room - nodes) (take i counts ++ nodes ∷ []) next))) ∙ rw e at (left.same next)

  -- a count is refused, whatever the counts are then
  pub count_refused : {r : Refusal} {new : List ℕ} → length new ≡ length counts → step ≡ Err r → LayersRead input start new step
  unfolding onward
  count_refused size e = rw e (layers_read (size ∙ left.size) (λ next. sym (rw e at (count_on next))) tt)

  -- a count is read, and its pairs are begun
  module _ {nodes : ℕ} {first : Cursor} (is-count : step ≡ Ok (nodes, first)) where
    -- a count is stored, and its pairs follow
    layer_on : (next : List ℕ → Grammar)
        → walk_from input first (separations (nodes - 1) (layers (n - (i + 1)) (room - nodes) (take (i + 1) (set counts i nodes)) next)) ≡ walk_from input start (layers n max_nodes [] next)
    unfolding onward
    layer_on next =
        let longer : take (i + 1) (set counts i nodes) ≡ take i counts ++ nodes ∷ [] = rw add-one (take-suc-set counts i nodes (omega (arith, left.size))) in
        rw longer (rw is-count at (count_on next))

    module _ {last : Step} {at : Cursor} {pair : ℕ} (pairs : PairsLeft input first nodes 1 last at pair) where
      -- all pairs of a layer are read
      pub layer_next : nodes ≤ pair → LayersLeft input start n (set counts i nodes) last at (room - nodes) (i + 1)
      unfolding separations
      layer_next h =
          let e : nodes - pair ≡ 0 = omega arith in
          record {
            here = pairs.here;
            turns = omega arith;
            size = simp length-set left.size;
            same =
                λ next. (rw e at (pairs.same (layers (n - (i + 1)) (room - nodes) (take (i + 1) (set counts i nodes)) next)))
                ∙ layer_on next;
          }

      -- a pair is refused, whatever the counts are then
      pub pair_refused : {r : Refusal} {answer : Step} {new : List ℕ} → length new ≡ length counts → pair < nodes
          → Separation input at answer → answer ≡ Err r → LayersRead input start new answer
      unfolding onward
      pair_refused size h separation e =
          rw e
          (layers_read (size ∙ left.size)
          (λ next. sym
          (rw e at
          (pair_on pairs h separation
          (layers (n - (i + 1)) (room - nodes) (take (i + 1) (set counts i nodes)) next))
          ∙ layer_on next)) tt)
