-- Reading depends on the first bytes only: a walk of at most m numbers looks at no byte behind them, and what is longer
-- is refused at a byte that is looked at.
use Prim.Native.Nat.{ℕ, ◌+◌, ◌*◌, ◌≤◌, ◌<◌}
use Rattle.std.specs.Prelude.{◌≡◌, List, ◌++◌, take, drop}
use Rattle.std.proofs.Math.Path.{refl, ap}
use Rattle.std.proofs.Common.{sym, ◌∙◌, arith, take-append-drop, take_all}
use Rattle.std.proofs.Math.Logic.{⊎_elim}
use Rattle.std.proofs.Math.ListN.{length, length-append}
use Rattle.std.proofs.Math.Seq.{take-append-le, length-take-le}
use borrow.Author.Tests.{lt-ltb, le-ltb}
use Rattle.leb128.specs.Limits.{number_bytes}
use Rattle.leb128.specs.Grammar.{Form, Grammar, Rule}
use Rattle.leb128.specs.Source.{in_bytes}
use Rattle.leb128.specs.Source.Item.{value}
use Rattle.leb128.specs.Walk.{Walk, checked, walk}
use Rattle.leb128.specs.Walk.Walk.{whole, refused}
use Rattle.leb128.specs.Format.{complete, walk_bytes, made, reading}
use Rattle.leb128.specs.Format.Result.{elements}
use Rattle.leb128.specs.laws.Cases.{lt_or_le}
use Rattle.leb128.specs.laws.ItemCases.{front_item}
use Rattle.leb128.specs.laws.StepCases.{checked_value, followed_same}
use Rattle.leb128.specs.laws.EachNumber.{Each}
use Rattle.leb128.specs.laws.EachNumber.Each.{end, each}
use Rattle.leb128.specs.laws.AcceptedNumbers.{Chain}
use Rattle.leb128.specs.laws.GoodFormat.{good_bytes, good_reading}
use Rattle.leb128.specs.laws.AcceptedNumbers.Chain.{none, more}
use Rattle.leb128.specs.laws.Offsets.{byte_steps}

-- the next position
after_most : (form : Form) (bytes : List ℕ) (at n after : ℕ) → in_bytes bytes form at ≡ value n after → after ≤ at + number_bytes
after_most form bytes at n after e = rw e at (byte_steps bytes form at)

module _ {P : Form → Rule → Type 0} where
  -- the position behind m numbers
  last_most : {m : ℕ} {grammar : Grammar} {ns : List ℕ} {at last : ℕ} (bytes : List ℕ) → Each P m grammar
      → Chain (in_bytes bytes) grammar at ns last → last ≤ at + number_bytes * m
  last_most bytes end none = omega arith
  last_most bytes (each {form = form} p s) (more {at = at} {after = after} {n = n} ok i chain) =
      omega (arith, after_most form bytes at n after i, last_most bytes (s n ok) chain)

  module _ (front rest : List ℕ) where
    -- a walk looks at a front only
    front_walk : {m : ℕ} {grammar : Grammar} → Each P m grammar → (at : ℕ) → at + number_bytes * m ≤ length front
        → walk grammar (in_bytes (front ++ rest)) at ≡ walk grammar (in_bytes front) at
    unfolding walk in_bytes
    front_walk end at h = refl
    front_walk (each {m} {form} {rule} {next} p s) at h =
        rw (front_item front rest at (omega arith))
        (followed_same (checked rule at (in_bytes front form at)) (λ n after. walk (next n) (in_bytes (front ++ rest)) after)
        (λ n after. walk (next n) (in_bytes front) after)
        (λ n after i.
        let c = checked_value rule at n after (in_bytes front form at) i in
        front_walk (s n c.1) after (omega (arith, after_most form front at n after c.0))))

    module _ (magic : List ℕ) {m : ℕ} {grammar : Grammar} (most : Each P m grammar)
        (long : length magic + number_bytes * m < length front) where
      -- what follows a front is refused alike
      front_complete : (walk : Walk) → ((last : ℕ) (ns : List ℕ) → walk ≡ whole last ns → last < length front)
          → complete (length (front ++ rest)) walk ≡ complete (length front) walk
      unfolding complete
      front_complete (whole last ns) h =
          rw (
            lt-ltb last (length front) (h last ns refl),
            lt-ltb last (length (front ++ rest)) (omega (arith, h last ns refl, length-append front rest)),
          )
      front_complete (refused r) h = refl

      -- bytes are walked by their front
      front_bytes : walk_bytes magic grammar (front ++ rest) ≡ walk_bytes magic grammar front
      unfolding walk_bytes
      front_bytes =
          rw (
            le-ltb (length (front ++ rest)) (length magic) (omega (arith, length-append front rest)),
            le-ltb (length front) (length magic) (omega arith),
            take-append-le (length magic) front rest (omega arith),
            front_walk most (length magic) (omega arith),
          )

      -- and completed by it
      pub front_whole : complete (length (front ++ rest)) (walk_bytes magic grammar (front ++ rest))
          ≡ complete (length front) (walk_bytes magic grammar front)
      front_whole =
          rw front_bytes
          (front_complete (walk_bytes magic grammar front)
          (λ last ns e. omega (arith, last_most front most (good_bytes magic grammar front last ns e).chain)))

  -- the first bytes are enough
  pub front_reading : (magic : List ℕ) {m : ℕ} {grammar : Grammar} → Each P m grammar → (bytes : List ℕ)
      → reading magic grammar (take (length magic + number_bytes * m + 1) bytes) ≡ reading magic grammar bytes
  unfolding reading
  front_reading magic {m} {grammar} most bytes =
      let limit : ℕ = length magic + number_bytes * m + 1 in
      ⊎_elim
      (λ (h : limit < length bytes).
      ap (made (λ ns. ns)) (sym (front_whole (take limit bytes) (drop limit bytes) magic most
      (omega (arith, length-take-le limit bytes (omega arith)))))
      ∙ ap (reading magic grammar) (take-append-drop limit bytes))
      (λ (h : length bytes ≤ limit). ap (reading magic grammar) (take_all limit bytes h))
      (lt_or_le limit (length bytes))

  -- bytes that are read are no longer than the magic and so many numbers
  pub most_bytes : (magic : List ℕ) {m : ℕ} {grammar : Grammar} → Each P m grammar → (bytes numbers : List ℕ)
      → reading magic grammar bytes ≡ elements numbers → length bytes ≤ length magic + number_bytes * m
  most_bytes magic {grammar = grammar} most bytes numbers e =
      let g = good_reading magic grammar bytes numbers e in
      omega (arith, g.ends, last_most bytes most g.good.chain)
