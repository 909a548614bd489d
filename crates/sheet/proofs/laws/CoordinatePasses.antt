-- The passes of a coordinate file: the grammar that is left to walk, to read or to write is that of what is awaited.
use Prim.Native.Nat.{ℕ}
use mathlib.Core.Path.{◌≡◌, sym, ◌∙◌, ap}
use mathlib.Core.Bool.{true, false}
use Rattle.leb128.specs.declared.Refusal.{Refusal}
use Rattle.sheet.specs.Coordinates.{coordinates}
use Rattle.sheet.specs.inside.Cursor.{Counted, Ranged, walk_from, onward, walked}
use Rattle.sheet.specs.inside.Awaited.{Steady, rest, more, range_of, behind, InRange}
use Rattle.sheet.specs.declared.Awaited.{Awaited}
use Rattle.sheet.specs.declared.Awaited.TheVariants.{Layers}
use Rattle.sheet.specs.declared.Cursor.{Cursor}
use Rattle.sheet.specs.declared.Input.{Input}
use Rattle.std.specs.Prelude.{Ok, Err}
use Rattle.sheet.specs.inside.Cursor.{Step}
use Rattle.sheet.proofs.laws.WalkSteps.{walk_done, good_value}
use Rattle.sheet.proofs.laws.AwaitedGrammar.{file_same}
use Rattle.sheet.specs.laws.Awaited.{expects, at_end}

-- from c on what is awaited is left to walk
pub record WalkLeft (input : Input) (start c : Cursor) (s : Awaited) : Type 0 where
  pub counted : Counted input c
  pub steady : Steady s
  pub same : walk_from input c (rest s) ≡ walk_from input start coordinates

-- all is left at the start
pub walk_begin : {start : Cursor} (input : Input) → Counted input start → WalkLeft input start start Layers
walk_begin {start} input h =
    record { counted = h; steady = tt; same = ap (walk_from input start) (sym file_same) }

module _ {input : Input} {start c : Cursor} {s : Awaited} (w : WalkLeft input start c s) where
  -- nothing is left
  pub walk_end : more s ≡ false → walked (Ok c) ≡ walk_from input start coordinates
  walk_end e = sym (walk_done input c) ∙ sym (ap (walk_from input c) (at_end s e)) ∙ w.same

  module _ {step : Step} (t : more s ≡ true) (read : Ranged input c (range_of s) step) where
    -- a number is read, and what comes behind it follows
    goes_on : onward input step (expects s w.steady t).next ≡ walk_from input start coordinates
    goes_on =
        let e = expects s w.steady t in
        sym (read.reads.follows e.next) ∙ sym (ap (walk_from input c) e.is) ∙ w.same

    -- a number is refused
    pub walk_refused : {r : Refusal} → step ≡ Err r → walked (Err r) ≡ walk_from input start coordinates
    unfolding onward
    walk_refused e = rw e at goes_on

    -- a number is read
    pub walk_next : {n : ℕ} {next : Cursor} → step ≡ Ok (n, next) → InRange s n × WalkLeft input start next (behind s n)
    unfolding onward
    walk_next {n} {next} e =
        let x = expects s w.steady t in
        let g = good_value read.reads e in (
          g.1,
          record {
            counted = g.0;
            steady = x.steady n g.1;
            same = ap (walk_from input next) (sym (x.then n g.1)) ∙ (rw e at goes_on);
          },
        )
