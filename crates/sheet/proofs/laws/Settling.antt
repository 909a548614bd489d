-- What a walk's last step comes to is what reading and writing answer: refusal 6, refusal 7, or the count.
use Prim.Native.Nat.{ℕ, ◌+◌, ◌≤◌, ◌<◌}
use mathlib.Core.Path.{◌≡◌, refl, ◌∙◌, ap}
use mathlib.Core.Bool.{Bool, true, false, cond}
use mathlib.Core.Logic.{⊎_elim}
use mathlib.Core.List.{List, ◌++◌}
use native.Mathlib.Omega.{arith}
use lib.ListN.{length, length-append}
use lib.Dec.{ltb}
use borrow.Author.Tests.{lt-ltb, le-ltb}
use Rattle.leb128.specs.Refusals.{slice_short}
use Rattle.leb128.specs.Grammar.{Grammar}
use Rattle.leb128.specs.Source.{refusal}
use Rattle.leb128.specs.Walk.{Walk}
use Rattle.leb128.specs.Walk.Walk.{whole, refused}
use Rattle.leb128.specs.Format.{Outcome, complete, walk_bytes, walk_list, encoded, made, reading, writing, answered}
use Rattle.leb128.specs.laws.Cases.{lt_or_le}
use Rattle.sheet.specs.Limits.{magic_bytes}
use Rattle.sheet.specs.inside.Cursor.{Measure, weigh, measured, ended, settled}
use Rattle.sheet.specs.inside.Formats.{magic_of, grammar_of, measured_bytes, measured_list, read_format, write_format}
use Rattle.sheet.specs.declared.Format.{Format}
use Rattle.sheet.proofs.laws.WalkStarts.{magic_size}

-- a measure ends as its walk does
measured_complete : (encoded : Bool) (count stop : ℕ) (grammar : Grammar) (walk : Walk)
    → ended stop (measured encoded count grammar walk) ≡ measured encoded count grammar (complete stop walk)
unfolding ended measured complete
measured_complete encoded count stop grammar (whole at ns) =
    ⊎_elim
    (λ (h : at < stop). rw (lt-ltb at stop h))
    (λ (h : stop ≤ at). rw (le-ltb at stop h))
    (lt_or_le at stop)
measured_complete encoded count stop grammar (refused r) = refl

-- a measure that counts the elements made of a walk settles as they are answered
settled_made : (room : ℕ) (encoded : Bool) (count : ℕ) (grammar : Grammar) (f : List ℕ → List ℕ) (walk : Walk)
    → ((ns : List ℕ) → count + weigh encoded grammar ns ≡ length (f ns))
    → settled room (measured encoded count grammar walk) ≡ answered room (made f walk)
unfolding settled measured answered made
settled_made room encoded count grammar f (whole at ns) h =
    ap (λ (k : ℕ). cond (ltb room k) (Outcome.refused (refusal slice_short 0)) (Outcome.wrote k)) (h ns)
settled_made room encoded count grammar f (refused r) h = refl

module _ (format : Format) (room : ℕ) {step : Measure} {answer : Outcome} where
  -- what reading answers
  pub read_settled : (bytes : List ℕ)
      → step ≡ measured_bytes format bytes
      → answer ≡ settled room (ended (length bytes) step) → answer ≡ answered room (read_format format bytes)
  unfolding reading
  read_settled bytes s a =
      a ∙ ap (λ (m : Measure). settled room (ended (length bytes) m)) s
      ∙ ap (settled room)
      (measured_complete true 0 (length bytes) (grammar_of format) (walk_bytes (magic_of format) (grammar_of format) bytes))
      ∙ settled_made room true 0 (grammar_of format) (λ ns. ns)
      (complete (length bytes) (walk_bytes (magic_of format) (grammar_of format) bytes)) (λ ns. omega arith)

  -- what writing answers
  pub write_settled : (numbers : List ℕ)
      → step ≡ measured_list format numbers
      → answer ≡ settled room (ended (length numbers) step) → answer ≡ answered room (write_format format numbers)
  unfolding writing
  write_settled numbers s a =
      a ∙ ap (λ (m : Measure). settled room (ended (length numbers) m)) s
      ∙ ap (settled room)
      (measured_complete false magic_bytes (length numbers) (grammar_of format) (walk_list (grammar_of format) numbers))
      ∙ settled_made room false magic_bytes (grammar_of format) (λ ns. magic_of format ++ encoded (grammar_of format) ns)
      (complete (length numbers) (walk_list (grammar_of format) numbers))
      (λ ns. omega (arith, magic_size format, length-append (magic_of format) (encoded (grammar_of format) ns)))
