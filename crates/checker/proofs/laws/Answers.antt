-- The checker's answer case by case, and that a sheet's packed arcs answer for its numbers and its bytes.
use Prim.Native.Nat.{ℕ, ◌≤◌, ◌<◌}
use mathlib.Core.Path.{◌≡◌, refl, sym, ◌∙◌, ap, fun_ext}
use mathlib.Core.Bool.{Bool}
use mathlib.Core.List.{List}
use lib.IntN.{ℤ}
use lib.ListN.{length, take}
use borrow.Author.Tests.{lt-ltb, le-ltb}
use Rattle.leb128.specs.Refusals.{slice_short}
use Rattle.leb128.specs.Source.{refusal}
use Rattle.leb128.specs.Format.{Result}
use Rattle.leb128.specs.Format.Result.{elements}
use Rattle.leb128.specs.declared.Refusal.{Refusal}
use Rattle.sheet.specs.Reading.{read_sheet}
use Rattle.network.specs.Network.{Network, integers}
use Rattle.network.specs.Flows.{certifies}
use Rattle.drawing.specs.Sheet.{sheet_of}
use Rattle.drawing.specs.Judged.{judged}
use Rattle.drawing.proofs.laws.Judged.{judged_certifies}
use Rattle.arcs.specs.declared.Counts.{Counts}
use Rattle.checker.specs.Verdict.{judgement, decided, judge_numbers, check_answer}
use Rattle.arcs.specs.laws.Loaded.{LoadedSheet}
use Rattle.arcs.specs.Held.{Holds}
use Rattle.arcs.specs.laws.HeldArcs.{loaded_holds, holds_reads, size_is, network_is}
use Rattle.checker.specs.inside.Table.{table_decision}
use Rattle.std.specs.Prelude.{Ok, Err}
use Rattle.std.specs.Prelude.{Result as Answer}

module _ (nodes size : ℕ) (decision : List ℕ → List ℤ → Bool) (places : List ℕ) (list : List ℤ) where
  -- too few places
  pub short_places : {v : Answer Bool Refusal} → v ≡ Err (refusal slice_short 0) → length places < nodes
      → judgement v ≡ decided nodes size decision places list
  unfolding judgement decided
  short_places e h = rw (e, lt-ltb (length places) nodes h)

  -- too short a list
  pub short_list : {v : Answer Bool Refusal} → v ≡ Err (refusal slice_short 0) → nodes ≤ length places
      → length list < size → judgement v ≡ decided nodes size decision places list
  unfolding judgement decided
  short_list e h k = rw (e, le-ltb (length places) nodes h, lt-ltb (length list) size k)

  -- long enough: the decision
  pub long_enough : {yes : Bool} → nodes ≤ length places → size ≤ length list → yes ≡ decision (take nodes places) (take size list)
      → judgement (Ok yes) ≡ decided nodes size decision places list
  unfolding judgement decided
  long_enough h k e = rw (e, le-ltb (length places) nodes h, le-ltb (length list) size k)

module _ {f a : List ℕ} {c : Counts} (h : Holds f a c) where
  -- the packed arcs decide as the sheet does
  same_decision : table_decision a c ≡ judged (sheet_of h.numbers)
  same_decision =
      fun_ext
      (λ p. fun_ext
      (λ y. ap (λ (N : Network). certifies N (integers p) y) (network_is h) ∙ sym (judged_certifies h.numbers p y)))

  -- they answer for the sheet's numbers
  pub held_numbers : (places : List ℕ) (list : List ℤ)
      → decided c.nodes c.arcs (table_decision a c) places list ≡ judge_numbers h.numbers places list
  unfolding judge_numbers
  held_numbers places list = rw (same_decision, h.nodes_are, size_is h)

  -- and so for its bytes
  pub held_answer : (bytes places : List ℕ) (list : List ℤ) → read_sheet bytes ≡ elements h.numbers
      → decided c.nodes c.arcs (table_decision a c) places list ≡ check_answer (read_sheet bytes) places list
  unfolding check_answer
  held_answer bytes places list e = rw e (held_numbers places list)

-- slices into which a sheet was loaded answer for the sheet's bytes
pub loaded_answer : {bytes f₀ f a₀ a : List ℕ} {c : Counts} → LoadedSheet bytes f₀ f a₀ a c → (places : List ℕ) (list : List ℤ)
    → decided c.nodes c.arcs (table_decision a c) places list ≡ check_answer (read_sheet bytes) places list
loaded_answer {bytes} l places list = held_answer (loaded_holds l) bytes places list (holds_reads l)

-- a refusal of reading is the answer
pub refused_answer : (bytes : List ℕ) {r : Refusal} → read_sheet bytes ≡ Result.refused r → (places : List ℕ) (list : List ℤ)
    → judgement (Err r) ≡ check_answer (read_sheet bytes) places list
unfolding judgement check_answer
refused_answer bytes e places list = rw e refl
