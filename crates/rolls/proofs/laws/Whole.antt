-- From the stages to the whole call: what is answered and left for the sheet that is held is so for the bytes that were loaded.
use Prim.Native.Nat.{ℕ}
use mathlib.Core.Path.{◌≡◌, refl, sym, ◌∙◌, ap, subst}
use mathlib.Core.List.{List}
use lib.ListN.{length}
use Rattle.leb128.specs.Format.{Result, Outcome, outcome}
use Rattle.leb128.specs.Format.Outcome.{wrote}
use Rattle.std.specs.Prelude.{Ok, Err}
use Rattle.std.specs.Prelude.{Result as Answer}
use Rattle.leb128.specs.declared.Refusal.{Refusal}
use Rattle.sheet.specs.Reading.{read_sheet}
use Rattle.arcs.specs.declared.Loaded.{Loaded}
use Rattle.arcs.specs.laws.HeldArcs.{loaded_holds, holds_reads}
use Rattle.arcs.specs.laws.Loaded.{LoadedSheet}
use Rattle.rolls.specs.Totals.{widths_answer, totals_answer, Written}
use Rattle.rolls.specs.inside.Held.{EntriesHeld, WrittenHeld}

-- the answer for the sheet that is held, and what is left of it
abbrev pub Answered : Loaded → (ws old new : List ℕ) (o : Outcome) → Type 0
Answered s ws old new o = (o ≡ widths_answer ws (length old)) × WrittenHeld s ws old new

module _ (s : Loaded) (ws old : List ℕ) where
  -- a refusal leaves all as it was
  pub refused_held : {x : Answer ℕ Refusal} {r : Refusal} → x ≡ Err r → widths_answer ws (length old) ≡ Outcome.refused r
      → Answered s ws old old (outcome x)
  unfolding outcome
  refused_held e k = (ap outcome e ∙ sym k, λ h. rw k refl)

  -- the entries
  pub wrote_held : (new : List ℕ) → widths_answer ws (length old) ≡ wrote (length ws) → EntriesHeld s ws old new
      → Answered s ws old new (outcome (Ok (length ws)))
  unfolding outcome
  wrote_held new k g = (sym k, λ h. rw k (g h))

-- the answer for bytes, and what is left
abbrev pub AnsweredBytes : (bytes ws old new : List ℕ) (o : Outcome) → Type 0
AnsweredBytes bytes ws old new o = (o ≡ totals_answer (read_sheet bytes) ws (length old)) × Written (read_sheet bytes) ws old new

-- a refusal of reading
pub refused_bytes : (bytes ws old : List ℕ) {r : Refusal} → read_sheet bytes ≡ Result.refused r
    → AnsweredBytes bytes ws old old (outcome (Err r))
unfolding totals_answer outcome Written
refused_bytes bytes ws old e = (rw e refl, rw e refl)

-- a sheet that was loaded
pub loaded_bytes : {bytes f₀ a₀ : List ℕ} (s : Loaded) (l : LoadedSheet bytes f₀ s.first.now a₀ s.arcs.now s.counts) (ws old new : List ℕ) (o : Outcome)
    → Answered s ws old new o → AnsweredBytes bytes ws old new o
unfolding totals_answer Written
loaded_bytes s l ws old new o g = (
  g.0 ∙ sym (ap (λ (x : Result). totals_answer x ws (length old)) (holds_reads l)),
  subst (λ (x : Result). Written x ws old new) (sym (holds_reads l)) (g.1 (loaded_holds l)),
)
