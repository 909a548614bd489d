-- An answer of an inner call and the word that tells it: the code maps its value to the numbers told, and a refusal stays as it is.
use Rattle.std.specs.Prelude.{ℕ, ◌≡◌, Bool, Result, Ok, Err, IsOkAnd, MatchResult}
use Rattle.std.proofs.Common.{ap, sym, subst}
use Rattle.leb128.specs.declared.Refusal.{Refusal}
use Rattle.leb128.specs.Format.{outcome}
use Rattle.checker.specs.Verdict.{judgement}
use Rattle.engine.specs.Draws.{drawn_of}
use Rattle.engine.specs.MinimumWidth.{narrowing}
use Rattle.engine.specs.declared.Narrowest.{Narrowest}
use Rattle.strip.specs.declared.Told.{Told as Numbers}
use Rattle.strip.specs.Words.{Told, alone, yes_no, total_width, told_word, refused_word, outcome_word, reply_word, drawn_word, judgement_word, narrowed_word}
use Rattle.strip.specs.HeldWords.{HeldResult, HeldRefusal, HeldOutcome, HeldDrawn, HeldJudgement, HeldNarrowed, told_of, answer_word, HeldAnswer}

module _ {A : Type 0} (told : A → Told) where
  -- the word of an answer
  abbrev word_of : Result A Refusal → ℕ
  word_of (Ok a) = told_word (told a)
  word_of (Err r) = refused_word r

  -- an answer that a word holds
  abbrev HeldOf : Result A Refusal → Type 0
  HeldOf (Ok a) = HeldResult (told a)
  HeldOf (Err r) = HeldRefusal r

  -- what `map` says of what it makes of an answer
  abbrev pub Maps : Result A Refusal → Result Numbers Refusal → Type 0
  Maps r m = MatchResult r (λ a. IsOkAnd m (λ t. told_of t ≡ told a)) (λ e. m ≡ Err e)

  -- the word is that of the answer
  maps_word : (r : Result A Refusal) (m : Result Numbers Refusal) → Maps r m → answer_word m ≡ word_of r
  maps_word (Ok a) (Ok t) e = ap told_word e
  maps_word (Ok a) (Err x) e = absurd e
  maps_word (Err r) m e = ap answer_word e

  -- and it holds what a word of the answer holds
  maps_held : (r : Result A Refusal) (m : Result Numbers Refusal) → Maps r m → HeldOf r → HeldAnswer m
  maps_held (Ok a) (Ok t) e h = subst HeldResult (sym e) h
  maps_held (Ok a) (Err x) e h = absurd e
  maps_held (Err r) m e h = subst HeldAnswer (sym e) h

-- of reading or writing, or of many widths
pub counted_told : (r : Result ℕ Refusal) (m : Result Numbers Refusal) → Maps alone r m → answer_word m ≡ outcome_word (outcome r)
unfolding outcome outcome_word
counted_told (Ok a) m e = maps_word alone (Ok a) m e
counted_told (Err r) m e = maps_word alone (Err r) m e

pub counted_held : (r : Result ℕ Refusal) (m : Result Numbers Refusal) → Maps alone r m → HeldOutcome (outcome r) → HeldAnswer m
unfolding outcome
counted_held (Ok a) m e h = maps_held alone (Ok a) m e h
counted_held (Err r) m e h = maps_held alone (Err r) m e h

-- of drawing
pub drawn_told : (r : Result ℕ Refusal) (m : Result Numbers Refusal) → Maps alone r m → answer_word m ≡ drawn_word (drawn_of r)
unfolding drawn_of reply_word
drawn_told (Ok a) m e = maps_word alone (Ok a) m e
drawn_told (Err r) m e = maps_word alone (Err r) m e

pub drawn_held : (r : Result ℕ Refusal) (m : Result Numbers Refusal) → Maps alone r m → HeldDrawn (drawn_of r) → HeldAnswer m
unfolding drawn_of
drawn_held (Ok a) m e h = maps_held alone (Ok a) m e h
drawn_held (Err r) m e h = maps_held alone (Err r) m e h

-- of checking
pub judged_told : (r : Result Bool Refusal) (m : Result Numbers Refusal) → Maps yes_no r m → answer_word m ≡ judgement_word (judgement r)
unfolding judgement reply_word
judged_told (Ok a) m e = maps_word yes_no (Ok a) m e
judged_told (Err r) m e = maps_word yes_no (Err r) m e

pub judged_held : (r : Result Bool Refusal) (m : Result Numbers Refusal) → Maps yes_no r m → HeldJudgement (judgement r) → HeldAnswer m
unfolding judgement
judged_held (Ok a) m e h = maps_held yes_no (Ok a) m e h
judged_held (Err r) m e h = maps_held yes_no (Err r) m e h

-- of the minimum width
pub narrowed_told : (r : Result Narrowest Refusal) (m : Result Numbers Refusal) → Maps total_width r m → answer_word m ≡ narrowed_word (narrowing r)
unfolding narrowing reply_word
narrowed_told (Ok a) m e = maps_word total_width (Ok a) m e
narrowed_told (Err r) m e = maps_word total_width (Err r) m e

pub narrowed_held : (r : Result Narrowest Refusal) (m : Result Numbers Refusal) → Maps total_width r m → HeldNarrowed (narrowing r) → HeldAnswer m
unfolding narrowing
narrowed_held (Ok a) m e h = maps_held total_width (Ok a) m e h
narrowed_held (Err r) m e h = maps_held total_width (Err r) m e h
