-- Answers that a word holds: each value and each offset is below 2³², each second value and each refusal's number below 2¹⁶, and
-- no refusal has the number 0.
use Rattle.std.specs.Prelude.{ℕ, ◌<◌, Bool, Result, Ok, Err}
use Rattle.leb128.specs.declared.Refusal.{Refusal}
use Rattle.leb128.specs.Format.{Outcome}
use Rattle.leb128.specs.Reply.{Reply}
use Rattle.engine.specs.Draws.{Drawn}
use Rattle.engine.specs.MinimumWidth.{Narrowed}
use Rattle.strip.specs.Words.{number_unit, part_range, Told, alone, yes_no, total_width, told_word, refused_word}
use Rattle.strip.specs.declared.Told.{Told as Numbers}

-- a refusal that a word holds
pub record HeldRefusal (r : Refusal) : Type 0 where
  pub numbered : 0 < r.number
  pub number_in : r.number < part_range
  pub offset_in : r.offset < number_unit

-- a result that a word holds
pub record HeldResult (t : Told) : Type 0 where
  pub second_in : t.second < part_range
  pub value_in : t.value < number_unit

-- an answer of reading or writing, or of many widths, that a word holds
abbrev pub HeldOutcome : Outcome → Type 0
HeldOutcome (Outcome.wrote count) = HeldResult (alone count)
HeldOutcome (Outcome.refused r) = HeldRefusal r

-- a reply that a word holds, by what is told of its value
abbrev pub HeldReply : {A : Type 0} → (A → Told) → Reply A → Type 0
HeldReply told (Reply.value a) = HeldResult (told a)
HeldReply told (Reply.refused r) = HeldRefusal r

-- one of drawing
abbrev pub HeldDrawn : Drawn → Type 0
HeldDrawn = HeldReply alone

-- one of checking
abbrev pub HeldJudgement : Reply Bool → Type 0
HeldJudgement = HeldReply yes_no

-- one of the minimum width
abbrev pub HeldNarrowed : Narrowed → Type 0
HeldNarrowed = HeldReply total_width

-- what the code tells of a result
abbrev pub told_of : Numbers → Told
told_of t = record { second = t.second; value = t.value }

-- an answer as the code hands it over
abbrev pub answer_word : Result Numbers Refusal → ℕ
answer_word (Ok told) = told_word (told_of told)
answer_word (Err r) = refused_word r

-- one that a word holds
abbrev pub HeldAnswer : Result Numbers Refusal → Type 0
HeldAnswer (Ok told) = HeldResult (told_of told)
HeldAnswer (Err r) = HeldRefusal r
