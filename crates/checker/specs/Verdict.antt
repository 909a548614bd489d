-- The checker's answer: document 01, "The pull list", for places and a list that may be longer than is needed.
use Rattle.std.specs.Prelude.{ℕ, Bool, true, false, cond, List, ltb, ℤ, length, take, Ok, Err}
use Rattle.std.specs.Prelude.{Result as Answer}
use Rattle.leb128.specs.Refusals.{slice_short}
use Rattle.leb128.specs.Source.{refusal}
use Rattle.leb128.specs.Format.{Result}
use Rattle.leb128.specs.Format.Result.{elements}
use Rattle.leb128.specs.Reply.{Reply}
use Rattle.leb128.specs.declared.Refusal.{Refusal}
use Rattle.drawing.specs.Sheet.{sheet_of}
use Rattle.drawing.specs.Certificate.{certificate_size}
use Rattle.drawing.specs.Judged.{judged}

-- yes
abbrev pub accepted : Reply Bool
accepted = Reply.value true

-- no
abbrev pub rejected : Reply Bool
rejected = Reply.value false

-- what the code's answer stands for: yes, no, or the refusal
unfoldable pub judgement : Answer Bool Refusal → Reply Bool
judgement (Ok accepts) = Reply.value accepts
judgement (Err r) = Reply.refused r

-- refusal 7 where there are fewer places than nodes or fewer list elements than the certificate has, else the decision on
-- so many of each: excess elements are not looked at
unfoldable pub decided : ℕ → ℕ → (List ℕ → List ℤ → Bool) → List ℕ → List ℤ → Reply Bool
decided nodes size decision places list =
    cond (ltb (length places) nodes) (Reply.refused (refusal slice_short 0))
    (cond (ltb (length list) size) (Reply.refused (refusal slice_short 0)) (Reply.value (decision (take nodes places) (take size list))))

-- the answer on a sheet's numbers
unfoldable pub judge_numbers : List ℕ → List ℕ → List ℤ → Reply Bool
judge_numbers numbers = decided (sheet_of numbers).nodes (certificate_size (sheet_of numbers)) (judged (sheet_of numbers))

-- the answer, by what reading gives: its refusals come first
unfoldable pub check_answer : Result → List ℕ → List ℤ → Reply Bool
check_answer (elements numbers) places list = judge_numbers numbers places list
check_answer (Result.refused r) places list = Reply.refused r
