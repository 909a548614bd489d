-- Reading and writing any format, given by the bytes that it starts with and its grammar: what is read from bytes, what is
-- written from a number list, and what that leaves in a lent slice.
use Rattle.std.specs.Prelude.{ℕ, ◌-◌, Bool, true, false, cond, ◌&&◌, List, [], ◌∷◌, ◌++◌, length, drop, take, ltb, eqb, Ok, Err}
use Rattle.std.specs.Prelude.{Result as Answer}
use Rattle.leb128.specs.Refusals.{input_ended, other_magic, something_follows, slice_short}
use Rattle.leb128.specs.Limits.{number_bytes}
use Rattle.leb128.specs.Number.{encode}
use Rattle.leb128.specs.Grammar.{Form, Grammar}
use Rattle.leb128.specs.Source.{refusal, in_bytes, in_list}
use Rattle.leb128.specs.Walk.{Walk, walk}
use Rattle.leb128.specs.declared.Refusal.{Refusal}

-- the elements that are to be written, or the refusal
pub data Result : Type 0 where
  elements : List ℕ → Result
  refused : Refusal → Result

-- the count of elements written, or the refusal
pub data Outcome : Type 0 where
  wrote : ℕ → Outcome
  refused : Refusal → Outcome

-- what the code's answer stands for: a count of elements, or a refusal
unfoldable pub outcome : Answer ℕ Refusal → Outcome
outcome (Ok count) = Outcome.wrote count
outcome (Err r) = Outcome.refused r

-- the same bytes
unfoldable pub same : List ℕ → List ℕ → Bool
same [] [] = true
same [] (y ∷ ys) = false
same (x ∷ xs) [] = false
same (x ∷ xs) (y ∷ ys) = eqb x y && same xs ys

-- bytes: refusals 1 and 2 for the magic, then the grammar
unfoldable pub walk_bytes : List ℕ → Grammar → List ℕ → Walk
walk_bytes magic grammar bytes =
    cond (ltb (length bytes) (length magic)) (Walk.refused (refusal input_ended (length bytes)))
    (cond (same (take (length magic) bytes) magic) (walk grammar (in_bytes bytes) (length magic))
    (Walk.refused (refusal other_magic 0)))

-- a number list: the grammar
unfoldable pub walk_list : Grammar → List ℕ → Walk
walk_list grammar numbers = walk grammar (in_list numbers) 0

-- refusal 6: something follows the last number, before the end of the input
unfoldable pub complete : ℕ → Walk → Walk
complete end (Walk.whole at ns) = cond (ltb at end) (Walk.refused (refusal something_follows at)) (Walk.whole at ns)
complete end (Walk.refused r) = Walk.refused r

-- the bytes that hold a number in a form
unfoldable pub held : Form → ℕ → List ℕ
held (Form.above base) n = encode number_bytes (n - base)

-- the bytes of the numbers that a grammar takes
unfoldable pub encoded : Grammar → List ℕ → List ℕ
encoded Grammar.done ns = []
encoded (Grammar.number form rule next) [] = []
encoded (Grammar.number form rule next) (n ∷ ns) = held form n ++ encoded (next n) ns

-- what is made of the numbers of a walk
unfoldable pub made : (List ℕ → List ℕ) → Walk → Result
made f (Walk.whole at ns) = Result.elements (f ns)
made f (Walk.refused r) = Result.refused r

-- reading gives the numbers
unfoldable pub reading : List ℕ → Grammar → List ℕ → Result
reading magic grammar bytes = made (λ ns. ns) (complete (length bytes) (walk_bytes magic grammar bytes))

-- writing gives the magic and the numbers' bytes
unfoldable pub writing : List ℕ → Grammar → List ℕ → Result
writing magic grammar numbers = made (λ ns. magic ++ encoded grammar ns) (complete (length numbers) (walk_list grammar numbers))

-- refusal 7: the lent slice, of room elements, is too short
unfoldable pub answered : ℕ → Result → Outcome
answered room (Result.elements es) = cond (ltb room (length es)) (Outcome.refused (refusal slice_short 0)) (Outcome.wrote (length es))
answered room (Result.refused r) = Outcome.refused r

-- the lent slice afterwards: what was written, then the old elements behind it; on a refusal all is old
unfoldable pub filled : Result → List ℕ → List ℕ
filled (Result.elements es) old = cond (ltb (length old) (length es)) old (es ++ drop (length es) old)
filled (Result.refused r) old = old
