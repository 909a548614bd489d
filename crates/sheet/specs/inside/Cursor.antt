-- How the code's cursors and steps stand for positions, items and walks.
use Rattle.std.specs.Prelude.{ℕ, ◌+◌, ◌-◌, ◌*◌, ◌^◌, ◌≤◌, ◌<◌, ◌≡◌, Bool, true, false, cond, Result, Ok, Err, IfOk, List, [], length, ltb}
use Rattle.leb128.specs.Limits.{number_bytes, list_limit}
use Rattle.leb128.specs.Refusals.{something_follows, slice_short}
use Rattle.leb128.specs.Number.{encode}
use Rattle.leb128.specs.Grammar.{Form, Grammar, Rule, plain, within}
use Rattle.leb128.specs.Source.{Item, Source, refusal, in_bytes, in_list}
use Rattle.leb128.specs.Source.Item.{value}
use Rattle.leb128.specs.Walk.{Walk, checked, walk}
use Rattle.leb128.specs.Format.{Outcome, encoded as bytes_of}
use Rattle.leb128.specs.declared.Refusal.{Refusal}
use Rattle.sheet.specs.Limits.{magic_bytes, max_nodes}
use Rattle.sheet.specs.Grammar.{maximum_rule, separation, layers, edge}
use Rattle.sheet.specs.declared.Cursor.{Cursor}
use Rattle.sheet.specs.declared.Range.{Range}
use Rattle.sheet.specs.declared.Input.{Input}
use Rattle.sheet.specs.declared.Input.TheVariants.{Bytes, Numbers}

-- whether an input is bytes
abbrev pub encoded : Input → Bool
encoded (Bytes bytes) = true
encoded (Numbers numbers) = false

-- the source that an input is: its bytes or its number list
abbrev pub source : Input → Source
source (Bytes bytes) = in_bytes bytes.now
source (Numbers numbers) = in_list numbers.now

-- what stands at a cursor: a value with the next cursor, or the refusal
abbrev pub Step : Type 0
Step = Result (ℕ × Cursor) Refusal

-- how many elements a number takes where it is written, by what it lies above its base: one of a list, or its bytes
abbrev pub excess_weight : Bool → ℕ → ℕ
excess_weight true excess = 1
excess_weight false excess = length (encode number_bytes excess)

-- the same of a number in a form
abbrev pub weight : Bool → Form → ℕ → ℕ
weight coded (Form.above base) n = excess_weight coded (n - base)

-- all of the numbers that a grammar takes
abbrev pub weigh : Bool → Grammar → List ℕ → ℕ
weigh true grammar ns = length ns
weigh false grammar ns = length (bytes_of grammar ns)

-- the step from a cursor to what stands there: the next cursor counts the number too
abbrev pub step_of : Input → Cursor → Form → Item → Step
step_of input c form (value n after) = Ok (n, record { at = after; count = c.count + weight (encoded input) form n })
step_of input c form (Item.refused r) = Err r

-- a cursor has counted no more than its position allows
abbrev pub counted : Bool → ℕ → ℕ → Type 0
counted true at count = count ≤ at
counted false at count = count ≤ magic_bytes + number_bytes * at

-- the same of a cursor
abbrev pub Counted : Input → Cursor → Type 0
Counted input c = counted (encoded input) c.at c.count

-- what the numbers of an input take is counted on 64 bits
abbrev pub Roomy : Input → Type 0
Roomy (Bytes bytes) = length bytes.now < 2 ^ 64
Roomy (Numbers numbers) = magic_bytes + number_bytes * length numbers.now < 2 ^ 64

-- where a walk ends and how many elements its numbers take, or the refusal
pub data Measure : Type 0 where
  whole : ℕ → ℕ → Measure
  refused : Refusal → Measure

-- what a walk of a grammar is, behind count elements
unfoldable pub measured : Bool → ℕ → Grammar → Walk → Measure
measured coded count grammar (Walk.whole at ns) = Measure.whole at (count + weigh coded grammar ns)
measured coded count grammar (Walk.refused r) = Measure.refused r

-- refusal 6: something follows the last number
unfoldable pub ended : ℕ → Measure → Measure
ended end (Measure.whole at count) = cond (ltb at end) (Measure.refused (refusal something_follows at)) (Measure.whole at count)
ended end (Measure.refused r) = Measure.refused r

-- refusal 7: the lent slice, of room elements, is too short
unfoldable pub settled : ℕ → Measure → Outcome
settled room (Measure.whole at count) = cond (ltb room count) (Outcome.refused (refusal slice_short 0)) (Outcome.wrote count)
settled room (Measure.refused r) = Outcome.refused r

-- the grammar followed from a cursor on
unfoldable pub walk_from : Input → Cursor → Grammar → Measure
walk_from input c grammar = measured (encoded input) c.count grammar (walk grammar (source input) c.at)

-- after a step: on from the next cursor by what follows the value, or the refusal
unfoldable pub onward : Input → Step → (ℕ → Grammar) → Measure
onward input (Ok (n, c)) next = walk_from input c (next n)
onward input (Err r) next = Measure.refused r

-- the walk that a part of it ends: on from the cursor behind the part, or the refusal
unfoldable pub resumed : Input → Result Cursor Refusal → Grammar → Measure
resumed input (Ok c) next = walk_from input c next
resumed input (Err r) next = Measure.refused r

-- the walk that has come to its end
abbrev pub walked : Result Cursor Refusal → Measure
walked (Ok c) = Measure.whole c.at c.count
walked (Err r) = Measure.refused r

-- what holds of a step's value and next cursor, where it has them
abbrev pub OfValue : Step → (ℕ → Cursor → Type 0) → Type 0
OfValue (Ok (n, c)) P = P n c
OfValue (Err r) P = Unit

-- the step reads the part of a grammar that stands at a cursor: whatever follows the part, it goes on from there
pub record Reads (input : Input) (c : Cursor) (part : (ℕ → Grammar) → Grammar) (P : ℕ → Type 0) (r : Step) : Type 0 where
  pub follows : (next : ℕ → Grammar) → walk_from input c (part next) ≡ onward input r next
  pub good : OfValue r (λ n c. Counted input c × P n)

-- the same of a part whose value nothing goes by
pub record Passes (input : Input) (c : Cursor) (part : (ℕ → Grammar) → Grammar) (r : Result Cursor Refusal) : Type 0 where
  pub follows : (next : Grammar) → walk_from input c (part (λ n. next)) ≡ resumed input r next
  pub good : IfOk r (Counted input)

-- the step to the number at a cursor, in a form, tested by a rule
abbrev pub tested : Input → Cursor → Form → Rule → Step
tested input c form rule = step_of input c form (checked rule c.at (source input form c.at))

-- a base that the numbers of a range reach, and that a list can hold
pub record Sound (range : Range) : Type 0 where
  pub reached : range.base ≤ range.low
  pub small : range.base < list_limit

-- the step reads a number of a range
pub record Ranged (input : Input) (c : Cursor) (range : Range) (r : Step) : Type 0 where
  pub is : r ≡ tested input c (Form.above range.base) (within range.low range.high)
  pub reads : Reads input c (Grammar.number (Form.above range.base) (within range.low range.high))
      (λ n. (range.low ≤ n) × (n ≤ range.high)) r

-- the step reads a plain number from low to high
abbrev pub Limited : Input → Cursor → ℕ → ℕ → Step → Type 0
Limited input c low high r = Ranged input c (record { base = 0; low = low; high = high }) r

-- the step reads a maximum separation after its minimum
pub record Maximum (input : Input) (c : Cursor) (least : ℕ) (r : Step) : Type 0 where
  pub reads : Reads input c (Grammar.number plain (maximum_rule least)) (λ n. Unit) r

-- the step reads the separations of a pair
pub record Separation (input : Input) (c : Cursor) (r : Step) : Type 0 where
  pub reads : Reads input c separation (λ n. Unit) r

-- an edge between layers of these counts is passed
pub record Edge (input : Input) (c : Cursor) (counts : List ℕ) (r : Result Cursor Refusal) : Type 0 where
  pub passes : Passes input c (edge counts) r

-- the step ends the layers at a cursor, whose counts of nodes are these
pub record LayersRead (input : Input) (c : Cursor) (counts : List ℕ) (r : Step) : Type 0 where
  pub follows : (next : List ℕ → Grammar)
      → walk_from input c (layers (length counts) max_nodes [] next) ≡ onward input r (λ m. next counts)
  pub good : OfValue r (λ m c. Counted input c)
