-- What `place` prints for what was read: the text of the answer that drawing gives (document 01, "`place`").
use Rattle.std.specs.Prelude.{ℕ, ◌≤◌, ◌≡◌, List, ℤ, pos, length, take, replicate}
use Rattle.leb128.specs.Reply.{Reply}
use Rattle.leb128.specs.Format.{Result}
use Rattle.leb128.specs.Format.Result.{elements}
use Rattle.sheet.specs.Limits.{max_nodes}
use Rattle.arcs.specs.Limits.{max_arcs}
use Rattle.engine.specs.Draws.{Drawn, Draws}
use Rattle.report.specs.Text.{drawing_text, refusal_text}

-- the text of an answer, with the places of a drawing
unfoldable pub answer_text : Result → List ℕ → Drawn → Result
answer_text read p (Reply.value total) = drawing_text read p total
answer_text read p (Reply.refused r) = refusal_text r

-- an answer of drawing, with what it leaves in the places
pub record Answers (read : Result) (places₀ : List ℕ) (list₀ : List ℤ) (places : List ℕ) (answer : Drawn) : Type 0 where
  pub list : List ℤ
  pub draws : Draws read places₀ list₀ places list answer

-- the first n elements of a slice are a text
pub record Shows (text : Result) (slice : List ℕ) (n : ℕ) : Type 0 where
  pub inside : n ≤ length slice
  pub is : text ≡ elements (take n slice)

-- the first n elements of a slice are the text of an answer of drawing into these places and this list
pub record PrintsFrom (read : Result) (places₀ : List ℕ) (list₀ : List ℤ) (slice : List ℕ) (n : ℕ) : Type 0 where
  pub places : List ℕ
  pub answer : Drawn
  pub answers : Answers read places₀ list₀ places answer
  pub shows : Shows (answer_text read places answer) slice n

-- the same, with places and a list that are long enough for every sheet
abbrev pub Prints : Result → List ℕ → ℕ → Type 0
Prints read slice n = PrintsFrom read (replicate max_nodes 0) (replicate max_arcs (pos 0)) slice n
