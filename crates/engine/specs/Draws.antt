-- What drawing a sheet answers and leaves in the two lent slices (document 01, "Drawing and total", "The pull list",
-- "Refusals"), by what reading gives. Only the list is left open: any list will do that meets the rules and has the total
-- as its bound.
use Rattle.std.specs.Prelude.{ℕ, ◌≤◌, ◌<◌, ◌≡◌, List, T, ℤ, pos, length, take, drop, Ok, Err}
use Rattle.std.specs.Prelude.{Result as Answer}
use Rattle.leb128.specs.Reply.{Reply}
use Rattle.leb128.specs.declared.Refusal.{Refusal}
use Rattle.leb128.specs.Refusals.{slice_short}
use Rattle.leb128.specs.Format.{Result}
use Rattle.leb128.specs.Format.Result.{elements}
use Rattle.drawing.specs.Sheet.{Sheet, sheet_of}
use Rattle.drawing.specs.Drawing.{NoDrawing, LeftmostDrawing, total_length}
use Rattle.drawing.specs.Certificate.{certificate_size, meets_rules, bound}
use Rattle.engine.specs.Refusals.{no_drawing}

-- the total, or the refusal
abbrev pub Drawn : Type 0
Drawn = Reply ℕ

-- what the code's answer stands for
unfoldable pub drawn_of : Answer ℕ Refusal → Drawn
drawn_of (Ok total) = Reply.value total
drawn_of (Err r) = Reply.refused r

-- both slices, of so many elements, are long enough: a place for each node, a number for each edge and two for each node
pub record Room (S : Sheet) (places list : ℕ) : Type 0 where
  pub nodes : S.nodes ≤ places
  pub numbers : certificate_size S ≤ list

-- why a good sheet is refused, by the refusal's number: a slice is too short; no drawing exists
pub data Refuses (S : Sheet) (places list : ℕ) : ℕ → Type 0 where
  few_places : places < S.nodes → Refuses S places list slice_short
  few_numbers : list < certificate_size S → Refuses S places list slice_short
  none : Room S places list → NoDrawing S → Refuses S places list no_drawing

-- the leftmost least drawing is in front of the places, with its total; the list in front of the list shows that no total is
-- smaller; elements behind are as they were
pub record Returns (S : Sheet) (p₀ : List ℕ) (y₀ : List ℤ) (p : List ℕ) (y : List ℤ) (total : ℕ) : Type 0 where
  pub room : Room S (length p₀) (length y₀)
  pub leftmost : LeftmostDrawing S (take S.nodes p)
  pub places_behind : drop S.nodes p ≡ drop S.nodes p₀
  pub total_is : total ≡ total_length S (take S.nodes p)
  pub list_size : length y ≡ length y₀
  pub list_behind : drop (certificate_size S) y ≡ drop (certificate_size S) y₀
  pub rules : T (meets_rules S (take (certificate_size S) y))
  pub bound_is : bound S (take (certificate_size S) y) ≡ pos total

-- both slices are as they were
abbrev pub Keeps : List ℕ → List ℤ → List ℕ → List ℤ → Type 0
Keeps p₀ y₀ p y = (p ≡ p₀) × (y ≡ y₀)

-- a good sheet, with the slices before and after
abbrev pub DrawsSheet : Sheet → List ℕ → List ℤ → List ℕ → List ℤ → Drawn → Type 0
DrawsSheet S p₀ y₀ p y (Reply.value total) = Returns S p₀ y₀ p y total
DrawsSheet S p₀ y₀ p y (Reply.refused r) = Refuses S (length p₀) (length y₀) r.number × (r.offset ≡ 0) × Keeps p₀ y₀ p y

-- the whole call, by what reading gives: its refusals come first
unfoldable pub Draws : Result → List ℕ → List ℤ → List ℕ → List ℤ → Drawn → Type 0
Draws (elements numbers) p₀ y₀ p y d = DrawsSheet (sheet_of numbers) p₀ y₀ p y d
Draws (Result.refused r) p₀ y₀ p y d = (d ≡ Reply.refused r) × Keeps p₀ y₀ p y
