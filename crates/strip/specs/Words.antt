-- The answer of each call as one word: a second value times 2⁴⁸, plus the refusal's number times 2³², plus the value or the offset.
use Rattle.std.specs.Prelude.{ℕ, ◌+◌, ◌*◌, ◌/◌, ◌%◌, ◌^◌, ◌≡◌, Bool, cond, List, ℤ}
use Rattle.leb128.specs.declared.Refusal.{Refusal}
use Rattle.leb128.specs.Format.{Result, Outcome}
use Rattle.leb128.specs.Reply.{Reply}
use Rattle.engine.specs.declared.Narrowest.{Narrowest}
use Rattle.engine.specs.Draws.{Drawn, Draws}
use Rattle.engine.specs.MinimumWidth.{Narrowed, Narrows}

-- what one more in the refusal's number adds, 2³²: more than any value or offset
abbrev pub number_unit : ℕ
number_unit = 2 ^ 32

-- what one more in the second value adds, 2⁴⁸
abbrev pub second_unit : ℕ
second_unit = 2 ^ 48

-- how many numbers of refusals and how many second values a word tells apart, 2¹⁶
abbrev pub part_range : ℕ
part_range = 2 ^ 16

-- a second value, a refusal's number, 0 where nothing is refused, and a value or an offset
abbrev pub packed : ℕ → ℕ → ℕ → ℕ
packed second number value = second * second_unit + number * number_unit + value

-- what strip_second() gives of a word
abbrev pub second_of : ℕ → ℕ
second_of word = word / second_unit

-- what strip_refusal() gives of it
abbrev pub number_of : ℕ → ℕ
number_of word = word / number_unit % part_range

-- what strip_value() gives of it
abbrev pub value_of : ℕ → ℕ
value_of word = word % number_unit

-- all three
pub record Parts (word second number value : ℕ) : Type 0 where
  pub second_is : second_of word ≡ second
  pub number_is : number_of word ≡ number
  pub value_is : value_of word ≡ value

-- the numbers that a word tells of a result
pub record Told : Type 0 where
  pub second : ℕ
  pub value : ℕ

-- a result that is one number: the second value is 0
abbrev pub alone : ℕ → Told
alone n = record { second = 0; value = n }

-- the checker's: 1 for yes, 0 for no
abbrev pub yes_no : Bool → Told
yes_no b = alone (cond b 1 0)

-- that of the minimum width: the total at it, and the width as the second value
abbrev pub total_width : Narrowest → Told
total_width n = record { second = n.width; value = n.total }

-- a result
abbrev pub told_word : Told → ℕ
told_word t = packed t.second 0 t.value

-- a refusal: the second value is 0
abbrev pub refused_word : Refusal → ℕ
refused_word r = packed 0 r.number r.offset

-- of reading and writing, and of many widths: the count
unfoldable pub outcome_word : Outcome → ℕ
outcome_word (Outcome.wrote count) = told_word (alone count)
outcome_word (Outcome.refused r) = refused_word r

-- of a reply: what is told of its value
unfoldable pub reply_word : {A : Type 0} → (A → Told) → Reply A → ℕ
reply_word told (Reply.value a) = told_word (told a)
reply_word told (Reply.refused r) = refused_word r

-- of drawing: the total
abbrev pub drawn_word : Drawn → ℕ
drawn_word = reply_word alone

-- of checking
abbrev pub judgement_word : Reply Bool → ℕ
judgement_word = reply_word yes_no

-- of the minimum width
abbrev pub narrowed_word : Narrowed → ℕ
narrowed_word = reply_word total_width

-- the width and the total that such a word tells where nothing is refused
abbrev pub minimum_of : ℕ → Narrowest
minimum_of word = record { width = second_of word; total = value_of word }

-- a word tells what drawing a sheet answers, with the slices before and after
abbrev pub DrawsWord : Result → List ℕ → List ℤ → List ℕ → List ℤ → ℕ → Type 0
DrawsWord read p₀ y₀ p y word = (d : Drawn) × (word ≡ drawn_word d) × Draws read p₀ y₀ p y d

-- a word tells what the minimum width of a sheet is
abbrev pub NarrowsWord : Result → ℕ → Type 0
NarrowsWord read word = (a : Narrowed) × (word ≡ narrowed_word a) × Narrows read a
