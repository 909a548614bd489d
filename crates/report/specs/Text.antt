-- The texts of document 01, "`place`", in ASCII: a drawing's and a refusal's.
use Rattle.std.specs.Prelude.{ℕ, zero, suc, ◌+◌, cond, List, [], ◌∷◌, ◌++◌, length, ltb}
use Rattle.leb128.specs.Refusals.{slice_short}
use Rattle.leb128.specs.Source.{refusal}
use Rattle.leb128.specs.Format.{Result}
use Rattle.leb128.specs.Format.Result.{elements}
use Rattle.leb128.specs.declared.Refusal.{Refusal}
use Rattle.drawing.specs.Sheet.{Layer, Sheet, sheet_of}
use Rattle.drawing.specs.Drawing.{coordinate}
use Rattle.report.specs.Decimal.{decimal}

-- between two numbers
abbrev pub space : ℕ
space = 0x20

-- the end of a line
abbrev pub newline : ℕ
newline = 0x0A

-- "total "
abbrev pub total_word : List ℕ
total_word = 0x74 ∷ 0x6F ∷ 0x74 ∷ 0x61 ∷ 0x6C ∷ 0x20 ∷ []

-- "refused "
abbrev pub refused_word : List ℕ
refused_word = 0x72 ∷ 0x65 ∷ 0x66 ∷ 0x75 ∷ 0x73 ∷ 0x65 ∷ 0x64 ∷ 0x20 ∷ []

-- "at "
abbrev pub at_word : List ℕ
at_word = 0x61 ∷ 0x74 ∷ 0x20 ∷ []

-- a number and the character behind it
unfoldable pub field : ℕ → ℕ → List ℕ
field n stop = decimal n ++ stop ∷ []

-- line one: the total
unfoldable pub total_line : ℕ → List ℕ
total_line total = total_word ++ field total newline

-- the line of a node (mark): layer (rank), position, coordinate (place)
unfoldable pub node_line : ℕ → ℕ → ℕ → List ℕ
node_line layer position place = field layer space ++ field position space ++ field place newline

-- the lines of n nodes of a layer, from this position and node v on
unfoldable pub node_lines : List ℕ → ℕ → ℕ → ℕ → ℕ → List ℕ
node_lines p layer zero position v = []
node_lines p layer (suc n) position v = node_line layer position (coordinate p v) ++ node_lines p layer n (position + 1) (v + 1)

-- the lines of a layer, which has a node more than neighbouring pairs
unfoldable pub layer_lines : List ℕ → ℕ → Layer → List ℕ
layer_lines p layer l = node_lines p layer (suc (length l.pairs)) 1 l.first

-- the lines of the layers from this one on
unfoldable pub layers_lines : List ℕ → ℕ → List Layer → List ℕ
layers_lines p layer [] = []
layers_lines p layer (l ∷ ls) = layer_lines p layer l ++ layers_lines p (layer + 1) ls

-- a drawing's text: the total, and each further line a node's
unfoldable pub drawing_lines : Sheet → List ℕ → ℕ → List ℕ
drawing_lines S p total = total_line total ++ layers_lines p 1 S.layers

-- a refusal's text: one line, its number and its offset
unfoldable pub refusal_line : Refusal → List ℕ
refusal_line r = refused_word ++ field r.number space ++ at_word ++ field r.offset newline

-- the text of a drawing, by what reading gives: its refusals; refusal 7 where a node has no place; else the drawing's text
unfoldable pub drawing_text : Result → List ℕ → ℕ → Result
drawing_text (elements numbers) p total =
    cond (ltb (length p) (sheet_of numbers).nodes) (Result.refused (refusal slice_short 0))
    (elements (drawing_lines (sheet_of numbers) p total))
drawing_text (Result.refused r) p total = Result.refused r

-- the text of a refusal
unfoldable pub refusal_text : Refusal → Result
refusal_text r = elements (refusal_line r)
