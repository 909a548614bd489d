-- The lines of document 01, computed: its first sheet's text and a refusal's.
use Rattle.std.specs.Prelude.{◌≡◌, refl, [], ◌∷◌}
use Rattle.leb128.specs.Source.{refusal}
use Rattle.drawing.specs.Sheet.{sheet_of}
use Rattle.report.specs.Decimal.{digit_count, decimal}
use Rattle.report.specs.Text.{field, total_line, node_line, node_lines, layer_lines, layers_lines, drawing_lines, refusal_line}

-- the first sheet, by its numbers: total 1; 1 1 0; 1 2 1; 2 1 0
first_text : drawing_lines (sheet_of (5 ∷ 2 ∷ 2 ∷ 1 ∷ 0 ∷ 1 ∷ 2 ∷ 1 ∷ 1 ∷ 1 ∷ 0 ∷ 1 ∷ 2 ∷ 1 ∷ 0 ∷ [])) (0 ∷ 1 ∷ 0 ∷ []) 1
    ≡ 116 ∷ 111 ∷ 116 ∷ 97 ∷ 108 ∷ 32 ∷ 49 ∷ 10 ∷ 49 ∷ 32 ∷ 49 ∷ 32 ∷ 48 ∷ 10 ∷ 49 ∷ 32 ∷ 50 ∷ 32 ∷ 49 ∷ 10 ∷ 50 ∷ 32 ∷ 49 ∷ 32 ∷ 48 ∷ 10
    ∷ []
unfolding sheet_of digit_count decimal field total_line node_line node_lines layer_lines layers_lines drawing_lines
first_text = refl

-- refused 8 at 0
refused_8 : refusal_line (refusal 8 0) ≡ 114 ∷ 101 ∷ 102 ∷ 117 ∷ 115 ∷ 101 ∷ 100 ∷ 32 ∷ 56 ∷ 32 ∷ 97 ∷ 116 ∷ 32 ∷ 48 ∷ 10 ∷ []
unfolding digit_count decimal field refusal_line
refused_8 = refl

-- 0 has one digit
zero_digit : decimal 0 ≡ 48 ∷ []
unfolding digit_count decimal
zero_digit = refl

-- 10 and 4095
ten : decimal 10 ≡ 49 ∷ 48 ∷ []
unfolding digit_count decimal
ten = refl

widest : decimal 4095 ≡ 52 ∷ 48 ∷ 57 ∷ 53 ∷ []
unfolding digit_count decimal
widest = refl

-- the greatest number of 64 bits: 18446744073709551615
greatest : decimal 18446744073709551615 ≡ 49 ∷ 56 ∷ 52 ∷ 52 ∷ 54 ∷ 55 ∷ 52 ∷ 52 ∷ 48 ∷ 55 ∷ 51 ∷ 55 ∷ 48 ∷ 57 ∷ 53 ∷ 53 ∷ 49 ∷ 54 ∷ 49 ∷
    53 ∷ []
unfolding digit_count decimal
greatest = refl
