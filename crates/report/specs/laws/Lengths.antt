-- How long a text is at most, by the limits of a sheet: no line is longer than that of the greatest numbers.
use Prim.Native.Nat.{ℕ, zero, suc, ◌+◌, ◌-◌, ◌*◌, ◌^◌, ◌≤◌, ◌<◌}
use Rattle.std.specs.Prelude.{◌≡◌, refl, take, drop}
use Rattle.std.proofs.Common.{sym, ◌∙◌, mul-le-mul_right, ⊎_elim, lt-ltb, le-ltb, get_or-take}
use Rattle.std.proofs.Math.Path.{ap}
use mathlib.Core.List.{List, [], ◌∷◌, ◌++◌}
use native.Mathlib.Omega.{arith}
use Rattle.leb128.specs.Refusals.{slice_short}
use Rattle.leb128.specs.Source.{refusal}
use Rattle.leb128.specs.laws.Cases.{lt_or_le}
use Rattle.std.proofs.Math.ListN.{length, get_or, length-append}
use Rattle.leb128.specs.Limits.{list_limit}
use Rattle.leb128.specs.Format.{Result}
use Rattle.leb128.specs.Format.Result.{elements}
use Rattle.leb128.specs.declared.Refusal.{Refusal}
use Rattle.sheet.specs.Limits.{max_width, max_layers, max_layer_nodes, max_nodes, max_edges}
use Rattle.sheet.specs.Layout.{layers_at, first_layer_at, nodes_at, separations_at, next_layer, nodes_of, node_count, Limited, LaidOut}
use Rattle.sheet.specs.Reading.{read_sheet}
use Rattle.sheet.specs.laws.Sheets.{read_accepted, good_layout}
use Rattle.drawing.specs.Sheet.{pairs_of, layers_of, sheet_of}
use Rattle.drawing.specs.Drawing.{coordinate, Drawing, total_length}
use Rattle.drawing.proofs.laws.Proper.{nodes_are, accepts_proper}
use Rattle.drawing.proofs.laws.SameDrawings.{length_pairs, inside_at}
use Rattle.drawing.proofs.laws.Unique.{total_small}
use Rattle.report.specs.Decimal.{digit_count, decimal}
use Rattle.report.specs.Text.{space, newline, total_word, refused_word, at_word, field, total_line, node_line, node_lines}
use Rattle.report.specs.Text.{layer_lines, layers_lines, drawing_lines, refusal_line, drawing_text}
use Rattle.report.specs.laws.Fewest.{decimal_le}

-- the longest line of a node, where no place is greater than this one
unfoldable pub line_limit : ℕ → ℕ
line_limit place = length (node_line max_layers max_layer_nodes place)

-- the longest text, where no place and no total is greater than these
unfoldable pub text_limit : ℕ → ℕ → ℕ
text_limit place total = length (total_line total) + max_nodes * line_limit place

-- a greater number takes no less room
field_le : (stop : ℕ) {n m : ℕ} → n ≤ m → length (field n stop) ≤ length (field m stop)
unfolding field
field_le stop {n} {m} h = omega (arith, length-append (decimal n) (stop ∷ []), length-append (decimal m) (stop ∷ []), decimal_le h)

-- so does a greater total
total_line_le : {n m : ℕ} → n ≤ m → length (total_line n) ≤ length (total_line m)
unfolding total_line
total_line_le {n} {m} h =
    omega (arith, length-append total_word (field n newline), length-append total_word (field m newline), field_le newline h)

-- the length of a node's line
node_line_length : (layer position place : ℕ)
    → length (node_line layer position place) ≡ length (field layer space) + length (field position space) + length (field place newline)
unfolding node_line
node_line_length layer position place =
    length-append (field layer space ++ field position space) (field place newline)
    ∙ ap (λ (n : ℕ). n + length (field place newline)) (length-append (field layer space) (field position space))

-- a node's line is no longer than the longest
node_line_le : (layer position place m : ℕ) → layer ≤ max_layers → position ≤ max_layer_nodes → place ≤ m
    → length (node_line layer position place) ≤ line_limit m
unfolding line_limit
node_line_le layer position place m a b c =
    omega (
      arith,
      node_line_length layer position place,
      node_line_length max_layers max_layer_nodes m,
      field_le space a,
      field_le space b,
      field_le newline c,
    )

-- the nodes below n have places up to m
module _ (p : List ℕ) (n m : ℕ) (small : (v : ℕ) → v < n → coordinate p v ≤ m) where
  -- the lines of k nodes of a layer
  node_lines_le : (layer k position v : ℕ) → layer ≤ max_layers → position + k ≤ suc max_layer_nodes → v + k ≤ n
      → length (node_lines p layer k position v) ≤ k * line_limit m
  unfolding node_lines
  node_lines_le layer zero position v a b c = omega arith
  node_lines_le layer (suc k) position v a b c =
      omega (
        arith,
        length-append (node_line layer position (coordinate p v)) (node_lines p layer k (position + 1) (v + 1)),
        node_line_le layer position (coordinate p v) m a (omega arith) (small v (omega arith)),
        node_lines_le layer k (position + 1) (v + 1) a (omega arith) (omega arith),
      )

  -- the lines of k layers
  layers_lines_le : (k layer u : ℕ) (s : List ℕ) → Limited k s → layer + k ≤ suc max_layers → u + nodes_of k s ≤ n
      → length (layers_lines p layer (layers_of k u s)) ≤ nodes_of k s * line_limit m
  unfolding layers_lines layer_lines
  layers_lines_le zero layer u s g a b = omega arith
  layers_lines_le (suc k) layer u s g a b =
      let c : ℕ = get_or s nodes_at 0 in
      let size : suc (length (pairs_of (c - 1) u (drop separations_at s))) ≡ c =
      ap suc (length_pairs (c - 1) u (drop separations_at s)) ∙ omega (arith, g.0) in
      let first : List ℕ = node_lines p layer c 1 u in
      let others : List ℕ = layers_lines p (layer + 1) (layers_of k (u + c) (next_layer s)) in
      let both : length (node_lines p layer (suc (length (pairs_of (c - 1) u (drop separations_at s)))) 1 u ++ others)
      ≡ length first + length others =
      ap (λ (i : ℕ). length (node_lines p layer i 1 u ++ others)) size ∙ length-append first others in
      omega (
        arith,
        both,
        node_lines_le layer c 1 u (omega arith) (omega (arith, g.1)) (omega arith),
        layers_lines_le k (layer + 1) (u + c) (next_layer s) g.2 (omega arith) (omega arith),
      )

-- a drawing's text, of a good sheet's numbers
pub drawing_lines_le : (numbers p : List ℕ) (total m t : ℕ) → LaidOut numbers
    → ((v : ℕ) → v < node_count numbers → coordinate p v ≤ m) → total ≤ t
    → length (drawing_lines (sheet_of numbers) p total) ≤ text_limit m t
unfolding drawing_lines text_limit sheet_of
drawing_lines_le numbers p total m t good small h =
    let k : ℕ = get_or numbers layers_at 0 in
    let s : List ℕ = drop first_layer_at numbers in
    omega (
      arith,
      length-append (total_line total) (layers_lines p 1 (layers_of k 0 s)),
      total_line_le h,
      layers_lines_le p (node_count numbers) m small k 1 0 s good.layers (omega (arith, good.layer_count)) (omega arith),
      mul-le-mul_right (line_limit m) good.nodes,
    )

-- 17 + 256 · 12 bytes where places have 16 bits and the total 32
pub any_text_limit : text_limit (list_limit - 1) (2 ^ 32 - 1) ≡ 3089
unfolding text_limit line_limit total_line node_line field decimal digit_count
any_text_limit = refl

-- 14 + 256 · 11 bytes for a drawing and its total
pub drawn_text_limit : text_limit max_width (max_edges * max_width) ≡ 2830
unfolding text_limit line_limit total_line node_line field decimal digit_count
drawn_text_limit = refl

-- a refusal's text
pub refusal_line_le : (r : Refusal) (number offset : ℕ) → r.number ≤ number → r.offset ≤ offset
    → length (refusal_line r) ≤ length (refusal_line (refusal number offset))
unfolding refusal_line
refusal_line_le r number offset a b =
    omega (arith, line_length r.number r.offset, line_length number offset, field_le space a, field_le newline b)
  where
    line_length : (n o : ℕ)
        → length (refused_word ++ field n space ++ at_word ++ field o newline) ≡ 11 + length (field n space) + length (field o newline)
    line_length n o =
        omega (
          arith,
          length-append (refused_word ++ field n space ++ at_word) (field o newline),
          length-append (refused_word ++ field n space) at_word,
          length-append refused_word (field n space),
        )

-- 36 bytes where the number has 8 bits and the offset 64
pub refusal_limit : length (refusal_line (refusal (2 ^ 8 - 1) (2 ^ 64 - 1))) ≡ 36
unfolding refusal_line field decimal digit_count
refusal_limit = refl

-- what a drawing's text is made of
record Made (read : Result) (p : List ℕ) (total : ℕ) (text : List ℕ) : Type 0 where
  pub numbers : List ℕ
  pub reads : read ≡ elements numbers
  pub is : text ≡ drawing_lines (sheet_of numbers) p total

-- every text of a drawing is made so
made : (read : Result) (p : List ℕ) (total : ℕ) (text : List ℕ) → drawing_text read p total ≡ elements text → Made read p total text
unfolding drawing_text
made (elements numbers) p total text e =
    ⊎_elim
    (λ (h : length p < (sheet_of numbers).nodes).
    let f : Result.refused (refusal slice_short 0) ≡ elements text = rw (lt-ltb (length p) (sheet_of numbers).nodes h) at e in
    let z : ◌≡◌ {A = ℕ} 0 1 = cc in absurd (omega arith))
    (λ (h : (sheet_of numbers).nodes ≤ length p).
    let f : elements (drawing_lines (sheet_of numbers) p total) ≡ elements text = rw (le-ltb (length p) (sheet_of numbers).nodes h) at e in
    record { numbers = numbers; reads = refl; is = cc })
    (lt_or_le (length p) (sheet_of numbers).nodes)
made (Result.refused r) p total text e = let z : ◌≡◌ {A = ℕ} 0 1 = cc in absurd (omega arith)

module _ (bytes p : List ℕ) (total : ℕ) (text : List ℕ) (e : drawing_text (read_sheet bytes) p total ≡ elements text) where
  -- places of 16 bits and a total of 32: at most 3,089 bytes
  pub any_text : ((v : ℕ) → coordinate p v < list_limit) → total < 2 ^ 32 → length text ≤ 3089
  any_text small h =
      let m = made (read_sheet bytes) p total text e in
      let good = good_layout m.numbers (read_accepted bytes m.numbers m.reads) in
      omega (
        arith,
        ap length m.is,
        any_text_limit,
        drawing_lines_le m.numbers p total (list_limit - 1) (2 ^ 32 - 1) good (λ v i. omega (arith, small v)) (omega arith),
      )

  -- the places of a drawing and its total: at most 2,830 bytes
  pub drawn_text : (numbers : List ℕ) → read_sheet bytes ≡ elements numbers
      → Drawing (sheet_of numbers) (take (sheet_of numbers).nodes p)
      → total ≡ total_length (sheet_of numbers) (take (sheet_of numbers).nodes p) → length text ≤ 2830
  drawn_text numbers is d t =
      let S = sheet_of numbers in
      let m = made (read_sheet bytes) p total text e in
      let accepts = read_accepted bytes numbers is in
      let same-elements : elements m.numbers ≡ elements numbers = sym m.reads ∙ is in
      let same : m.numbers ≡ numbers = cc in
      let proper = accepts_proper numbers accepts in
      omega (
        arith,
        ap length (m.is ∙ ap (λ (s : List ℕ). drawing_lines (sheet_of s) p total) same),
        drawn_text_limit,
        drawing_lines_le numbers p total max_width (max_edges * max_width) (good_layout numbers accepts)
            (λ v i. omega (
              arith,
              proper.width,
              inside_at S.width (take S.nodes p) d.inside v,
              get_or-take S.nodes p v 0 (omega (arith, nodes_are numbers)),
            ))
            (omega (arith, t, total_small S (take S.nodes p) proper d)),
      )
