-- Other widths: the numbers with another width are those of the sheet at that width, and a drawing is one at every width that no
-- coordinate passes. So the greatest coordinate of the lowest drawing is the minimum width.
use Rattle.std.specs.Prelude.{ℕ, zero, suc, ◌≤◌, ◌<◌, ◌≡◌, refl, List, [], ◌∷◌, drop}
use Rattle.std.proofs.Common.{zero-le, sym, ◌∙◌, ap, arith}
use Rattle.leb128.specs.Grammar.{Accepts}
use Rattle.leb128.specs.Grammar.Accepts.{one}
use Rattle.leb128.specs.laws.EachNumber.{within_inside}
use Rattle.sheet.specs.Limits.{max_width}
use Rattle.sheet.specs.Grammar.{sheet}
use Rattle.drawing.specs.Sheet.{Sheet, sheet_of, at_width}
use Rattle.drawing.specs.Drawing.{coordinate, Drawing, NoDrawing}
use Rattle.drawing.specs.Widths.{with_width, TotalAt}
use Rattle.drawing.specs.laws.Widths.{greatest}
use Rattle.drawing.proofs.laws.SameDrawings.{inside_at, at_inside}

-- the numbers with another width are good
pub width_accepts : (width : ℕ) {s : List ℕ} → width ≤ max_width → Accepts sheet s → Accepts sheet (with_width width s)
unfolding sheet
width_accepts width h (one ok rest) = one (within_inside 0 max_width width zero-le h) rest

-- and are those of the sheet at that width
pub width_sheet : (width : ℕ) {s : List ℕ} → Accepts sheet s → sheet_of (with_width width s) ≡ at_width width (sheet_of s)
unfolding sheet sheet_of
width_sheet width (one ok rest) = refl

-- the sheet at a width goes by the numbers behind the first
of_behind : (width : ℕ) (s : List ℕ) → at_width width (sheet_of s) ≡ at_width width (sheet_of (0 ∷ drop 1 s))
unfolding sheet_of
of_behind width [] = refl
of_behind width (n ∷ s) = refl

-- so numbers that agree there are those of one sheet, at any width
pub same_behind : (width : ℕ) (s t : List ℕ) → drop 1 s ≡ drop 1 t → at_width width (sheet_of s) ≡ at_width width (sheet_of t)
same_behind width s t e = of_behind width s ∙ ap (λ (l : List ℕ). at_width width (sheet_of (0 ∷ l))) e ∙ sym (of_behind width t)

-- no coordinate is greater
greatest_at : (p : List ℕ) (v : ℕ) → coordinate p v ≤ greatest p
greatest_at [] v = zero-le
greatest_at (x ∷ p) zero = omega arith
greatest_at (x ∷ p) (suc v) = omega (arith, greatest_at p v)

-- and it is no greater than what bounds all
greatest_le : (p : List ℕ) (w : ℕ) → ((v : ℕ) → coordinate p v ≤ w) → greatest p ≤ w
greatest_le [] w f = zero-le
greatest_le (x ∷ p) w f = omega (arith, f 0, greatest_le p w (λ v. f (suc v)))

module _ (S : Sheet) where
  -- a drawing at one width is one at every width that no coordinate passes
  pub drawing_at : (u w : ℕ) (p : List ℕ) → Drawing (at_width u S) p → ((v : ℕ) → coordinate p v ≤ w) → Drawing (at_width w S) p
  drawing_at u w p d f =
      record { size = d.size; inside = at_inside w p (λ v h. f v); separations = d.separations; straight = d.straight }

  -- so it is one at every greater width
  pub drawing_wider : (u w : ℕ) (p : List ℕ) → u ≤ w → Drawing (at_width u S) p → Drawing (at_width w S) p
  drawing_wider u w p h d = drawing_at u w p d (λ v. omega (arith, inside_at u p d.inside v))

  -- where there is none at a width, there is none at a smaller one
  pub none_narrower : (u w : ℕ) → u ≤ w → NoDrawing (at_width w S) → NoDrawing (at_width u S)
  none_narrower u w h none q d = none q (drawing_wider u w q h d)

  -- a width has one least total at most
  pub one_total : {width t u : ℕ} → TotalAt S width t → TotalAt S width u → t ≡ u
  one_total a b =
      omega (
        arith,
        a.total_is,
        b.total_is,
        a.least.least b.places b.least.candidate,
        b.least.least a.places a.least.candidate,
      )

  -- p is a drawing at a width, and no drawing at that width has a smaller coordinate anywhere
  pub record LowestAt (width : ℕ) (p : List ℕ) : Type 0 where
    pub drawing : Drawing (at_width width S) p
    pub lowest : (q : List ℕ) → Drawing (at_width width S) q → (v : ℕ) → coordinate p v ≤ coordinate q v

  module _ (limit : ℕ) (p : List ℕ) (low : LowestAt limit p) where
    -- its greatest coordinate is within the limit
    pub greatest_in : greatest p ≤ limit
    greatest_in = greatest_le p limit (inside_at limit p low.drawing.inside)

    -- it is a drawing at that width
    pub drawing_narrow : Drawing (at_width (greatest p) S) p
    drawing_narrow = drawing_at limit (greatest p) p low.drawing (greatest_at p)

    -- and there is none at a smaller one
    pub narrower_none : (w : ℕ) → w < greatest p → NoDrawing (at_width w S)
    narrower_none w h q d =
        let inside : (v : ℕ) → coordinate q v ≤ w = inside_at w q d.inside in
        let below : (v : ℕ) → coordinate p v ≤ coordinate q v =
        low.lowest q (drawing_wider w limit q (omega (arith, greatest_in)) d) in
        let le : greatest p ≤ w = greatest_le p w (λ v. omega (arith, below v, inside v)) in
        omega arith
