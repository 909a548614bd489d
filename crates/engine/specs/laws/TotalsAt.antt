-- What drawing a sheet at a width answers, where the slices are long enough: its total there, or 8 where it has no drawing.
use Rattle.std.specs.Prelude.{ℕ, ◌≡◌, List, ℤ, length, take}
use Rattle.std.proofs.Common.{ap, ap₂}
use Rattle.leb128.specs.Reply.{Reply}
use Rattle.leb128.specs.Source.{refusal}
use Rattle.drawing.specs.Sheet.{Sheet, at_width}
use Rattle.drawing.specs.Drawing.{NoDrawing}
use Rattle.drawing.specs.Widths.{TotalAt}
use Rattle.drawing.proofs.laws.Widths.{one_total}
use Rattle.engine.specs.Refusals.{no_drawing}
use Rattle.engine.specs.Draws.{Drawn, Room, DrawsSheet}
use Rattle.engine.specs.inside.Widths.{TotalsAt}
use Rattle.engine.specs.laws.Refusals.{refused_none}

-- its total there, or 8
pub drawn_totals : (S : Sheet) (w : ℕ) (p₀ : List ℕ) (y₀ : List ℤ) (p : List ℕ) (y : List ℤ) → Room S (length p₀) (length y₀)
    → (d : Drawn) → DrawsSheet (at_width w S) p₀ y₀ p y d → TotalsAt S w d
drawn_totals S w p₀ y₀ p y room (Reply.value t) g =
    record { places = take S.nodes p; least = g.leftmost.is_least; total_is = g.total_is }
drawn_totals S w p₀ y₀ p y room (Reply.refused r) g =
    let at-w : Room (at_width w S) (length p₀) (length y₀) = record { nodes = room.nodes; numbers = room.numbers } in
    let k = refused_none (at_width w S) (length p₀) (length y₀) at-w g.0 in
    (ap₂ (λ (n o : ℕ). record { number = n; offset = o }) k.0 g.1, k.1)

-- where the sheet has a least total at the width, that is it
pub total_drawn : (S : Sheet) {w t : ℕ} → TotalAt S w t → (d : Drawn) → TotalsAt S w d → d ≡ Reply.value t
total_drawn S k (Reply.value u) g = ap Reply.value (one_total S g k)
total_drawn S k (Reply.refused r) g = absurd (g.1 _ k.least.candidate)

-- where it has no drawing at the width, it is 8
pub none_drawn : (S : Sheet) {w : ℕ} → NoDrawing (at_width w S) → (d : Drawn) → TotalsAt S w d → d ≡ Reply.refused (refusal no_drawing 0)
none_drawn S k (Reply.value u) g = absurd (k _ g.least.candidate)
none_drawn S k (Reply.refused r) g = ap Reply.refused g.0
