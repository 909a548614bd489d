-- The running sums of a few sheets in their drawings, computed: one for each layer, the first layer's in front. The numbers of these
-- sheets are their bytes behind the magic.
use Rattle.std.specs.Prelude.{◌≡◌, refl, [], ◌∷◌, drop}
use Rattle.sheet.specs.Limits.{magic_bytes}
use Rattle.drawing.specs.Sheet.{sheet_of}
use Rattle.drawing.specs.Traces.{traces}
use Rattle.drawing.specs.Table.{first, stair, over, lone}
use Rattle.drawing.specs.Drawing.{total_from, running_sums}

-- the first sheet: 1 after each of its two layers
first_sums : running_sums (sheet_of (drop magic_bytes first)) (0 ∷ 1 ∷ 0 ∷ []) ≡ 1 ∷ 1 ∷ []
unfolding sheet_of traces total_from
first_sums = refl

-- the stair at width 1: 1 after the third layer, 2 after the second and after the first
stair_sums : running_sums (sheet_of (drop magic_bytes (stair 1 0))) (0 ∷ 1 ∷ 0 ∷ 1 ∷ 0 ∷ 1 ∷ []) ≡ 2 ∷ 2 ∷ 1 ∷ []
unfolding sheet_of traces total_from
stair_sums = refl

-- one node over three with parallel edges: 2 after each
over_sums : running_sums (sheet_of (drop magic_bytes (over 0))) (0 ∷ 0 ∷ 1 ∷ 2 ∷ []) ≡ 2 ∷ 2 ∷ []
unfolding sheet_of traces total_from
over_sums = refl

-- no edges: 0
lone_sums : running_sums (sheet_of (drop magic_bytes lone)) (0 ∷ []) ≡ 0 ∷ []
unfolding sheet_of traces total_from
lone_sums = refl
