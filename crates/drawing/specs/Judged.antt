-- Document 01, "The pull list": the checker's decision.
use Rattle.std.specs.Prelude.{Bool, ◌&&◌, ℕ, List, ℤ, pos}
use Rattle.network.specs.Integers.{eqZ}
use Rattle.drawing.specs.Sheet.{Sheet}
use Rattle.drawing.specs.Drawing.{is_drawing, total_length}
use Rattle.drawing.specs.Certificate.{meets_rules, bound}

-- yes: the coordinates are a drawing, the list meets the rules, and the bound (floor) equals the total
unfoldable pub judged : Sheet → List ℕ → List ℤ → Bool
judged S p y = is_drawing S p && (meets_rules S y && eqZ (bound S y) (pos (total_length S p)))
