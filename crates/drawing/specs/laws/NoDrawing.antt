-- A list that shows that a sheet has no drawing: it meets the rules with 0 for every plain trace, and its bound is above 0.
use Rattle.std.specs.Prelude.{List, Bool, true, ◌&&◌, ℕ, zero, suc, ℤ, pos}
use Rattle.std.specs.Int.Signed.{lt_z}
use Rattle.network.specs.Integers.{eqZ}
use Rattle.network.specs.Sums.{all}
use Rattle.drawing.specs.Sheet.{Sheet}
use Rattle.drawing.specs.Certificate.{certificate, meets_rules, bound}

-- the multiplier of an edge that carries no straight trace is 0
abbrev pub idle_edge : ℕ → ℤ → Bool
idle_edge zero y = eqZ y (pos 0)
idle_edge (suc kind) y = true

-- the list meets the rules, with 0 for every plain trace, and its bound (floor) is above 0
unfoldable pub shows_none : Sheet → List ℤ → Bool
shows_none S y =
    meets_rules S y &&
    (all (λ e. idle_edge e.edge.kind e.amount) (certificate S y).edges && lt_z (pos 0) (bound S y))
