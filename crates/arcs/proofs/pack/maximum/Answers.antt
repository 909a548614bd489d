-- `arcs::pack::maximum` meets its contract: none is set, or one is.
use mathlib.Core.Path.{◌∙◌}
use Rattle.arcs.proofs.laws.Packing.{maximum_none, maximum_some}
use Rattle.arcs.proofs.pack.maximum.Goals as goal

pub returns-then-separation-eq0 : goal.returns-then-separation-eq0
returns-then-separation-eq0 c = maximum_none c.args.separation c.args.v c.if-separation-eq0.true

pub returns : goal.returns
returns c =
    c.upper_bound.ensures
    ∙ maximum_some c.args.separation c.args.v c.if-separation-eq0.false
