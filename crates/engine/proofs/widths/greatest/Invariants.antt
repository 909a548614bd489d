-- `engine::widths::greatest` meets its contract: the greatest of what was seen and of what is left is that of all.
use Prim.Native.Nat.{max}
use mathlib.Core.Path.{◌≡◌}
use lib.ListN.{drop}
use Rattle.drawing.specs.laws.Widths.{greatest}
use Rattle.engine.proofs.widths.greatest.Given as goal

abbrev pub invariant-loop-n : goal.invariant-loop-n
invariant-loop-n l = max l.most (greatest (drop l.n-index l.numbers)) ≡ greatest l.numbers
