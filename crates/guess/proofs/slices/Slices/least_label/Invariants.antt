-- `guess::slices::Slices::least_label`: no more nodes are kept than are passed.
use Rattle.std.proofs.Common.{◌≤◌}
use Rattle.guess.proofs.slices.Slices.least_label.Given as goal

abbrev pub invariant-loop-j : goal.invariant-loop-j
invariant-loop-j l = l.kept ≤ l.j
