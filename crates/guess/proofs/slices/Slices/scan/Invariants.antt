-- `guess::slices::Slices::scan` ends: what is left of the entries falls.
use Rattle.std.proofs.Common.{◌-◌}
use Rattle.guess.proofs.slices.Slices.scan.Given as goal

abbrev pub decreases-loop-j : goal.decreases-loop-j
decreases-loop-j l = l.end - l.start
