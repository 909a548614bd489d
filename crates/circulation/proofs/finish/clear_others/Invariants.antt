-- `circulation::finish::clear_others` meets its contract: the numbers 1 .. k - 1 of every node are 0.
use Rattle.network.specs.Nodes.{potentials}
use Rattle.circulation.specs.inside.Finish.{Zeroed}
use mathlib.Core.Path.{◌≡◌}
use Rattle.circulation.proofs.finish.clear_others.Given as goal

abbrev pub invariant-loop-k : goal.invariant-loop-k
invariant-loop-k l = Zeroed l.k l.nodes × (potentials l.nodes ≡ potentials l.initial.nodes)
