-- `leftmost::start::set_potentials` meets its contract: each turn makes one store of the definition.
use Rattle.std.proofs.Common.{◌≡◌}
use Rattle.leftmost.specs.inside.Potentials.{potentials_to}
use Rattle.leftmost.proofs.start.set_potentials.Given as goal

abbrev pub invariant-loop-v : goal.invariant-loop-v
invariant-loop-v l = l.nodes ≡ potentials_to l.v l.values l.initial.nodes
