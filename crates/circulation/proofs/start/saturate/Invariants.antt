-- `circulation::start::saturate` meets its contract: the flows before i are the first ones.
use Rattle.network.specs.Net.{net, at}
use Rattle.circulation.specs.inside.Slackness.{FilledAt}
use Rattle.network.specs.Nodes.{potentials}
use lib.ListN.{length}
use Prim.Native.Nat.{ℕ, ◌<◌}
use Rattle.circulation.proofs.start.saturate.Given as goal

abbrev pub invariant-loop-i : goal.invariant-loop-i
invariant-loop-i l = (k : ℕ) → k < l.i → FilledAt (net l.arcs (length l.initial.flows)) (at (potentials l.nodes)) k (at l.flows k)
