-- `circulation::whole` meets its contract: the flows balance, the last search makes the potentials leftmost, and no node
-- is far left of ground.
use Rattle.network.specs.Nodes.{size, node_stride}
use Rattle.network.specs.Net.{net}
use Rattle.circulation.proofs.laws.Leftmost.{flooded_solution}
use lib.ListN.{length}
use mathlib.Core.Path.{ap, ◌∙◌}
use Prim.Native.Nat.{ℕ, ◌/◌}
use Rattle.circulation.proofs.whole.Goals as goal

pub returns : goal.returns
returns c =
    record {
      solution = flooded_solution (net c.args.arcs.now (length c.args.flows.now)) (size c.args.nodes.now)
          c.run.new.flows c.flood.new.nodes c.finish.new.nodes c.requires.wf
          (ap (λ (k : ℕ). k / node_stride) (c.flood.auto.nodes ∙ c.run.auto.nodes)) c.run.ensures.1
          (rw (c.run.auto.flows, c.run.auto.nodes) at c.flood.ensures)
          c.finish.ensures.settled;
      zeroed = c.finish.ensures.zeroed;
    }
