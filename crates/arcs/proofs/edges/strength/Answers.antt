-- `arcs::edges::strength` meets its contract: plain, or straight.
use Rattle.arcs.proofs.laws.Edges.{straight}
use Rattle.arcs.proofs.edges.strength.Goals as goal

pub returns : goal.returns
returns c = straight _ c.if-kind-eq0.false
