-- `circulation::step::on_kink` meets its contract: an arc is answered only if its step is 0.
use Rattle.circulation.specs.inside.Search.{StepAt}
use Rattle.circulation.proofs.laws.Found.{found_some}
use Rattle.network.specs.Net.{at, net}
use Rattle.network.specs.Nodes.{potentials, orders}
use Rattle.std.specs.Prelude.{Some}
use lib.ListN.{length}
use borrow.Author.Rules.{rules}
use Rattle.circulation.proofs.step.on_kink.Goals as goal

pub returns : goal.returns
returns c =
    found_some (λ i. StepAt (net c.args.arcs.now (length c.args.flows.now)) (at (potentials c.args.nodes.now)) (at c.args.flows.now) (at (orders c.args.nodes.now)) i (Some 0)) _ _ _ c.find.result c.find.ensures.ran (λ x q k. search rules) (λ x q k. search rules)
