-- `checker::rules::all_allowed` meets its contract: the test of each flow is the test of their list.
use mathlib.Core.Path.{◌≡◌, refl}
use mathlib.Core.Bool.{true}
use borrow.Author.Rules.{rules}
use Rattle.network.specs.laws.TestedRange.{all_tested}
use Rattle.network.specs.Flows.{allowed}
use Rattle.network.specs.Packed.{flow_at}
use Rattle.checker.proofs.laws.Loops.{all_is}
use Rattle.checker.proofs.rules.all_allowed.Goals as goal

pub returns : goal.returns
returns c =
    all_is allowed (flow_at c.args.arcs.now c.args.list.now) c.args.n c.all.result
    (all_tested (λ i. allowed (flow_at c.args.arcs.now c.args.list.now i) ≡ true) c.args.n c.all.result c.all.ensures.ran refl
    (λ x q k. search rules) (λ x q k. search rules))
