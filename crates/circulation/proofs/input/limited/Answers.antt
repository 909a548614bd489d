-- `circulation::input::limited` meets its contract: `all` over the arcs is a test of each.
use Rattle.network.specs.laws.TestedAnswers.{tested_map}
use Rattle.network.specs.laws.TestedRange.{all_tested}
use Rattle.network.specs.Net.{net}
use Rattle.circulation.specs.Input.{LimitsIn}
use borrow.Author.Rules.{rules}
use mathlib.Core.Path.{refl}
use Rattle.circulation.proofs.input.limited.Goals as goal

pub returns : goal.returns
returns c =
    tested_map (λ each. record { each = each }) (λ w. w.each) c.all.result
    (all_tested (LimitsIn (net c.args.arcs.now c.args.m)) c.args.m c.all.result c.all.ensures.ran refl
    (λ x q k. search rules) (λ x q k. search rules))
