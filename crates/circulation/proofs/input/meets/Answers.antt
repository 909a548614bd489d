-- `circulation::input::meets` meets its contract: `all` over the arcs is a test of each.
use Rattle.network.specs.laws.TestedAnswers.{tested_map}
use Rattle.network.specs.laws.TestedRange.{all_tested}
use Rattle.network.specs.Nodes.{potentials}
use Rattle.network.specs.Net.{at, net}
use Rattle.circulation.specs.inside.Slackness.{Met}
use Rattle.circulation.proofs.laws.Valids.{met_of}
use borrow.Author.Rules.{rules}
use mathlib.Core.Path.{refl}
use Rattle.circulation.proofs.input.meets.Goals as goal

pub returns : goal.returns
returns c =
    tested_map (λ met. record { not_right = λ i l. (met i l).0; not_left = λ i l. (met i l).1 })
    (met_of (net c.args.arcs.now c.args.m) (at (potentials c.args.nodes.now))) c.all.result
    (all_tested (Met (net c.args.arcs.now c.args.m) (at (potentials c.args.nodes.now))) c.args.m c.all.result c.all.ensures.ran refl
    (λ x q k. search rules) (λ x q k. search rules))
