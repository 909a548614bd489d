-- `checker::rules::all_legal` meets its contract: the test of each arc is the test of their list.
use mathlib.Core.Path.{◌≡◌, refl}
use mathlib.Core.Bool.{true}
use borrow.Author.Rules.{rules}
use Rattle.network.specs.laws.TestedRange.{all_tested}
use Rattle.network.specs.Network.{integers, legal}
use Rattle.network.specs.Packed.{arc_at}
use Rattle.checker.proofs.laws.Loops.{all_is}
use Rattle.checker.proofs.rules.all_legal.Goals as goal

pub returns : goal.returns
returns c =
    all_is (legal (integers c.args.places.now)) (arc_at c.args.arcs.now) c.args.n c.all.result
    (all_tested (λ i. legal (integers c.args.places.now) (arc_at c.args.arcs.now i) ≡ true) c.args.n c.all.result c.all.ensures.ran refl
    (λ x q k. search rules) (λ x q k. search rules))
