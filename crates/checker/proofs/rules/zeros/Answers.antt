-- `checker::rules::zeros` meets its contract: the test of each element is the test of their list.
use mathlib.Core.Path.{◌≡◌, refl, ◌∙◌}
use mathlib.Core.Bool.{true}
use lib.ListN.{get_or}
use lib.IntN.{pos}
use borrow.Author.Rules.{rules}
use Rattle.network.specs.Integers.{eqZ}
use Rattle.network.specs.laws.TestedRange.{all_tested}
use Rattle.checker.proofs.laws.Loops.{all_is, all_below}
use Rattle.checker.proofs.rules.zeros.Goals as goal

pub returns : goal.returns
returns c =
    all_is (λ v. eqZ (get_or c.args.balance.now v (pos 0)) (pos 0)) (λ v. v) c.args.n c.all.result
    (all_tested (λ v. eqZ (get_or c.args.balance.now v (pos 0)) (pos 0) ≡ true) c.args.n c.all.result c.all.ensures.ran refl
    (λ x q k. search rules) (λ x q k. search rules))
    ∙ all_below _ _
