-- `circulation::input::hanger` meets its contract: what `find` finds.
use Rattle.circulation.proofs.laws.Found.{hanger_found}
use borrow.Author.Rules.{rules}
use Rattle.circulation.proofs.input.hanger.Goals as goal

pub returns : goal.returns
returns c = hanger_found c.args.arcs.now c.args.v c.args.g _ _ _ c.find.result c.find.ensures.ran (λ x q k. search rules) (λ x q k. search rules)
