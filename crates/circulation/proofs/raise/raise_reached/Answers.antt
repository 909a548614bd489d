-- `circulation::raise::raise_reached` meets its contract: a step of nothing moves nothing; any other is the loop's.
use Rattle.circulation.proofs.laws.Moves.{unmoved}
use Rattle.circulation.proofs.raise.raise_reached.Goals as goal

pub returns-then-d-eq0-clause-moved : goal.returns-then-d-eq0-clause-moved
returns-then-d-eq0-clause-moved c = unmoved c.args.d c.if-d-eq0.true c.requires.small
