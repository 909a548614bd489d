-- `difference::least` meets its contract. The passes leave the answer in the lent part, which is put back.
use Rattle.difference.proofs.laws.Parts.{answered}
use borrow.Author.Rules.{rules}
use Rattle.difference.proofs.least.Goals as goal

pub returns : goal.returns
returns c =
    answered (record { wf = c.if-not-well_formed.ensures; values_room = c.if-nodes-values.false })
    c.run.new.values c.run.auto.values c.run.result c.map_err.result c.run.ensures c.map_err.ensures.cases
    (λ stuck why told. search rules)
