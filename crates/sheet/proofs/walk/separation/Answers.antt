-- `sheet::walk::separation` meets its contract: the maximum follows the minimum.
use Rattle.std.proofs.lemmas.Result.{err_from_is_err_and}
use Rattle.leb128.specs.Grammar.{Grammar, plain}
use Rattle.sheet.specs.Grammar.{maximum_rule, separation}
use Rattle.sheet.proofs.laws.WalkSteps.{then_reads, stops}
use Rattle.sheet.proofs.walk.separation.Goals as goal

pub returns-in_err-least : goal.returns-in_err-least
unfolding separation
returns-in_err-least c =
    let p = err_from_is_err_and c.from_residual.result c.from_residual.ensures.1 in
    rw (p.1, p.2, ← c.in_err-least.was)
    (record { reads = stops c.limited.ensures.reads (λ least. Grammar.number plain (maximum_rule least)) c.in_err-least.was })

pub returns : goal.returns
unfolding separation
returns c =
    record {
      reads = then_reads c.limited.ensures.reads (λ least. Grammar.number plain (maximum_rule least))
          c.in_ok-least.was c.maximum.ensures.reads;
    }
