-- `totals::add_up` meets its contract: each way leaves the sums that it says.
use Rattle.std.proofs.Common.{sym, ◌∙◌, arith}
use Rattle.totals.proofs.laws.LeftSums.{left_not_rising, left_chained}
use Rattle.totals.proofs.add_up.Goals as goal

pub returns-then-not-rising-clause-slice : goal.returns-then-not-rising-clause-slice
returns-then-not-rising-clause-slice c =
    left_not_rising c.args.first.now c.args.places.now c.args.edges.now c.args.sums.now (sym c.rising.ensures ∙ c.if-not-rising.true)

pub returns-then-not-chain-clause-slice : goal.returns-then-not-chain-clause-slice
returns-then-not-chain-clause-slice c =
    left_chained c.args.first.now c.args.places.now c.args.edges.now c.args.sums.now (omega (arith, c.put_starts.auto, c.requires.starts_len))
    (sym c.rising.ensures ∙ c.if-not-rising.false) (sym c.chain.ensures.answer ∙ c.if-not-chain.true)

pub returns-clause-slice : goal.returns-clause-slice
returns-clause-slice c =
    c.add_layers.ensures.slice
    ∙ left_chained c.args.first.now c.args.places.now c.args.edges.now c.args.sums.now (omega (arith, c.put_starts.auto, c.requires.starts_len))
    (sym c.rising.ensures ∙ c.if-not-rising.false) (sym c.chain.ensures.answer ∙ c.if-not-chain.false)
