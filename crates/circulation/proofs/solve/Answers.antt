-- `circulation::solve` meets its contract: the whole nodes are lent, and put back before what stands behind them.
use Rattle.network.specs.Nodes.{node_stride}
use Rattle.network.specs.laws.TestedAnswers.{tested_yes}
use Rattle.circulation.proofs.laws.Parts.{valid_front, whole_back}
use mathlib.Core.Path.{ap}
use Prim.Native.Nat.{ℕ, ◌*◌}
use Rattle.circulation.proofs.solve.Goals as goal

pub whole-requires : goal.whole-requires
whole-requires c =
    valid_front c.args.nodes.now (node_stride * c.count_of-end.result)
    (ap (λ (k : ℕ). node_stride * k) c.count_of-end.ensures)
    (tested_yes c.valid.result c.valid.ensures c.if-not-valid.false)

pub returns : goal.returns
returns c =
    let back = whole_back c.args.nodes.now (node_stride * c.count_of-end.result)
    (ap (λ (k : ℕ). node_stride * k) c.count_of-end.ensures) c.whole.new.nodes c.whole.auto.nodes
    c.whole.new.flows c.whole.ensures.solution c.whole.ensures.zeroed in (
      tested_yes c.valid.result c.valid.ensures c.if-not-valid.false,
      c.whole.auto.flows,
      back.0,
      back.1,
    )
