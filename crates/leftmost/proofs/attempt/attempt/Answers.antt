-- `leftmost::attempt::attempt` meets its contract: a guess that passes is a solution once its potentials are relative to ground's.
use Rattle.std.proofs.Common.{ℕ, ◌/◌, replicate, sym, ◌∙◌, ap}
use Rattle.network.specs.Nodes.{node_stride}
use Rattle.leftmost.proofs.laws.Passes.{passes_left}
use Rattle.leftmost.proofs.laws.Shown.{shown_yes}
use Rattle.leftmost.proofs.attempt.attempt.Goals as goal

pub returns : goal.returns
returns c =
    let zeros = c.clear.ensures ∙ ap (λ (k : ℕ). replicate k 0) (sym c.clear.auto.numbers) in
    rw (c.guess.auto.flows, c.guess.auto.nodes) at
    (passes_left c.optimal.new.nodes (ap (λ (k : ℕ). k / node_stride) c.optimal.auto.nodes)
    (rw (c.guess.auto.flows, c.guess.auto.nodes) c.requires.wf)
    (shown_yes c.optimal.result c.optimal.ensures c.if-not-optimal.false) c.finish.new.nodes
    c.clear.new.numbers (rw c.guess.auto.flows c.requires.limited) c.finish.ensures.settled c.finish.ensures.zeroed zeros)
