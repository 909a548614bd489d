-- `leftmost::solve_feasible` meets its contract: by a guess that is left, or by the circulation, whatever the guess left.
use Rattle.std.proofs.Common.{ℕ, ◌*◌, List, refl, ◌∙◌, ap, replicate}
use Rattle.network.specs.Nodes.{node_stride, size}
use Rattle.circulation.proofs.laws.Parts.{whole_back}
use Rattle.leftmost.proofs.laws.Shown.{shown_yes}
use Rattle.leftmost.proofs.solve_feasible.Goals as goal

pub returns-else-not-attempt : goal.returns-else-not-attempt
returns-else-not-attempt c =
    let old : List ℕ = c.args.nodes.now in
    let left = shown_yes c.attempt.result c.attempt.ensures c.if-not-attempt.false in
    let back = whole_back old (node_stride * size old) refl c.attempt.new.nodes c.attempt.auto.nodes c.attempt.new.flows left.solution
    left.others in (
      c.requires.taken,
      c.requires.some_feasible,
      c.attempt.auto.flows,
      record { in_nodes = back.0; in_room = left.room_zero ∙ ap (λ (k : ℕ). replicate k 0) c.attempt.auto.room },
      back.1,
    )
