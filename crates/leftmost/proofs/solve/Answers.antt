-- `leftmost::solve` meets its contract: what is solved in slices that were worked in is solved in those before.
use Rattle.std.proofs.Common.{ℕ, List, refl, ◌∙◌, ap, arith}
use Rattle.network.specs.Net.{at}
use Rattle.network.specs.Nodes.{size}
use Rattle.leftmost.proofs.laws.Potentials.{potentials_part, behind_same}
use Rattle.leftmost.proofs.laws.Start.{solved_before}
use Rattle.leftmost.proofs.solve.Goals as goal

pub returns : goal.returns
returns c =
    let nodes : List ℕ = c.args.nodes.now in
    let values : List ℕ = c.least.new.values in
    let put = c.set_potentials.ensures ∙ potentials_part (size nodes) values nodes (omega (arith, c.least.auto.values)) in
    solved_before c.args.flows.now nodes c.args.room.now c.args.flows.now c.set_potentials.new.nodes values
    c.solve_feasible.new.flows c.solve_feasible.new.nodes c.solve_feasible.new.room refl c.set_potentials.auto.nodes
    (λ i past. ap (λ (l : List ℕ). at l i) put ∙ behind_same (size nodes) values nodes i past)
    c.least.auto.values c.solve_feasible.ensures
