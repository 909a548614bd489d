-- `leftmost::start::circulate` meets its contract: the least solution of the hard constraints is a start for the solver of flows.
use Rattle.std.proofs.Common.{ℕ, replicate, ◌∙◌, ap, arith}
use Rattle.network.specs.Nodes.{size}
use Rattle.leftmost.proofs.laws.Potentials.{potentials_part}
use Rattle.leftmost.proofs.laws.Start.{solved_from}
use Rattle.leftmost.proofs.start.circulate.Goals as goal

pub returns : goal.returns
returns c =
    let zeros = c.clear.ensures ∙ ap (λ (n : ℕ). replicate n 0) c.least.auto.values in
    let put = c.set_potentials.ensures
    ∙ potentials_part (size c.args.nodes.now) c.least.new.values c.args.nodes.now (omega (arith, c.requires.taken.room_in, c.least.auto.values)) in
    solved_from c.args.flows.now c.args.nodes.now c.args.room.now c.solve.new.flows c.solve.new.nodes c.clear.new.numbers c.requires.taken zeros
    c.least.new.values c.set_potentials.new.nodes c.least.result c.solve.result c.requires.some_feasible c.least.ensures put c.solve.ensures
