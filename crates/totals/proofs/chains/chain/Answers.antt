-- `totals::chains::chain` meets its contract: the loop's invariant is `Chained`.
use Rattle.std.proofs.Common.{◌≡◌, ◌/◌, length, arith, false, ℕ, subst}
use Rattle.network.specs.Packed.{stride}
use Rattle.totals.specs.RunningSums.{chainable}
use Rattle.totals.specs.inside.Chains.{Chained}
use Rattle.totals.proofs.laws.Chaining.{chained_begin, no_node, all_chained, not_chained}
use Rattle.totals.proofs.chains.chain.Goals as goal

pub loop-i-init : goal.loop-i-init
loop-i-init c = chained_begin c.args.starts.now c.args.edges.now c.requires.chains_value

pub returns-in_default : goal.returns-in_default
returns-in_default c =
    let none : false ≡ chainable (length c.args.starts.now) c.args.edges.now =
    no_node (length c.args.starts.now) c.args.edges.now {i = c.loop-i.i} (omega arith) (omega (arith, c.in_default.ensures, c.edge_lower.ensures)) in
    record {
      answer = none;
      slice = not_chained (length c.args.starts.now) c.args.edges.now none;
    }

pub returns : goal.returns
returns c =
    let all : c.loop-i.i ≡ length c.args.edges.now / stride = omega arith in
    let chained = subst (λ (n : ℕ). Chained c.args.starts.now c.args.edges.now n c.loop-i.chains) all c.loop-i.invariant in
    record {
      answer = all_chained c.args.starts.now c.args.edges.now chained;
      slice = λ t. chained;
    }
