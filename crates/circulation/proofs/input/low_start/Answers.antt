-- `circulation::input::low_start` meets its contract: `all` over the nodes is a test of each.
use Rattle.network.specs.laws.TestedAnswers.{tested_map}
use Rattle.network.specs.laws.TestedRange.{all_tested}
use Rattle.network.specs.Nodes.{potentials}
use Rattle.network.specs.Net.{at}
use Rattle.network.specs.Packed.{flow_zero}
use Rattle.circulation.proofs.laws.Valids.{all_small}
use Prim.Native.Nat.{◌≤◌}
use borrow.Author.Rules.{rules}
use native.Mathlib.Omega.{arith}
use mathlib.Core.Path.{refl}
use Rattle.circulation.proofs.input.low_start.Goals as goal

pub returns : goal.returns
returns c =
    tested_map (λ small. all_small c.args.nodes.now (λ v l. small v (omega arith))) (λ first v l. first v) c.all.result
    (all_tested (λ v. at (potentials c.args.nodes.now) v ≤ flow_zero) c.args.n c.all.result c.all.ensures.ran refl
    (λ x q k. search rules) (λ x q k. search rules))
