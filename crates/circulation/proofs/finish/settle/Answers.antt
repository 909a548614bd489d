-- `circulation::finish::settle` meets its contract: the potentials before v are relative to ground's, those from v on as
-- before.
use Rattle.network.specs.Nodes.{potentials}
use Rattle.circulation.proofs.laws.Finishes.{settle_next}
use Rattle.network.specs.Net.{at}
use mathlib.Core.Path.{ap}
use Prim.Native.Nat.{ℕ, ◌-◌}
use native.Mathlib.Omega.{arith}
use Rattle.circulation.proofs.finish.settle.Goals as goal

pub loop-v-preserved : goal.loop-v-preserved
loop-v-preserved c =
    settle_next c.put.new.nodes c.loop-v.invariant (omega arith) c.put.ensures
    (omega (
      arith,
      c.get-p.ensures,
      c.loop-v.invariant.todo c.loop-v.v (omega arith),
      c.get-ground.ensures,
      ap (λ (k : ℕ). at (potentials c.args.nodes.now) (k - 1)) c.count_of-n.ensures,
      c.requires.near c.loop-v.v (omega arith),
    ))
