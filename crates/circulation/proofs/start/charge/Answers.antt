-- `circulation::start::charge` meets its contract: two stores.
use Rattle.circulation.proofs.laws.Charges.{charge_both}
use Rattle.circulation.specs.laws.Columns.{column_at}
use Prim.Native.Nat.{ℕ, ◌+◌, ◌-◌}
use mathlib.Core.Path.{ap}
use native.Mathlib.Omega.{arith}
use Rattle.circulation.proofs.start.charge.Goals as goal

pub put-requires-2 : goal.put-requires-2
put-requires-2 c = (
  omega (arith, c.requires.h_bound.0, c.put.ensures.length_same),
  omega (arith, c.requires.h_bound.0, c.requires.h_bound.2),
  omega arith,
  grind (
    arith,
    c.get-2.ensures,
    column_at 1 c.put.new.nodes c.args.h (omega (arith, c.requires.h_bound.0, c.put.ensures.length_same)),
  ),
)

pub returns : goal.returns
returns c =
    let both = charge_both c.args.nodes.now c.put.new.nodes c.put-2.new.nodes c.args.t c.args.h
    c.args.a (c.get.result + c.args.a) (c.get-2.result - c.args.a) c.requires.h_bound.1
    c.requires.h_bound.0 c.requires.a_bound.1 (ap (λ (b : ℕ). b + c.args.a) c.get.ensures) c.put.ensures
    (ap (λ (b : ℕ). b - c.args.a) c.get-2.ensures) c.put-2.ensures in
    record {
      by_index = both.0;
      apart = both.1;
    }
