-- `checker::arc::at_most` meets its contract: there is no limit, or it is compared.
use mathlib.Core.Path.{◌≡◌, ◌∙◌, ap₂}
use native.Mathlib.Omega.{arith}
use lib.IntN.{pos, ◌-ℤ◌}
use lib.Signed.{le_z}
use mir.Syntax.{w64}
use mir.Val.{to_z, of_z}
use Rattle.std.proofs.lemmas.Int.{ints}
use Rattle.network.specs.Packed.{flow_zero}
use Rattle.checker.proofs.laws.Sides.{high_open, high_set}
use Rattle.checker.proofs.arc.at_most.Goals as goal

pub returns-then-high : goal.returns-then-high
returns-then-high c = high_open c.args.high c.args.amount c.if-high.true

pub returns : goal.returns
returns c =
    let amount : to_z w64 (of_z w64 c.from.result) ≡ c.args.amount = omega (arith, ints) in
    let limit : to_z w64 (of_z w64 (to_z w64 c.args.high -ℤ to_z w64 (of_z w64 c.from-2.result))) ≡ pos c.args.high -ℤ pos flow_zero =
    omega (arith, ints) in
    ap₂ le_z amount limit ∙ high_set c.args.high c.args.amount c.if-high.false
