-- `checker::arc::at_least` meets its contract: there is no limit, or it is compared.
use mathlib.Core.Path.{◌≡◌, ◌∙◌, ap₂}
use native.Mathlib.Omega.{arith}
use lib.IntN.{pos, ◌-ℤ◌}
use lib.Signed.{le_z}
use mir.Syntax.{w64}
use mir.Val.{to_z, of_z}
use Rattle.std.proofs.lemmas.Int.{ints}
use Rattle.network.specs.Packed.{flow_zero}
use Rattle.checker.proofs.laws.Sides.{low_open, low_set}
use Rattle.checker.proofs.arc.at_least.Goals as goal

pub returns-then-low : goal.returns-then-low
returns-then-low c = low_open c.args.low c.args.amount c.if-low.true

pub returns : goal.returns
returns c =
    let limit : to_z w64 (of_z w64 (to_z w64 c.args.low -ℤ to_z w64 (of_z w64 c.from.result))) ≡ pos c.args.low -ℤ pos flow_zero =
    omega (arith, ints) in
    let amount : to_z w64 (of_z w64 c.from-2.result) ≡ c.args.amount = omega (arith, ints) in
    ap₂ le_z limit amount ∙ low_set c.args.low c.args.amount c.if-low.false
