-- `engine::results::signed` meets its contract: a stored flow is at most 2^29, so the difference fits.
use mathlib.Core.Path.{sym, ◌∙◌, ap, subst}
use native.Mathlib.Omega.{arith}
use lib.IntN.{ℤ, pos, ◌-ℤ◌}
use mir.Facts.{to_z-of_z, to_z_pos}
use mir.Syntax.{w32}
use mir.Val.{SFits}
use Rattle.network.specs.laws.Sizes.{size_fits}
use Rattle.network.specs.Packed.{flow_zero}
use Rattle.engine.proofs.laws.Numbers.{number_size}
use Rattle.engine.proofs.results.signed.Goals as goal

pub overflow_sub-result : goal.overflow_sub-result
overflow_sub-result c =
    subst (λ (a : ℤ). SFits w32 (a -ℤ pos flow_zero)) (sym (to_z_pos w32 {n = c.args.x} (omega (arith, c.requires))))
    (size_fits (omega (arith, number_size c.args.x c.requires)))

pub returns : goal.returns
returns c =
    to_z-of_z (overflow_sub-result c) ∙ ap (λ (a : ℤ). a -ℤ pos flow_zero) (to_z_pos w32 {n = c.args.x} (omega (arith, c.requires)))
