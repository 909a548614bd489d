-- `engine::results::put_list` meets its contract: the loop's invariant is `Left`, and a flow fits 32 bits.
use mathlib.Core.List.{List}
use Prim.Native.Nat.{ℕ}
use lib.IntN.{ℤ, pos, nat_abs}
use lib.ListN.{length, get_or}
use mir.Facts.{to_z-of_z}
use mir.Syntax.{w32}
use mir.Val.{SFits}
use mathlib.Core.Path.{◌≡◌, sym, ◌∙◌, ap}
use native.Mathlib.Omega.{arith}
use Rattle.leb128.specs.laws.Storing.{left_begin, copy_next, copy_end}
use Rattle.network.specs.laws.Indexed.{upto_length, upto_in}
use Rattle.network.specs.laws.Sizes.{size_fits}
use Rattle.engine.specs.inside.Results.{number_at}
use Rattle.engine.proofs.laws.Numbers.{number_size}
use Rattle.engine.proofs.results.put_list.Goals as goal

pub loop-i-init : goal.loop-i-init
loop-i-init c = left_begin _ _ _

pub signed-requires : goal.signed-requires
signed-requires c = c.requires.flows.small c.loop-i.i (omega arith)

pub loop-i-preserved : goal.loop-i-preserved
loop-i-preserved c =
    let flows : List ℕ = c.args.flows.now in
    let i : ℕ = c.loop-i.i in
    let r : ℤ = c.signed.result in
    let is : r ≡ number_at flows i = c.signed.ensures in
    let small = number_size (get_or flows i 0) (c.requires.flows.small i c.loop-i-test.true) in
    let fits : SFits w32 r = size_fits (omega (arith, ap nat_abs is, small)) in
    copy_next i c.loop-i.invariant (pos 0) (omega (arith, upto_length (length flows) (number_at flows)))
    (to_z-of_z fits ∙ is ∙ sym (upto_in (pos 0) (length flows) (number_at flows) i c.loop-i-test.true))

pub returns : goal.returns
returns c =
    let flows : List ℕ = c.args.flows.now in
    (copy_end c.loop-i.i c.loop-i.invariant (omega (arith, upto_length (length flows) (number_at flows)))).stored
