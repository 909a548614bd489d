-- `engine::results::put_places` meets its contract: the loop's invariant is `Left`.
use Prim.Native.Nat.{ℕ}
use mathlib.Core.Path.{sym, ◌∙◌}
use native.Mathlib.Omega.{arith}
use Rattle.leb128.specs.laws.Storing.{left_begin, copy_next, copy_end}
use Rattle.network.specs.laws.Indexed.{upto_length, upto_in}
use Rattle.engine.specs.inside.Results.{place_at}
use Rattle.engine.proofs.results.put_places.Goals as goal

pub loop-v-init : goal.loop-v-init
loop-v-init c = left_begin _ _ _

pub loop-v-preserved : goal.loop-v-preserved
loop-v-preserved c =
    let f : ℕ → ℕ = place_at c.args.nodes.now in
    copy_next c.loop-v.v c.loop-v.invariant 0 (omega (arith, upto_length c.args.count f))
    (c.coordinate.ensures ∙ sym (upto_in 0 c.args.count f c.loop-v.v c.loop-v-test.true))

pub returns : goal.returns
returns c =
    (copy_end c.loop-v.v c.loop-v.invariant (omega (arith, upto_length c.args.count (place_at c.args.nodes.now)))).stored
