-- `leb128::reader::read_number` meets its contract: the loop's invariant is `Reading`.
use native.Mathlib.Omega.{arith}
use Prim.Native.Nat.{◌-◌}
use mathlib.Core.Path.{◌∙◌, ap}
use Rattle.leb128.proofs.laws.Reading.{reading_begin, reading_ended, reading_needless, reading_value, reading_next, reading_long, weight_most, value_most}
use Rattle.leb128.specs.Source.Item.{refused}
use Rattle.leb128.proofs.reader.read_number.Goals as goal

pub loop-i-init : goal.loop-i-init
loop-i-init c =
    reading_begin c.args.bytes.now c.args.at

pub returns-then-bytes-next : goal.returns-then-bytes-next
returns-then-bytes-next c =
    ap refused c.new.ensures ∙ reading_ended c.loop-i.invariant (omega arith) (omega arith)

pub returns-then-i-gt0 : goal.returns-then-i-gt0
returns-then-i-gt0 c =
    ap refused c.new-then-i-gt0.ensures
    ∙ reading_needless c.loop-i.invariant (omega arith) c.from-group.result (omega arith) c.from-group.ensures (omega arith) (omega arith) (omega arith)

pub overflow_mul-result : goal.overflow_mul-result
overflow_mul-result c =
    omega (arith, value_most c.loop-i.invariant (omega arith) c.from-group.result (omega arith))

pub overflow_add-result : goal.overflow_add-result
overflow_add-result c =
    omega (arith, value_most c.loop-i.invariant (omega arith) c.from-group.result (omega arith))

pub returns-then-group-lt128 : goal.returns-then-group-lt128
returns-then-group-lt128 c =
    reading_value c.loop-i.invariant (omega arith) c.from-group.result (omega arith) c.from-group.ensures (omega arith)
    (λ z h. omega (arith, c.else-group-eq0.either))

pub overflow_mul-value : goal.overflow_mul-value
overflow_mul-value c =
    omega (arith, value_most c.loop-i.invariant (omega arith) (c.from-group.result - 128) (omega arith))

pub overflow_add-value : goal.overflow_add-value
overflow_add-value c =
    omega (arith, value_most c.loop-i.invariant (omega arith) (c.from-group.result - 128) (omega arith))

pub overflow_mul-weight : goal.overflow_mul-weight
overflow_mul-weight c =
    omega (arith, weight_most c.loop-i.invariant (omega arith))

pub loop-i-preserved : goal.loop-i-preserved
loop-i-preserved c =
    reading_next c.loop-i.invariant (omega arith) c.from-group.result (omega arith) c.from-group.ensures (omega arith) (omega arith)

pub returns : goal.returns
returns c =
    ap refused c.new-2.ensures ∙ reading_long c.loop-i.invariant (omega arith)
