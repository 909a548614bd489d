-- `engine::results::coordinate` meets its contract: a potential is at least that of ground, and not far from it.
use native.Mathlib.Omega.{arith}
use Rattle.engine.proofs.results.coordinate.Goals as goal

pub overflow_sub-result : goal.overflow_sub-result
overflow_sub-result c = omega (arith, c.requires.places.least c.args.v c.requires.v_lt_count)

pub overflow_cast-result : goal.overflow_cast-result
overflow_cast-result c =
    omega (
      arith,
      c.requires.places.least c.args.v c.requires.v_lt_count,
      c.requires.places.small c.args.v c.requires.v_lt_count,
    )
