-- `checker::judge::judge` meets its contract: the excess of the slices is cut off.
use native.Mathlib.Omega.{arith}
use Rattle.std.proofs.lemmas.List.{length-take-le}
use Rattle.checker.proofs.judge.judge.Goals as goal

pub judge_whole-requires : goal.judge_whole-requires
judge_whole-requires c = (
  omega (arith, length-take-le c.args.sheet.now.counts.arcs c.args.list.now c.requires.0),
  length-take-le c.args.sheet.now.counts.nodes c.args.places.now c.requires.1,
)
