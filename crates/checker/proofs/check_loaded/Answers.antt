-- `checker::check_loaded` meets its contract: too few places, too short a list, or the decision.
use mathlib.Core.Path.{ap}
use native.Mathlib.Omega.{arith}
use Rattle.std.specs.Prelude.{Err}
use Rattle.checker.proofs.laws.Answers.{short_places, short_list, long_enough}
use Rattle.checker.proofs.check_loaded.Goals as goal

pub returns-then-places-sheet : goal.returns-then-places-sheet
returns-then-places-sheet c = short_places _ _ _ _ _ (ap Err c.new.ensures) c.if-places-sheet.true

pub returns-then-list-sheet : goal.returns-then-list-sheet
returns-then-list-sheet c =
    short_list _ _ _ _ _ (ap Err c.new-then-list-sheet.ensures) (omega (arith, c.if-places-sheet.false))
    c.if-list-sheet.true

pub returns : goal.returns
returns c =
    long_enough _ _ _ _ _ (omega (arith, c.if-places-sheet.false)) (omega (arith, c.if-list-sheet.false)) c.judge.ensures
