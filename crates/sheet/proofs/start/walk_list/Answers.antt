-- `sheet::start::walk_list` meets its contract: the walk starts at the front.
use Rattle.sheet.proofs.laws.WalkStarts.{list_walked}
use Rattle.sheet.proofs.start.walk_list.Goals as goal

pub returns : goal.returns
returns c =
    list_walked c.args.format c.args.numbers _ c.walk.ensures
