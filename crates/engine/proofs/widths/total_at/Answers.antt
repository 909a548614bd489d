-- `engine::widths::total_at` meets its contract: the sheet at the width is drawn in room that is long enough for every sheet.
use native.Mathlib.Omega.{arith}
use lib.ListN.{replicate}
use lib.IntN.{pos}
use Rattle.sheet.specs.Limits.{max_nodes}
use Rattle.arcs.specs.Limits.{max_arcs}
use Rattle.arcs.specs.laws.HeldSheets.{set_as_is}
use Rattle.engine.specs.Draws.{drawn_of}
use Rattle.engine.proofs.laws.Widths.{total_held}
use Rattle.engine.proofs.widths.total_at.Goals as goal

pub returns : goal.returns
returns c =
    let at_width = set_as_is c.args.width c.requires c.set_width.ensures in
    record {
      answer = total_held c.args.width at_width c.requires (replicate max_nodes 0) (replicate max_arcs (pos 0))
          c.draw_loaded.new.places c.draw_loaded.new.list (drawn_of c.draw_loaded.result) (omega arith) (omega arith)
          c.draw_loaded.ensures;
      sheet = at_width;
    }
