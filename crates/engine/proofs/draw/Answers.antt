-- `engine::draw` meets its contract: if a sheet of few arcs is loaded, it is drawn for the bytes; else all is done with room for every sheet.
use Rattle.engine.proofs.laws.Draw.{loaded_drawn}
use Rattle.arcs.specs.laws.HeldSheets.{sheet_loaded}
use Rattle.engine.proofs.draw.Goals as goal

pub returns-in-Ok : goal.returns-in-Ok
returns-in-Ok c =
    loaded_drawn c.in-Ok.sheet
    (sheet_loaded c.args.bytes.now _ _ c.in-Ok.is c.load_sheet.ensures.answer c.in-Ok.ensures.first c.in-Ok.ensures.arcs)
    c.args.places.now c.args.list.now _ _ _ c.draw_loaded.ensures
