-- `engine::draw_loaded` meets its contract: short slices are refused, and the total is the places'.
use Rattle.engine.proofs.laws.Draw.{few_places_drawn, few_numbers_drawn, refused_filled, total_filled}
use mathlib.Core.Path.{ap}
use borrow.Author.Rules.{rules}
use Rattle.std.specs.Prelude.{Err}
use Rattle.engine.proofs.draw_loaded.Goals as goal

pub returns-then-places-counts : goal.returns-then-places-counts
returns-then-places-counts c =
    few_places_drawn c.args.sheet.now c.args.places.now c.args.list.now (ap Err c.new.ensures) c.if-places-counts.true

pub returns-then-list-counts : goal.returns-then-list-counts
returns-then-list-counts c =
    few_numbers_drawn c.args.sheet.now c.args.places.now c.args.list.now (ap Err c.new-then-list-counts.ensures) c.if-list-counts.true

pub returns-then-is_err : goal.returns-then-is_err
returns-then-is_err c =
    refused_filled c.args.sheet.now c.args.places.now c.draw_arcs.new.places c.args.list.now
    c.draw_arcs.new.list c.draw_arcs.result c.draw_arcs.ensures (search rules) (ap Err c.new-then-is_err.ensures)

pub returns : goal.returns
returns c =
    total_filled c.args.sheet.now c.args.places.now c.draw_arcs.new.places c.args.list.now
    c.draw_arcs.new.list c.draw_arcs.result c.draw_arcs.ensures (λ e. search rules) c.sheet_total.ensures
