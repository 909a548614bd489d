-- `engine::stages::draw_in` meets its contract: solving, then the leftmost least drawing and its list are written.
use mathlib.Core.Path.{◌≡◌, ◌∙◌}
use borrow.Author.Rules.{rules}
use Rattle.std.specs.Prelude.{Err}
use Rattle.engine.proofs.laws.Draw.{none_filled}
use Rattle.engine.proofs.laws.Fits.{front_zeros}
use Rattle.engine.proofs.laws.Finish.{places_held, flows_held, filled}
use Rattle.engine.proofs.stages.draw_in.Goals as goal

pub settle-requires-clause-flows_len : goal.settle-requires-clause-flows_len
settle-requires-clause-flows_len g c = (front_zeros _ _ c.requires.enough.0, front_zeros _ _ c.requires.enough.1)

pub returns-in_err-settle : goal.returns-in_err-settle
returns-in_err-settle g c =
    let refused : c.from_residual.result ≡ Err c.in_err-settle.field-0.0 = search rules in
    rw refused
    (none_filled c.args.sheet.now c.settle.new.flows c.settle.new.nodes c.args.places.now c.args.list.now c.in_err-settle.field-0.0 c.requires.nodes_in_bounds.0 c.requires.nodes_in_bounds.1
    c.in_err-settle.ensures)

pub put_places-requires-clause-places : goal.put_places-requires-clause-places
put_places-requires-clause-places g c =
    places_held c.args.sheet.now.holds c.settle.new.flows c.settle.new.nodes (c.settle.auto.flows ∙ front_zeros _ _ c.requires.enough.0)
    (c.settle.auto.nodes ∙ front_zeros _ _ c.requires.enough.1) c.in_ok-settle.ensures

pub put_list-requires-clause-flows : goal.put_list-requires-clause-flows
put_list-requires-clause-flows g c =
    flows_held c.args.sheet.now.holds c.settle.new.flows c.settle.new.nodes (c.settle.auto.flows ∙ front_zeros _ _ c.requires.enough.0)
    (c.settle.auto.nodes ∙ front_zeros _ _ c.requires.enough.1) c.in_ok-settle.ensures

pub returns : goal.returns
returns g c = λ h.
    filled h c.settle.new.flows c.settle.new.nodes (c.settle.auto.flows ∙ front_zeros _ _ c.requires.enough.0)
    (c.settle.auto.nodes ∙ front_zeros _ _ c.requires.enough.1) (c.in_ok-settle.ensures h) c.args.places.now _ c.args.list.now _
    c.requires.nodes_in_bounds.0 c.requires.nodes_in_bounds.1 c.put_places.ensures c.put_list.ensures
