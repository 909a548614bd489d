-- `arcs::inside::load_sheet` meets its contract: what was loaded is a good sheet.
use Rattle.std.proofs.lemmas.Grind.{merely}
use Rattle.arcs.specs.laws.HeldArcs.{loaded_holds}
use Rattle.arcs.specs.laws.Loaded.{loaded_sheet}
use Rattle.arcs.proofs.inside.load_sheet.Goals as goal

pub invariant_of-result : goal.invariant_of-result
invariant_of-result c = record {
  holds = merely (loaded_holds (loaded_sheet c.args.bytes.now _ _ c.in_ok-counts.was c.load.ensures.answer c.load.ensures.first c.load.ensures.arcs));
}
