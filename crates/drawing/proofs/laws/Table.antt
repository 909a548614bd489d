-- Every row of the table of marked sheets holds, by one test that is computed over the whole table.
use mathlib.Core.List.{flat_map}
use Rattle.leb128.specs.Number.{decode, grouped}
use Rattle.leb128.specs.Grammar.{within, both}
use Rattle.leb128.specs.Source.{decoded_item, byte_item, raised, in_bytes}
use Rattle.leb128.specs.Walk.{checked, led, followed, walk}
use Rattle.leb128.specs.Format.{same, complete, walk_bytes, made, reading}
use Rattle.sheet.specs.Reading.{read_sheet}
use Rattle.sheet.specs.Grammar.{crossed, separation, separations, layers, edge, edges, sheet}
use Rattle.network.proofs.laws.Residuals.{residuals}
use Rattle.network.proofs.laws.HeldSearch.{held_set}
use Rattle.network.proofs.laws.HeldOnly.{leftmost_test}
use Rattle.drawing.specs.Sheet.{sheet_of}
use Rattle.drawing.specs.Traces.{traces}
use Rattle.drawing.specs.Drawing.{is_drawing, total_length}
use Rattle.drawing.specs.Certificate.{meets_rules, bound}
use Rattle.drawing.specs.Judged.{judged}
use Rattle.drawing.specs.Arcs.{network}
use Rattle.drawing.specs.Rows.{Every}
use Rattle.drawing.specs.Table.{table}
use Rattle.drawing.specs.laws.NoDrawing.{shows_none}
use Rattle.drawing.proofs.laws.Rows.{every}

-- every row holds
pub sheets : Every table
unfolding
    flat_map table sheet_of traces total_length is_drawing meets_rules bound judged network residuals held_set leftmost_test shows_none
    decode grouped within both crossed separation separations layers edge edges sheet
    decoded_item byte_item raised in_bytes checked led followed walk same complete walk_bytes made reading read_sheet
sheets = every table tt
