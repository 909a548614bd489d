-- The example inputs of document 01, "Refusals", computed by the definitions.
use Prim.Native.Nat.{ℕ}
use mathlib.Core.Path.{◌≡◌, refl}
use mathlib.Core.List.{List, [], ◌∷◌, ◌++◌}
use Rattle.leb128.specs.Refusals.{input_ended, other_magic, number_form, outside_limits, something_follows}
use Rattle.leb128.specs.Number.{decode, grouped}
use Rattle.leb128.specs.Grammar.{within, both}
use Rattle.leb128.specs.Source.{refusal, decoded_item, byte_item, raised, in_bytes}
use Rattle.leb128.specs.Walk.{checked, led, followed, walk}
use Rattle.leb128.specs.Format.{Result, same, complete, walk_bytes, made, reading}
use Rattle.leb128.specs.Format.Result.{elements, refused}
use Rattle.sheet.specs.Refusals.{separations_crossed}
use Rattle.sheet.specs.Limits.{magic}
use Rattle.sheet.specs.Grammar.{crossed, separation, separations, layers, edge, edges, sheet}
use Rattle.sheet.specs.Reading.{read_sheet}

-- reading these bytes behind the magic: an example that unfolds this name opens all that reading computes with
read_behind : List ℕ → Result
unfolding
    decode grouped within both crossed separation separations layers edge edges sheet
    decoded_item byte_item raised in_bytes checked led followed walk same complete walk_bytes made reading read_sheet
read_behind bytes = read_sheet (magic ++ bytes)

-- two bytes are too few
ended : read_sheet (0x53 ∷ 0x50 ∷ []) ≡ refused (refusal input_ended 2)
unfolding same walk_bytes complete made reading read_sheet
ended = refl

-- another magic
other_start : read_sheet (0x53 ∷ 0x51 ∷ 0x31 ∷ []) ≡ refused (refusal other_magic 0)
unfolding same walk_bytes complete made reading read_sheet
other_start = refl

-- 80 00 is not the fewest bytes
not_fewest : read_sheet (magic ++ 0x80 ∷ 0x00 ∷ []) ≡ refused (refusal number_form 3)
unfolding read_behind
not_fewest = refl

-- no layers
outside : read_sheet (magic ++ 0x05 ∷ 0x00 ∷ []) ≡ refused (refusal outside_limits 4)
unfolding read_behind
outside = refl

-- the form is tested before the limits
form_first : read_sheet (magic ++ 0x05 ∷ 0x80 ∷ 0x00 ∷ []) ≡ refused (refusal number_form 4)
unfolding read_behind
form_first = refl

-- a maximum separation below its minimum
crossing : read_sheet (magic ++ 0x05 ∷ 0x01 ∷ 0x02 ∷ 0x03 ∷ 0x02 ∷ []) ≡ refused (refusal separations_crossed 7)
unfolding read_behind
crossing = refl

-- a byte behind the last number
extra : read_sheet (magic ++ 0x00 ∷ 0x01 ∷ 0x01 ∷ 0x00 ∷ 0x00 ∷ []) ≡ refused (refusal something_follows 7)
unfolding read_behind
extra = refl

-- the first sheet of "`place`" is fifteen numbers
first_read :
    read_sheet (magic ++ 0x05 ∷ 0x02 ∷ 0x02 ∷ 0x01 ∷ 0x00 ∷ 0x01 ∷ 0x02 ∷ 0x01 ∷ 0x01 ∷ 0x01 ∷ 0x00 ∷ 0x01 ∷ 0x02 ∷ 0x01 ∷ 0x00 ∷ [])
    ≡ elements (5 ∷ 2 ∷ 2 ∷ 1 ∷ 0 ∷ 1 ∷ 2 ∷ 1 ∷ 1 ∷ 1 ∷ 0 ∷ 1 ∷ 2 ∷ 1 ∷ 0 ∷ [])
unfolding read_behind
first_read = refl

-- FF 1F is 4,095
widest : read_sheet (magic ++ 0xff ∷ 0x1f ∷ 0x01 ∷ 0x01 ∷ 0x00 ∷ []) ≡ elements (4095 ∷ 1 ∷ 1 ∷ 0 ∷ [])
unfolding read_behind
widest = refl

-- 80 20 is 4,096
too_wide : read_sheet (magic ++ 0x80 ∷ 0x20 ∷ []) ≡ refused (refusal outside_limits 3)
unfolding read_behind
too_wide = refl

-- 80 80 is too long
three_bytes : read_sheet (magic ++ 0x80 ∷ 0x80 ∷ []) ≡ refused (refusal number_form 3)
unfolding read_behind
three_bytes = refl
