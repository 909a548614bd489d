-- The examples of coordinate files, computed by the definitions.
use Prim.Native.Nat.{ℕ}
use mathlib.Core.Path.{◌≡◌, refl}
use mathlib.Core.List.{List, [], ◌∷◌, ◌++◌}
use Rattle.leb128.specs.Refusals.{input_ended, other_magic, number_form, outside_limits, something_follows}
use Rattle.leb128.specs.Number.{encode, decode, grouped}
use Rattle.leb128.specs.Grammar.{within}
use Rattle.leb128.specs.Source.{refusal, decoded_item, byte_item, list_item, raised, in_bytes, in_list}
use Rattle.leb128.specs.Walk.{checked, led, followed, walk}
use Rattle.leb128.specs.Format.{Result, same, complete, walk_bytes, walk_list, held, encoded, made, reading, writing}
use Rattle.leb128.specs.Format.Result.{elements, refused}
use Rattle.sheet.specs.Limits.{magic, coordinate_magic}
use Rattle.sheet.specs.Coordinates.{right_nodes, layer_coordinates, coordinates}
use Rattle.sheet.specs.Reading.{read_coordinates, write_coordinates}

-- reading these bytes behind the magic: an example that unfolds this name opens all that reading computes with
read_behind : List ℕ → Result
unfolding
    decode grouped within right_nodes layer_coordinates coordinates
    decoded_item byte_item raised in_bytes checked led followed walk same complete walk_bytes made reading read_coordinates
read_behind bytes = read_coordinates (coordinate_magic ++ bytes)

-- writing, in the same way
write_list : List ℕ → Result
unfolding
    encode within right_nodes layer_coordinates coordinates
    list_item in_list checked led followed walk complete walk_list held encoded made writing write_coordinates
write_list numbers = write_coordinates numbers

-- two layers: nodes at 0 and 1, and one at 0
two_layers : read_coordinates (coordinate_magic ++ 0x02 ∷ 0x02 ∷ 0x00 ∷ 0x01 ∷ 0x01 ∷ 0x00 ∷ []) ≡ elements (2 ∷ 2 ∷ 0 ∷ 1 ∷ 1 ∷ 0 ∷ [])
unfolding read_behind
two_layers = refl

-- and written again
two_written : write_coordinates (2 ∷ 2 ∷ 0 ∷ 1 ∷ 1 ∷ 0 ∷ []) ≡ elements (coordinate_magic ++ 0x02 ∷ 0x02 ∷ 0x00 ∷ 0x01 ∷ 0x01 ∷ 0x00 ∷ [])
unfolding write_list
two_written = refl

-- the smallest file: one node
smallest : read_coordinates (coordinate_magic ++ 0x01 ∷ 0x01 ∷ 0x00 ∷ []) ≡ elements (1 ∷ 1 ∷ 0 ∷ [])
unfolding read_behind
smallest = refl

-- a distance that reaches 4,095
reaches : read_coordinates (coordinate_magic ++ 0x01 ∷ 0x02 ∷ 0x00 ∷ 0xff ∷ 0x1f ∷ []) ≡ elements (1 ∷ 2 ∷ 0 ∷ 4095 ∷ [])
unfolding read_behind
reaches = refl

-- the distance, not the coordinate, is written: 200 and 201
distance_written : write_coordinates (1 ∷ 2 ∷ 200 ∷ 201 ∷ []) ≡ elements (coordinate_magic ++ 0x01 ∷ 0x02 ∷ 0xc8 ∷ 0x01 ∷ 0x01 ∷ [])
unfolding write_list
distance_written = refl

-- a distance that passes it, at its first byte
passes : read_coordinates (coordinate_magic ++ 0x01 ∷ 0x02 ∷ 0xff ∷ 0x1f ∷ 0x01 ∷ []) ≡ refused (refusal outside_limits 7)
unfolding read_behind
passes = refl

-- a distance of 0
no_distance : read_coordinates (coordinate_magic ++ 0x01 ∷ 0x02 ∷ 0x00 ∷ 0x00 ∷ []) ≡ refused (refusal outside_limits 6)
unfolding read_behind
no_distance = refl

-- a distance of 4,096 has its form, and is outside its limits
too_far : read_coordinates (coordinate_magic ++ 0x01 ∷ 0x02 ∷ 0x00 ∷ 0x80 ∷ 0x20 ∷ []) ≡ refused (refusal outside_limits 6)
unfolding read_behind
too_far = refl

-- 80 00 is not the fewest bytes
not_fewest : read_coordinates (coordinate_magic ++ 0x01 ∷ 0x02 ∷ 0x00 ∷ 0x80 ∷ 0x00 ∷ []) ≡ refused (refusal number_form 6)
unfolding read_behind
not_fewest = refl

-- the second node is missing
missing : read_coordinates (coordinate_magic ++ 0x01 ∷ 0x02 ∷ 0x00 ∷ []) ≡ refused (refusal input_ended 6)
unfolding read_behind
missing = refl

-- a byte behind the last node
extra : read_coordinates (coordinate_magic ++ 0x01 ∷ 0x01 ∷ 0x00 ∷ 0x00 ∷ []) ≡ refused (refusal something_follows 6)
unfolding read_behind
extra = refl

-- a sheet's magic
sheet_magic : read_coordinates (magic ++ 0x01 ∷ 0x01 ∷ 0x00 ∷ []) ≡ refused (refusal other_magic 0)
unfolding same walk_bytes complete made reading read_coordinates
sheet_magic = refl

-- a coordinate that is not right of its left neighbour, at its index
not_right : write_coordinates (1 ∷ 2 ∷ 5 ∷ 5 ∷ []) ≡ refused (refusal outside_limits 3)
unfolding write_list
not_right = refl

-- a number behind the last node
further : write_coordinates (1 ∷ 1 ∷ 0 ∷ 7 ∷ []) ≡ refused (refusal something_follows 3)
unfolding write_list
further = refl
