-- The coordinate file (drawing file) of a drawing: document 02, ticket 3.
use Rattle.std.specs.Prelude.{ℕ, zero, suc, List, [], ◌∷◌, ◌++◌, get_or, take, drop}
use Rattle.leb128.specs.Format.{encoded}
use Rattle.sheet.specs.Limits.{coordinate_magic}
use Rattle.sheet.specs.Layout.{layers_at, first_layer_at, nodes_at, next_layer}
use Rattle.sheet.specs.Coordinates.{coordinates}

-- for each of k layers its count of nodes and their coordinates, of the numbers from the first of them on and the places from its
-- first node on
unfoldable pub layer_places : ℕ → List ℕ → List ℕ → List ℕ
layer_places zero s p = []
layer_places (suc k) s p =
    get_or s nodes_at 0 ∷ take (get_or s nodes_at 0) p ++ layer_places k (next_layer s) (drop (get_or s nodes_at 0) p)

-- the file's list of numbers, of a sheet's numbers and a place for each node: the count of layers, and the layers
unfoldable pub file_numbers : List ℕ → List ℕ → List ℕ
file_numbers s p = get_or s layers_at 0 ∷ layer_places (get_or s layers_at 0) (drop first_layer_at s) p

-- its bytes
unfoldable pub file_bytes : List ℕ → List ℕ → List ℕ
file_bytes s p = coordinate_magic ++ encoded coordinates (file_numbers s p)
