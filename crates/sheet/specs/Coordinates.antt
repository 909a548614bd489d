-- The coordinate file (drawing file) of document 02, ticket 3, as a grammar, in its order.
use Rattle.std.specs.Prelude.{ℕ, zero, suc, ◌+◌, ◌-◌, min}
use Rattle.leb128.specs.Grammar.{Form, Grammar, plain, within}
use Rattle.leb128.specs.Grammar.Grammar.{number, done}
use Rattle.sheet.specs.Limits.{max_layers, max_layer_nodes, max_nodes, max_coordinate}

-- n nodes (marks) right of one at `left`: the bytes hold each one's distance from its left neighbour, 1 or more, and the list
-- its coordinate (place)
unfoldable pub right_nodes : ℕ → ℕ → Grammar → Grammar
right_nodes zero left next = next
right_nodes (suc n) left next = number (Form.above left) (within (left + 1) max_coordinate) λ place. right_nodes n place next

-- for each of n layers (ranks) its count of nodes, the first coordinate and then the other nodes; room is what the earlier
-- layers leave of all nodes
unfoldable pub layer_coordinates : ℕ → ℕ → Grammar
layer_coordinates zero room = done
layer_coordinates (suc n) room =
    number plain (within 1 (min max_layer_nodes room)) λ nodes.
    number plain (within 0 max_coordinate) λ place.
    right_nodes (nodes - 1) place (layer_coordinates n (room - nodes))

-- the coordinate file
unfoldable pub coordinates : Grammar
coordinates = number plain (within 1 max_layers) λ n. layer_coordinates n max_nodes
