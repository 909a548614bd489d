-- How far a coordinate file is read, and what the grammar says of the rest.
use Rattle.std.specs.Prelude.{ℕ, zero, suc, ◌+◌, ◌-◌, ◌≤◌, min, Bool, true, cond, eqb, ltb}
use Rattle.leb128.specs.Grammar.{Form, Grammar, plain, within}
use Rattle.leb128.specs.Grammar.Grammar.{number, done}
use Rattle.sheet.specs.Limits.{max_layers, max_layer_nodes, max_nodes, max_coordinate}
use Rattle.sheet.specs.declared.Range.{Range}
use Rattle.sheet.specs.declared.Awaited.{Awaited}
use Rattle.sheet.specs.declared.Awaited.TheVariants.{Layers, Nodes}

-- n nodes of a layer, the first of them at low or right of it
unfoldable pub nodes_from : ℕ → ℕ → ℕ → Grammar → Grammar
nodes_from zero base low next = next
nodes_from (suc n) base low next = number (Form.above base) (within low max_coordinate) λ place. nodes_from n place (place + 1) next

-- n layers, of at most room nodes
unfoldable pub layers_from : ℕ → ℕ → Grammar
layers_from zero room = done
layers_from (suc n) room =
    number plain (within 1 (min max_layer_nodes room)) λ nodes.
    number plain (within 0 max_coordinate) λ place.
    nodes_from (nodes - 1) place (place + 1) (layers_from n (room - nodes))

-- the grammar of what is not yet read
unfoldable pub rest : Awaited → Grammar
rest Layers = number plain (within 1 max_layers) λ n. layers_from n max_nodes
rest (Nodes layers room nodes base low) = nodes_from nodes base low (layers_from layers room)

-- whether a number comes next
abbrev pub more : Awaited → Bool
more Layers = true
more (Nodes layers room nodes base low) = cond (eqb nodes 0) (ltb 0 layers) true

-- the range of the number that comes next: the count of layers, a layer's count of nodes, or a node's coordinate
abbrev pub range_of : Awaited → Range
range_of Layers = record { base = 0; low = 1; high = max_layers }
range_of (Nodes layers room nodes base low) =
    cond (eqb nodes 0) (record { base = 0; low = 1; high = min max_layer_nodes room })
    (record { base = base; low = low; high = max_coordinate })

-- what comes behind the number
abbrev pub behind : Awaited → ℕ → Awaited
behind Layers n = Nodes n max_nodes 0 0 0
behind (Nodes layers room nodes base low) n =
    cond (eqb nodes 0) (Nodes (layers - 1) (room - n) n 0 0) (Nodes layers room (nodes - 1) n (n + 1))

-- the number is in its range
abbrev pub InRange : Awaited → ℕ → Type 0
InRange s n = ((range_of s).low ≤ n) × (n ≤ (range_of s).high)

-- the base is a coordinate, and the next node is not left of it
abbrev pub Steady : Awaited → Type 0
Steady Layers = Unit
Steady (Nodes layers room nodes base low) = (base ≤ low) × (base ≤ max_coordinate)
