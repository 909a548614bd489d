-- The grammar of a coordinate file is that of what is awaited at its start.
use Prim.Native.Nat.{ℕ, zero, suc, ◌+◌, ◌-◌, min}
use mathlib.Core.Path.{◌≡◌, refl, ap, fun_ext}
use Rattle.leb128.specs.Grammar.{Form, Grammar, plain, within}
use Rattle.leb128.specs.Grammar.Grammar.{number}
use Rattle.sheet.specs.Limits.{max_layers, max_layer_nodes, max_nodes, max_coordinate}
use Rattle.sheet.specs.Coordinates.{right_nodes, layer_coordinates, coordinates}
use Rattle.sheet.specs.inside.Awaited.{nodes_from, layers_from, rest}
use Rattle.sheet.specs.declared.Awaited.TheVariants.{Layers}

-- nodes right of one
nodes_same : (n left : ℕ) (next : Grammar) → right_nodes n left next ≡ nodes_from n left (left + 1) next
unfolding right_nodes nodes_from
nodes_same zero left next = refl
nodes_same (suc n) left next =
    ap (number (Form.above left) (within (left + 1) max_coordinate)) (fun_ext (λ place. nodes_same n place next))

-- layers
layers_same : (n room : ℕ) → layer_coordinates n room ≡ layers_from n room
unfolding layer_coordinates layers_from
layers_same zero room = refl
layers_same (suc n) room =
    ap (number plain (within 1 (min max_layer_nodes room)))
    (fun_ext (λ nodes. ap (number plain (within 0 max_coordinate))
    (fun_ext (λ place. rw (layers_same n (room - nodes)) (nodes_same (nodes - 1) place (layers_from n (room - nodes)))))))

-- the file
pub file_same : coordinates ≡ rest Layers
unfolding coordinates rest
file_same = ap (number plain (within 1 max_layers)) (fun_ext (λ n. layers_same n max_nodes))
