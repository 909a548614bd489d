-- Where the nodes (marks) of a number list stand: layer (rank) and position there, which count from 1.
use Rattle.std.specs.Prelude.{ℕ, zero, suc, ◌+◌, ◌-◌, cond, Option, Some, None, List, get_or, drop, ltb}
use Rattle.sheet.specs.Layout.{layers_at, first_layer_at, nodes_at, next_layer}
use Rattle.sheet.specs.declared.Location.{Location}

-- a node's layer and its position there, or that there is no such node
pub data Located : Type 0 where
  found : ℕ → ℕ → Located
  missing : Located

-- what the code's answer stands for
unfoldable pub standing : Option Location → Located
standing (Some location) = found location.layer location.position
standing None = missing

-- node v of n layers, counted from the first of them, which is number `layer`; of the numbers from that layer on
unfoldable pub node_among : ℕ → ℕ → List ℕ → ℕ → Located
node_among zero layer s v = missing
node_among (suc n) layer s v =
    cond (ltb v (get_or s nodes_at 0)) (found layer (v + 1)) (node_among n (layer + 1) (next_layer s) (v - get_or s nodes_at 0))

-- node v of a number list
unfoldable pub node_of : List ℕ → ℕ → Located
node_of numbers v = node_among (get_or numbers layers_at 0) 1 (drop first_layer_at numbers) v
