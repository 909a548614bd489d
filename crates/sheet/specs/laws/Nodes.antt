-- The cases of where a node stands: in the first layer, behind it, or nowhere; and the nodes that a list has.
use Rattle.std.specs.Prelude.{ℕ, zero, suc, ◌+◌, ◌-◌, ◌≤◌, ◌<◌, ◌≡◌, refl, List, get_or}
use Rattle.std.proofs.Common.{◌∙◌, arith, lt-ltb, le-ltb}
use Rattle.sheet.specs.Layout.{nodes_at, next_layer, nodes_of, node_count}
use Rattle.sheet.specs.Nodes.{node_among, node_of}
use Rattle.sheet.specs.Nodes.Located.{found, missing}

-- no layer has no node
pub node_none : (layer : ℕ) (s : List ℕ) (v : ℕ) → node_among zero layer s v ≡ missing
unfolding node_among
node_none layer s v = refl

module _ (n layer : ℕ) (s : List ℕ) (v : ℕ) where
  -- a node of the first layer
  pub node_here : v < get_or s nodes_at 0 → node_among (suc n) layer s v ≡ found layer (v + 1)
  unfolding node_among
  node_here h = rw (lt-ltb v (get_or s nodes_at 0) h)

  -- a node behind the first layer
  pub node_past : get_or s nodes_at 0 ≤ v
      → node_among (suc n) layer s v ≡ node_among n (layer + 1) (next_layer s) (v - get_or s nodes_at 0)
  unfolding node_among
  node_past h = rw (le-ltb v (get_or s nodes_at 0) h)

-- behind all nodes there is none
pub node_behind : (n layer : ℕ) (s : List ℕ) (v : ℕ) → nodes_of n s ≤ v → node_among n layer s v ≡ missing
node_behind zero layer s v h = node_none layer s v
node_behind (suc n) layer s v h =
    node_past n layer s v (omega arith) ∙ node_behind n (layer + 1) (next_layer s) (v - get_or s nodes_at 0) (omega arith)

-- the same of a number list
pub no_node : (numbers : List ℕ) (v : ℕ) → node_count numbers ≤ v → node_of numbers v ≡ missing
unfolding node_of
no_node numbers v h = node_behind _ 1 _ v h
