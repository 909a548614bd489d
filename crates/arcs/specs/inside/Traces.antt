-- The strength of an edge, and the table in which parallel edges share a number.
use Rattle.std.specs.Prelude.{ℕ, zero, suc, ◌+◌, ◌*◌, ◌%◌, ◌<◌, ◌≤◌, ◌≡◌, cond, List, [], ◌∷◌, leb, length, get_or, set, replicate}
use Rattle.leb128.specs.inside.Storing.{Puts}
use Rattle.sheet.specs.Limits.{max_layer_nodes, max_weight}
use Rattle.network.specs.Network.{Arc}
use Rattle.network.specs.Packed.{packs}
use Rattle.drawing.specs.Sheet.{Edge}
use Rattle.drawing.specs.Traces.{any_parallel, greatest_parallel}
use Rattle.drawing.specs.Arcs.{edge_arc_between}
use Rattle.arcs.specs.declared.ReadEdge.{ReadEdge}

-- a plain edge's strength is its weight, a straight one's is above all weights
abbrev pub strength_of : ℕ → ℕ → ℕ
strength_of zero weight = weight
strength_of (suc kind) weight = max_weight + 1

-- the strength of an edge
abbrev pub strength : Edge → ℕ
strength e = strength_of e.kind e.weight

-- an edge as the code reads it
abbrev pub as_read : Edge → ReadEdge
as_read e = record { upper = e.upper; lower = e.lower; strength = strength e }

-- the arc of an edge of this strength: a weight is plain, 0 says nothing, more is straight
abbrev pub strength_arc : ℕ → ℕ → ℕ → Arc
strength_arc amount u v = cond (leb amount max_weight) (edge_arc_between 0 amount u v) (edge_arc_between 1 0 u v)

-- the greatest strength of the edges parallel to e
abbrev pub strongest : List Edge → Edge → ℕ
strongest es e = greatest_parallel strength e es

-- the same, and 0 where an edge before is parallel to e
abbrev pub left_over : List Edge → List Edge → Edge → ℕ
left_over es before e = cond (any_parallel e before) 0 (strongest es e)

-- the index of two ends in the table
abbrev pub slot_of : ℕ → ℕ → ℕ
slot_of upper lower = max_layer_nodes * upper + lower % max_layer_nodes

-- the index of an edge
abbrev pub slot : Edge → ℕ
slot e = slot_of e.upper e.lower

-- an edge from a layer to the next one, by the first nodes of the layers
pub record Joins (first : List ℕ) (e : Edge) : Type 0 where
  pub layer : ℕ
  pub there : suc layer < length first
  pub after : get_or first layer 0 ≤ e.upper
  pub inside : e.upper < get_or first (suc layer) 0
  pub below : get_or first (suc layer) 0 ≤ e.lower
  pub near : e.lower < get_or first (suc layer) 0 + max_layer_nodes

-- first nodes never fall
pub record Rising (first : List ℕ) : Type 0 where
  pub next : (i : ℕ) → suc i < length first → get_or first i 0 ≤ get_or first (suc i) 0

-- a table of zeros for so many nodes: as many numbers for each node as a layer has nodes at most
pub record Blank (nodes : ℕ) (table : List ℕ) : Type 0 where
  pub size : ℕ
  pub enough : max_layer_nodes * nodes ≤ size
  pub zeros : table ≡ replicate size 0

-- each edge has its number in the table, which is what f gives
pub record Tabled (first table : List ℕ) (f : Edge → ℕ) : Type 0 where
  pub room : (e : Edge) → Joins first e → slot e < length table
  pub number : (e : Edge) → Joins first e → get_or table (slot e) 0 ≡ f e

-- the edge e takes its number and leaves 0, and the arc of that strength is stored
pub record Takes (e : Edge) (old : List ℕ) (at : ℕ) (new : List ℕ) (next : ℕ) (table taken : List ℕ) : Type 0 where
  pub arc : Puts old at (packs (strength_arc (get_or table (slot e) 0) e.upper e.lower ∷ [])) new next
  pub left : taken ≡ set table (slot e) 0
