-- A sheet within document 01's limits: every end and every neighbour is a node.
use Rattle.std.specs.Prelude.{ℕ, zero, suc, ◌≤◌, Bool, true, ◌&&◌, T, ltb, leb, length}
use Rattle.network.specs.Sums.{all}
use Rattle.sheet.specs.Limits.{max_width, max_nodes, max_separation, max_edges, max_kind, max_weight}
use Rattle.drawing.specs.Sheet.{Pair, Edge, Sheet}

-- no total is greater: 512 traces of 4,095 steps
abbrev pub max_total : ℕ
max_total = 2096640

-- a maximum separation that is set is not below the minimum
abbrev pub not_crossed : ℕ → ℕ → Bool
not_crossed minimum zero = true
not_crossed minimum (suc maximum) = leb minimum (suc maximum)

-- the limits of a pair of n nodes
abbrev pub proper_pair : ℕ → Pair → Bool
proper_pair n x =
    ltb (suc x.left) n
    && ((leb 1 x.minimum && leb x.minimum max_separation)
    && (leb x.maximum max_separation && not_crossed x.minimum x.maximum))

-- the limits of an edge between n nodes
abbrev pub proper_edge : ℕ → Edge → Bool
proper_edge n e = (ltb e.upper n && ltb e.lower n) && (leb e.kind max_kind && leb e.weight max_weight)

-- the limits of a sheet
pub record Proper (S : Sheet) : Type 0 where
  pub width : S.width ≤ max_width
  pub nodes : S.nodes ≤ max_nodes
  pub few : length S.edges ≤ max_edges
  pub pairs : T (all (λ l. all (proper_pair S.nodes) l.pairs) S.layers)
  pub ends : T (all (proper_edge S.nodes) S.edges)
