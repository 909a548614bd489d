-- What lent slices hold of a sheet that was loaded: its first nodes and packed arcs, and a packed edge what its edge carries.
use Rattle.std.specs.Prelude.{ℕ, ◌≡◌, List, ◌++◌, length}
use Rattle.leb128.specs.Grammar.{Accepts}
use Rattle.sheet.specs.Grammar.{sheet}
use Rattle.network.specs.Packed.{packed}
use Rattle.drawing.specs.Sheet.{Edge, sheet_of}
use Rattle.drawing.specs.Arcs.{network}
use Rattle.arcs.specs.declared.Counts.{Counts}
use Rattle.arcs.specs.Loading.{layer_firsts}
use Rattle.packed.specs.Ends.{upper_at, lower_at, weight_at}

-- the packed edge in front of s is that of e
pub record Packs (s : List ℕ) (e : Edge) : Type 0 where
  pub upper : upper_at s ≡ e.upper
  pub lower : lower_at s ≡ e.lower
  pub weight : e.kind ≡ 0 → weight_at s ≡ e.weight

-- the first nodes and the packed arcs of a good sheet of these counts, whatever stands behind them
pub record Holds (f a : List ℕ) (c : Counts) : Type 0 where
  pub numbers : List ℕ
  pub good : Accepts sheet numbers
  pub firsts_behind : List ℕ
  pub firsts_are : f ≡ layer_firsts (sheet_of numbers) ++ firsts_behind
  pub behind : List ℕ
  pub packed_are : a ≡ packed (network (sheet_of numbers)) ++ behind
  pub layers_are : c.layers ≡ length (sheet_of numbers).layers
  pub nodes_are : c.nodes ≡ (sheet_of numbers).nodes
  pub edges_are : c.edges ≡ length (sheet_of numbers).edges
  pub arcs_are : c.arcs ≡ length (network (sheet_of numbers)).arcs
