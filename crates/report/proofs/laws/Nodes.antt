-- The lines of all nodes are stored node after node, each where `node_of` says that the node stands.
use Prim.Native.Nat.{ℕ, suc, ◌+◌, ◌-◌, ◌≤◌, ◌<◌}
use mathlib.Core.Path.{◌≡◌, refl, sym, ◌∙◌, ap}
use mathlib.Core.Bool.{true, false}
use Rattle.std.specs.Option.{is_some}
use mathlib.Core.List.{List, ◌++◌}
use mathlib.Core.Logic.{⊎_elim}
use native.Mathlib.Nat.{zero-add}
use native.Mathlib.Omega.{arith}
use Rattle.leb128.specs.laws.Cases.{lt_or_le}
use Rattle.leb128.specs.inside.Storing.{Room, Puts}
use Rattle.leb128.specs.laws.Storing.{Left, left_begin, left_room, left_part, left_end}
use Rattle.sheet.specs.Layout.{node_count, LaidOut}
use Rattle.sheet.specs.Nodes.{standing, node_of}
use Rattle.sheet.specs.Nodes.Located.{found, missing}
use Rattle.sheet.specs.declared.Location.{Location}
use Rattle.std.specs.Prelude.{Option, Some, None}
use Rattle.drawing.specs.Sheet.{sheet_of}
use Rattle.drawing.specs.Drawing.{coordinate}
use Rattle.drawing.specs.laws.Located.{stands, found_node}
use Rattle.report.specs.Text.{node_line, layers_lines}
use Rattle.report.specs.laws.ByNode.{line_of, lines_from, by_node}

-- where the locator finds a node
pub at_node : (numbers : List ℕ) (v : ℕ) {r : Option Location} {node : Location} → standing r ≡ node_of numbers v
    → r ≡ Some node → node_of numbers v ≡ found node.layer node.position
unfolding standing
at_node numbers v e is = sym e ∙ ap standing is

-- where it finds none, all nodes are before
pub all_before : (numbers : List ℕ) (v : ℕ) {r : Option Location} → standing r ≡ node_of numbers v → r ≡ None → node_count numbers ≤ v
unfolding standing
all_before numbers v e is =
    ⊎_elim
    (λ (h : v < node_count numbers).
    let w = stands numbers v h in
    let never : found w.layer w.position ≡ missing = sym w.is ∙ sym e ∙ ap standing is in
    let z : ◌≡◌ {A = ℕ} 0 1 = cc in absurd (omega arith))
    (λ (h : node_count numbers ≤ v). h)
    (lt_or_le v (node_count numbers))

-- whether there is a node v, by whether the locator finds one
pub some_before : (numbers : List ℕ) (v : ℕ) (r : Option Location) → standing r ≡ node_of numbers v → is_some r ≡ true
    → v < node_count numbers
some_before numbers v r e is = go r refl is
  where
    go : (o : Option Location) → r ≡ o → is_some o ≡ true → v < node_count numbers
    go (Some node) f i = found_node numbers v node.layer node.position (at_node numbers v e f)
    go None f i = let z : ◌≡◌ {A = ℕ} 0 1 = cc in absurd (omega arith)

-- there is none
pub none_before : (numbers : List ℕ) (v : ℕ) (r : Option Location) → standing r ≡ node_of numbers v → is_some r ≡ false
    → node_count numbers ≤ v
none_before numbers v r e is = go r refl is
  where
    go : (o : Option Location) → r ≡ o → is_some o ≡ false → node_count numbers ≤ v
    go (Some node) f i = let z : ◌≡◌ {A = ℕ} 0 1 = cc in absurd (omega arith)
    go None f i = all_before numbers v e f

-- the lines of the nodes from v on are left to store
pub record NodesLeft (numbers p old : List ℕ) (start : ℕ) (new : List ℕ) (at v : ℕ) : Type 0 where
  pub turns : v ≤ node_count numbers
  pub left : Left old start (layers_lines p 1 (sheet_of numbers).layers) new at
      (lines_from (node_of numbers) p 0 (node_count numbers - v) v)

-- all of them at the start
pub nodes_begin : (numbers p old : List ℕ) (start : ℕ) → LaidOut numbers → NodesLeft numbers p old start old start 0
nodes_begin numbers p old start good =
    record {
      turns = omega arith;
      left =
          let all : node_count numbers - 0 ≡ node_count numbers = omega arith in
          rw (all, ← by_node numbers p good) (left_begin old start (layers_lines p 1 (sheet_of numbers).layers));
    }

module _ {numbers p old new : List ℕ} {start at v : ℕ} (left : NodesLeft numbers p old start new at v) where
  -- none is left
  pub nodes_end : node_count numbers ≤ v → Puts old start (layers_lines p 1 (sheet_of numbers).layers) new at
  unfolding lines_from
  nodes_end h =
      let none : node_count numbers - v ≡ 0 = omega arith in
      left_end (rw none at left.left)

  module _ {layer position : ℕ} (e : node_of numbers v ≡ found layer position) where
    -- node v is one
    some : v < node_count numbers
    some = found_node numbers v layer position e

    -- its line is the first that is left
    first_line : lines_from (node_of numbers) p 0 (node_count numbers - v) v
        ≡ node_line layer position (coordinate p v) ++ lines_from (node_of numbers) p 0 (node_count numbers - (v + 1)) (v + 1)
    unfolding lines_from line_of
    first_line =
        let one : node_count numbers - v ≡ suc (node_count numbers - (v + 1)) = omega (arith, some) in
        rw (one, e, zero-add v)

    -- its line has room
    pub node_room : Room old start (layers_lines p 1 (sheet_of numbers).layers) → Room new at (node_line layer position (coordinate p v))
    node_room room = left_room (node_line layer position (coordinate p v)) _ (rw first_line at left.left) room

    -- its line is stored
    pub nodes_next : {new' : List ℕ} {next : ℕ} → Puts new at (node_line layer position (coordinate p v)) new' next
        → NodesLeft numbers p old start new' next (v + 1)
    nodes_next s = record { turns = omega (arith, some); left = left_part (rw first_line at left.left) s }
