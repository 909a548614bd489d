-- One test of a row of a table of sheets, and one law: where the test passes over a whole table, every row holds.
use Rattle.std.specs.Prelude.{ℕ, ◌≡◌, refl, Bool, false, not, ◌&&◌, List, [], ◌∷◌, T, eqb, ℤ, length}
use Rattle.std.proofs.Common.{eqb→eq}
use Rattle.leb128.specs.Format.{Result}
use Rattle.leb128.specs.Format.Result.{elements, refused}
use Rattle.sheet.specs.Reading.{read_sheet}
use Rattle.network.specs.Sums.{all}
use Rattle.network.specs.Network.{integers}
use Rattle.network.proofs.laws.HeldOnly.{leftmost_test}
use Rattle.network.specs.laws.Tests.{and_left, and_right, is_true, is_false}
use Rattle.drawing.specs.Sheet.{Sheet, sheet_of}
use Rattle.drawing.specs.Drawing.{total_length}
use Rattle.drawing.specs.Certificate.{certificate_size}
use Rattle.drawing.specs.Judged.{judged}
use Rattle.drawing.specs.Arcs.{network}
use Rattle.drawing.specs.Rows.{Outcome, Row, Says, RowHolds, Every}
use Rattle.drawing.specs.Rows.Outcome.{drawn, undrawable, rejected}
use Rattle.drawing.proofs.laws.Judged.{judged_accepted}
use Rattle.drawing.specs.laws.NoDrawing.{shows_none}
use Rattle.drawing.proofs.laws.NoDrawing.{no_drawing}
use Rattle.drawing.proofs.laws.LeftmostTest.{test_drawing}

-- the list has a number for each edge and two for each node
abbrev pub whole_list : Sheet → List ℤ → Bool
whole_list S list = eqb (length list) (certificate_size S)

-- the test of an outcome
abbrev pub passes : List ℕ → Outcome → Bool
passes numbers (drawn total coordinates list) =
    whole_list (sheet_of numbers) list
    && ((judged (sheet_of numbers) coordinates list && leftmost_test (network (sheet_of numbers)) list (integers coordinates))
    && eqb (total_length (sheet_of numbers) coordinates) total)
passes numbers (undrawable list) = whole_list (sheet_of numbers) list && shows_none (sheet_of numbers) list
passes numbers (rejected coordinates list) =
    whole_list (sheet_of numbers) list
    && (eqb (length coordinates) (sheet_of numbers).nodes && not (judged (sheet_of numbers) coordinates list))

-- the test shows what the outcome says
passes_says : (numbers : List ℕ) (o : Outcome) → T (passes numbers o) → Says (sheet_of numbers) o
passes_says numbers (drawn total coordinates list) t =
    let S : Sheet = sheet_of numbers in
    let least : Bool = judged S coordinates list in
    let leftmost : Bool = leftmost_test (network S) list (integers coordinates) in
    let equal : Bool = eqb (total_length S coordinates) total in
    let rest : T ((least && leftmost) && equal) = and_right (whole_list S list) ((least && leftmost) && equal) t in
    let both : T (least && leftmost) = and_left (least && leftmost) equal rest in
    record {
      leftmost =
          test_drawing numbers coordinates list
          (judged_accepted numbers coordinates list (and_left least leftmost both)) (and_right least leftmost both);
      sum = eqb→eq (total_length S coordinates) total (and_right (least && leftmost) equal rest);
      list_size = eqb→eq (length list) (certificate_size S) (and_left (whole_list S list) ((least && leftmost) && equal) t);
      accepted = is_true least (and_left least leftmost both);
    }
passes_says numbers (undrawable list) t =
    let S : Sheet = sheet_of numbers in
    no_drawing S list (and_right (whole_list S list) (shows_none S list) t)
passes_says numbers (rejected coordinates list) t =
    let S : Sheet = sheet_of numbers in
    let sized : Bool = eqb (length coordinates) S.nodes in
    let refuted : Bool = not (judged S coordinates list) in
    let rest : T (sized && refuted) = and_right (whole_list S list) (sized && refuted) t in
    record {
      size = eqb→eq (length coordinates) S.nodes (and_left sized refuted rest);
      list_size = eqb→eq (length list) (certificate_size S) (and_left (whole_list S list) (sized && refuted) t);
      rejected = is_false (judged S coordinates list) (and_right sized refuted rest);
    }

-- the test of what reading gives
abbrev pub passes_read : Result → Outcome → Bool
passes_read (elements numbers) o = passes numbers o
passes_read (refused r) o = false

-- the test of a row
abbrev pub passed : Row → Bool
passed r = passes_read (read_sheet r.bytes) r.outcome

-- a row that passes holds
passed_holds : (r : Row) → T (passed r) → RowHolds r
passed_holds r t = go (read_sheet r.bytes) refl t
  where
    go : (result : Result) → read_sheet r.bytes ≡ result → T (passes_read result r.outcome) → RowHolds r
    go (elements numbers) e t = record { numbers = numbers; read = e; says = passes_says numbers r.outcome t }
    go (refused why) e t = absurd t

-- a table that passes holds
pub every : (rows : List Row) → T (all passed rows) → Every rows
every [] t = tt
every (r ∷ rows) t =
    (passed_holds r (and_left (passed r) (all passed rows) t), every rows (and_right (passed r) (all passed rows) t))
