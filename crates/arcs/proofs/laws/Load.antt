-- What loading answers and leaves: of a good sheet's numbers by a plan, short or long enough, and of bytes by what was read.
use Prim.Native.Nat.{ℕ, ◌+◌, ◌*◌, ◌≤◌, ◌<◌}
use mathlib.Core.Path.{◌≡◌, refl, sym, ◌∙◌, ap, subst}
use mathlib.Core.List.{List, ◌++◌}
use native.Mathlib.Omega.{arith}
use lib.ListN.{length, take, drop}
use lib.Seq.{sets}
use Rattle.leb128.specs.Refusals.{slice_short}
use Rattle.leb128.specs.Source.{refusal}
use Rattle.leb128.specs.Format.{Result, outcome, answered, filled}
use Rattle.leb128.specs.Format.Result.{elements}
use Rattle.leb128.specs.Reply.{Reply}
use Rattle.leb128.specs.laws.Storing.{sets_front}
use Rattle.leb128.specs.declared.Refusal.{Refusal}
use Rattle.std.specs.Prelude.{Ok, Err}
use Rattle.std.specs.Prelude.{Result as Answer}
use Rattle.sheet.specs.Limits.{max_nodes, max_numbers}
use Rattle.sheet.specs.Reading.{read_sheet}
use Rattle.sheet.specs.laws.Sheets.{good_layout}
use Rattle.sheet.specs.laws.ReadInto.{read_is, read_good, read_refused}
use Rattle.network.specs.Packed.{stride}
use Rattle.drawing.specs.Sheet.{Sheet, sheet_of}
use Rattle.drawing.specs.Arcs.{network}
use Rattle.drawing.specs.laws.Good.{Good}
use Rattle.drawing.specs.laws.GoodNumbers.{accepts_good}
use Rattle.arcs.specs.Loading.{loading, layer_firsts, firsts_size, arcs_size, fitted, load_answer, load_firsts, load_arcs}
use Rattle.arcs.specs.inside.Plans.{Planned, written}
use Rattle.arcs.specs.laws.LayerFirsts.{sheet_firsts, sheet_layers, firsts_length}
use Rattle.arcs.specs.laws.Fitting.{few_firsts, few_arcs, both_fit}
use Rattle.arcs.specs.declared.Plan.{Plan}
use Rattle.arcs.specs.declared.Counts.{Counts}
use Rattle.arcs.proofs.laws.Fill.{plan_arcs, plan_nodes, plan_edges}

-- what a call answers and leaves, by what reading gives: three equations, as in its contract
abbrev pub Loads : (result : Result) (f a f' a' : List ℕ) (r : Answer Counts Refusal) → Type 0
Loads result f a f' a' r =
    (loading r ≡ load_answer (fitted f a result))
    × ((f' ≡ load_firsts (fitted f a result) f) × (a' ≡ load_arcs (fitted f a result) a))

-- a refusal: both slices are as they were
refused_loads : (result : Result) (f a : List ℕ) {x : Refusal} {r : Answer Counts Refusal} → fitted f a result ≡ Reply.refused x → r ≡ Err x
    → Loads result f a f a r
unfolding loading load_answer load_firsts load_arcs
refused_loads result f a e is = rw (e, is) (refl, (refl, refl))

-- a good sheet's numbers with a plan, and two slices
module _ {s found : List ℕ} {p : Plan} (g : Good max_nodes s) (planned : Planned s found p) (f a : List ℕ) where
  -- the sheet's layers are the plan's
  layers_are : length (sheet_of s).layers ≡ p.layers
  layers_are = sheet_layers s ∙ sym planned.layers

  -- how many elements the arcs take
  size_is : arcs_size (sheet_of s) ≡ stride * (p.edges + 2 * p.nodes)
  size_is = ap (λ (n : ℕ). stride * n) (plan_arcs g planned)

  -- too few elements for the first nodes
  pub short_firsts : {r : Answer Counts Refusal} → length f < p.layers + 1 → r ≡ Err (refusal slice_short 0) → Loads (elements s) f a f a r
  short_firsts h is = refused_loads (elements s) f a (few_firsts s f a (omega (arith, layers_are))) is

  -- too few for the arcs
  pub short_arcs : {r : Answer Counts Refusal} → length a < stride * (p.edges + 2 * p.nodes) → r ≡ Err (refusal slice_short 0)
      → Loads (elements s) f a f a r
  short_arcs h is = refused_loads (elements s) f a (few_arcs s f a (omega (arith, size_is))) is

  -- the first nodes that are copied are the sheet's
  firsts_are : take (p.layers + 1) found ≡ layer_firsts (sheet_of s)
  firsts_are = rw (planned.firsts, planned.layers) (sheet_firsts s)

  -- enough of both
  pub enough : {f' a' : List ℕ} → p.layers + 1 ≤ length f → stride * (p.edges + 2 * p.nodes) ≤ length a
      → f' ≡ sets f 0 (take (p.layers + 1) found) → a' ≡ written (network (sheet_of s)) a
      → Loads (elements s) f a f' a'
      (Ok (record { layers = p.layers; nodes = p.nodes; edges = p.edges; arcs = p.edges + 2 * p.nodes }))
  unfolding loading load_answer load_firsts load_arcs written
  enough h k i j =
      let S : Sheet = sheet_of s in
      let size : length (layer_firsts S) ≡ firsts_size S = firsts_length S in
      rw (both_fit s f a (omega (arith, layers_are)) (omega (arith, size_is))) (
        cc (layers_are, plan_nodes g planned, plan_edges g planned, plan_arcs g planned),
        (
          i ∙ ap (sets f 0) firsts_are ∙ sets_front (layer_firsts S) f (omega (arith, size, layers_are))
              ∙ ap (λ (n : ℕ). layer_firsts S ++ drop n f) size,
          j,
        ),
      )

-- what the reader answered and left
module _ {answer : Answer ℕ Refusal} (bytes old new : List ℕ) (e : outcome answer ≡ answered (length old) (read_sheet bytes))
    (left : new ≡ filled (read_sheet bytes) old) where
  module _ {count : ℕ} (is : answer ≡ Ok count) where
    -- the numbers that were read are good
    pub done_good : Good max_nodes (take count new)
    done_good =
        let a = read_good bytes old new e left is in
        accepts_good max_nodes (good_layout (take count new) a).nodes a

    -- what is left of them is left of the bytes
    pub done_loads : (f a f' a' : List ℕ) (r : Answer Counts Refusal) → Loads (elements (take count new)) f a f' a' r
        → Loads (read_sheet bytes) f a f' a' r
    done_loads f a f' a' r = subst (λ (result : Result). Loads result f a f' a' r) (sym (read_is bytes old new e left is))

  module _ (room : max_numbers ≤ length old) {r : Refusal} (is : answer ≡ Err r) where
    -- the refusal is the answer, and nothing is written
    pub reader_loads : (f a : List ℕ) → Loads (read_sheet bytes) f a f a (Err r)
    unfolding fitted
    reader_loads f a = refused_loads (read_sheet bytes) f a (rw (read_refused bytes old new e left room is)) refl
