-- What a caller of `load` knows: a good sheet whose first nodes and packed arcs stand in front of the slices, or a refusal; and that
-- slices of 65 and of 5,120 elements are long enough for every sheet. By the cases of what reading gives and of the room.
use Rattle.std.specs.Prelude.{ℕ, ◌≤◌, ◌≡◌, refl, Bool, true, false, cond, List, ◌++◌, length, drop, Ok, Err}
use Rattle.std.specs.Prelude.{Result as Answer}
use Rattle.std.proofs.Common.{sym, ◌∙◌, ap, arith}
use Rattle.leb128.specs.Refusals.{slice_short}
use Rattle.leb128.specs.Source.{refusal}
use Rattle.leb128.specs.Format.{Result}
use Rattle.leb128.specs.Format.Result.{elements}
use Rattle.leb128.specs.Reply.{Reply}
use Rattle.leb128.specs.laws.ReplyCases.{value_not}
use Rattle.leb128.specs.Grammar.{Accepts}
use Rattle.leb128.specs.declared.Refusal.{Refusal}
use Rattle.sheet.specs.Limits.{max_nodes}
use Rattle.sheet.specs.Grammar.{sheet}
use Rattle.sheet.specs.Reading.{read_sheet}
use Rattle.sheet.specs.laws.Sheets.{read_accepted, good_layout}
use Rattle.network.specs.Packed.{packed}
use Rattle.drawing.specs.Sheet.{sheet_of}
use Rattle.drawing.specs.Sheet as drawing
use Rattle.drawing.specs.Arcs.{network}
use Rattle.drawing.specs.laws.GoodNumbers.{accepts_good}
use Rattle.drawing.proofs.laws.Proper.{accepts_proper}
use Rattle.drawing.specs.Proper.{Proper}
use Rattle.drawing.proofs.laws.ArcCount.{arcs_count}
use Rattle.arcs.specs.Limits.{max_elements, max_firsts}
use Rattle.arcs.specs.Loading.{loading, layer_firsts, firsts_size, arcs_size, counts_of, too_short}
use Rattle.arcs.specs.Loading.{fitted, load_answer, load_firsts, load_arcs}
use Rattle.arcs.specs.laws.LayerFirsts.{sheet_layers}
use Rattle.arcs.specs.laws.Fitting.{both_fit}
use Rattle.arcs.specs.declared.Counts.{Counts}

-- a sheet that was loaded from bytes into two slices: its numbers, which are good, its counts, and the slices afterwards
pub record LoadedSheet (bytes f₀ f a₀ a : List ℕ) (c : Counts) : Type 0 where
  pub numbers : List ℕ
  pub reads : read_sheet bytes ≡ elements numbers
  pub good : Accepts sheet numbers
  pub counts : c ≡ counts_of (sheet_of numbers)
  pub firsts : f ≡ layer_firsts (sheet_of numbers) ++ drop (firsts_size (sheet_of numbers)) f₀
  pub arcs : a ≡ packed (network (sheet_of numbers)) ++ drop (arcs_size (sheet_of numbers)) a₀

-- what an answer with a sheet stands for
sheet_answer : {answer : Answer Counts Refusal} {c : Counts} {l : Reply Counts} → answer ≡ Ok c → loading answer ≡ l → Reply.value c ≡ l
unfolding loading
sheet_answer is e = sym (ap loading is) ∙ e

-- what a refusal stands for
refused_answer : {answer : Answer Counts Refusal} {r : Refusal} {l : Reply Counts} → answer ≡ Err r → loading answer ≡ l → Reply.refused r ≡ l
unfolding loading
refused_answer is e = sym (ap loading is) ∙ e

-- an answer with a sheet
pub loaded_sheet : (bytes f₀ a₀ : List ℕ) {f a : List ℕ} {answer : Answer Counts Refusal} {c : Counts} → answer ≡ Ok c
    → loading answer ≡ load_answer (fitted f₀ a₀ (read_sheet bytes))
    → f ≡ load_firsts (fitted f₀ a₀ (read_sheet bytes)) f₀
    → a ≡ load_arcs (fitted f₀ a₀ (read_sheet bytes)) a₀ → LoadedSheet bytes f₀ f a₀ a c
unfolding fitted load_answer load_firsts load_arcs
loaded_sheet bytes f₀ a₀ {f} {a} {answer} {c} is e i j = by_result (read_sheet bytes) refl (sheet_answer is e) i j
  where
    by_room : (numbers : List ℕ) → read_sheet bytes ≡ elements numbers → (short : Bool) (r : Refusal)
        → Reply.value c ≡ load_answer (cond short (Reply.refused r) (Reply.value (sheet_of numbers)))
        → f ≡ load_firsts (cond short (Reply.refused r) (Reply.value (sheet_of numbers))) f₀
        → a ≡ load_arcs (cond short (Reply.refused r) (Reply.value (sheet_of numbers))) a₀ → LoadedSheet bytes f₀ f a₀ a c
    by_room numbers reads true r e i j = absurd (value_not e)
    by_room numbers reads false r e i j =
        record { numbers = numbers; reads = reads; good = read_accepted bytes numbers reads; counts = cc; firsts = i; arcs = j }

    by_result : (result : Result) → read_sheet bytes ≡ result
        → Reply.value c ≡ load_answer (fitted f₀ a₀ result)
        → f ≡ load_firsts (fitted f₀ a₀ result) f₀
        → a ≡ load_arcs (fitted f₀ a₀ result) a₀ → LoadedSheet bytes f₀ f a₀ a c
    by_result (elements numbers) reads e i j =
        by_room numbers reads (too_short (sheet_of numbers) (length f₀) (length a₀)) (refusal slice_short 0) e i j
    by_result (Result.refused r) reads e i j = absurd (value_not e)

module _ (numbers : List ℕ) (good : Accepts sheet numbers) where
  -- a slice of 65 elements is long enough for the first nodes
  pub most_firsts : firsts_size (sheet_of numbers) ≤ max_firsts
  most_firsts = omega (arith, sheet_layers numbers, (good_layout numbers good).layer_count.1)

  -- a slice of 5,120 elements is long enough for the arcs
  pub most_elements : arcs_size (sheet_of numbers) ≤ max_elements
  most_elements =
      let proper : Proper (sheet_of numbers) = accepts_proper numbers good in
      omega
      (arith, proper.nodes, proper.few, arcs_count max_nodes numbers (accepts_good max_nodes (good_layout numbers good).nodes good))

-- where the slices are long enough for every sheet, a refusal is the reader's
pub reader_refused : (bytes f a : List ℕ) {answer : Answer Counts Refusal} {r : Refusal} → max_firsts ≤ length f → max_elements ≤ length a
    → answer ≡ Err r → loading answer ≡ load_answer (fitted f a (read_sheet bytes)) → read_sheet bytes ≡ Result.refused r
unfolding fitted load_answer
reader_refused bytes f a {answer} {r} h k is e = go (read_sheet bytes) refl (refused_answer is e)
  where
    go : (result : Result) → read_sheet bytes ≡ result → Reply.refused r ≡ load_answer (fitted f a result)
        → result ≡ Result.refused r
    go (elements numbers) i e =
        let good : Accepts sheet numbers = read_accepted bytes numbers i in
        let fit =
        both_fit numbers f a (omega (arith, most_firsts numbers good)) (omega (arith, most_elements numbers good)) in
        absurd (value_not (sym (e ∙ ap load_answer fit)))
    go (Result.refused s) i e = let are : s ≡ r = cc in ap Result.refused are

-- a refusal leaves both slices as they were
pub refused_kept : (loaded : Reply drawing.Sheet) (f a : List ℕ) {answer : Answer Counts Refusal} {r : Refusal} → answer ≡ Err r
    → loading answer ≡ load_answer loaded → (load_firsts loaded f ≡ f) × (load_arcs loaded a ≡ a)
unfolding load_answer load_firsts load_arcs
refused_kept (Reply.value S) f a is e = absurd (value_not (sym (refused_answer is e)))
refused_kept (Reply.refused s) f a is e = (refl, refl)
