-- All but the list is determined: two answers that meet the contract for the same input are equal, and so are the places. The
-- reasons of refusal exclude each other, and there is one leftmost least drawing.
use Rattle.std.specs.Prelude.{ℕ, ◌≡◌, List, ◌++◌, ℤ, length, take}
use Rattle.std.proofs.Common.{sym, ◌∙◌, ap, ap₂, arith, take-append-drop}
use Rattle.leb128.specs.Reply.{Reply}
use Rattle.leb128.specs.Format.{Result}
use Rattle.leb128.specs.Format.Result.{elements}
use Rattle.drawing.specs.Sheet.{Sheet, sheet_of}
use Rattle.drawing.specs.Drawing.{total_length}
use Rattle.drawing.proofs.laws.Unique.{leftmost_unique}
use Rattle.engine.specs.Draws.{Drawn, Refuses, Returns, DrawsSheet, Draws}
use Rattle.engine.specs.Answers.{Same}
use Rattle.engine.specs.Draws.Refuses.{few_places, few_numbers, none}

module _ (S : Sheet) (places list : ℕ) where
  -- one reason of refusal excludes the others
  one_refusal : {n m : ℕ} → Refuses S places list n → Refuses S places list m → n ≡ m
  one_refusal (few_places h) (few_places k) = omega arith
  one_refusal (few_places h) (few_numbers k) = omega arith
  one_refusal (few_places h) (none r k) = absurd (omega (arith, r.nodes))
  one_refusal (few_numbers h) (few_places k) = omega arith
  one_refusal (few_numbers h) (few_numbers k) = omega arith
  one_refusal (few_numbers h) (none r k) = absurd (omega (arith, r.numbers))
  one_refusal (none r h) (few_places k) = absurd (omega (arith, r.nodes))
  one_refusal (none r h) (few_numbers k) = absurd (omega (arith, r.numbers))
  one_refusal (none r h) (none t k) = omega arith

module _ (S : Sheet) (p₀ : List ℕ) (y₀ : List ℤ) where
  -- what is refused is not drawn
  refused_not : {n t : ℕ} {p : List ℕ} {y : List ℤ} → Refuses S (length p₀) (length y₀) n → Returns S p₀ y₀ p y t → ⊥
  refused_not (few_places h) g = omega (arith, g.room.nodes)
  refused_not (few_numbers h) g = omega (arith, g.room.numbers)
  refused_not (none r h) g = h _ g.leftmost.is_least.candidate

  -- two drawings are one
  one_drawing : {s t : ℕ} {p q : List ℕ} {y z : List ℤ} → Returns S p₀ y₀ p y s → Returns S p₀ y₀ q z t
      → Same p q (Reply.value s) (Reply.value t)
  one_drawing {p = p} {q = q} g h =
      let same : take S.nodes p ≡ take S.nodes q =
      leftmost_unique S (take S.nodes p) (take S.nodes q) g.leftmost h.leftmost in
      record {
        answer = ap Reply.value (g.total_is ∙ ap (total_length S) same ∙ sym h.total_is);
        places =
            sym (take-append-drop S.nodes p)
            ∙ ap₂ (λ (a b : List ℕ). a ++ b) same (g.places_behind ∙ sym h.places_behind)
            ∙ take-append-drop S.nodes q;
      }

  -- the answers for a good sheet are the same
  one_sheet : (p q : List ℕ) (y z : List ℤ) (a b : Drawn) → DrawsSheet S p₀ y₀ p y a → DrawsSheet S p₀ y₀ q z b → Same p q a b
  one_sheet p q y z (Reply.value s) (Reply.value t) g h = one_drawing g h
  one_sheet p q y z (Reply.value s) (Reply.refused r) g h = absurd (refused_not h.0 g)
  one_sheet p q y z (Reply.refused r) (Reply.value t) g h = absurd (refused_not g.0 h)
  one_sheet p q y z (Reply.refused r) (Reply.refused s) g h =
      record {
        answer =
            ap₂ (λ (n o : ℕ). Reply.refused (record { number = n; offset = o }))
            (one_refusal S (length p₀) (length y₀) g.0 h.0) (g.1 ∙ sym h.1);
        places = g.2.0 ∙ sym h.2.0;
      }

-- the answers for any input are the same
pub determined : (read : Result) (p₀ : List ℕ) (y₀ : List ℤ) (p q : List ℕ) (y z : List ℤ) (a b : Drawn)
    → Draws read p₀ y₀ p y a → Draws read p₀ y₀ q z b → Same p q a b
unfolding Draws
determined (elements numbers) p₀ y₀ p q y z a b g h = one_sheet (sheet_of numbers) p₀ y₀ p q y z a b g h
determined (Result.refused r) p₀ y₀ p q y z a b g h = record { answer = g.0 ∙ sym h.0; places = g.1.0 ∙ sym h.1.0 }
