-- The checker says yes to what drawing leaves: each of its tests is one of the contract's facts.
use Rattle.std.specs.Prelude.{ℕ, ◌≤◌, ◌≡◌, true, List, ℤ, pos, length, take}
use Rattle.std.proofs.Common.{◌∙◌, ap, arith, length-take}
use Rattle.leb128.specs.Reply.{Reply}
use Rattle.leb128.specs.laws.ReplyCases.{value_not}
use Rattle.leb128.specs.Format.{Result}
use Rattle.leb128.specs.Format.Result.{elements}
use Rattle.drawing.specs.Sheet.{sheet_of}
use Rattle.drawing.specs.Certificate.{certificate_size}
use Rattle.drawing.specs.Judged.{judged}
use Rattle.drawing.proofs.laws.Judged.{Accepted, accepted_judged}
use Rattle.network.specs.laws.Tests.{is_true}
use Rattle.checker.specs.Verdict.{accepted, judge_numbers, check_answer}
use Rattle.checker.specs.laws.Decided.{numbers_decided}
use Rattle.engine.specs.Draws.{Returns, Draws}

module _ (s p₀ : List ℕ) (y₀ : List ℤ) (p : List ℕ) (y : List ℤ) (total : ℕ) (g : Returns (sheet_of s) p₀ y₀ p y total) where
  -- the facts that the checker decides
  facts : Accepted (sheet_of s) (take (sheet_of s).nodes p) (take (certificate_size (sheet_of s)) y)
  facts = record { drawing = g.leftmost.is_least.candidate; rules = g.rules; equal = g.bound_is ∙ ap pos g.total_is }

  -- enough places
  places_enough : (sheet_of s).nodes ≤ length p
  places_enough = omega (arith, g.leftmost.is_least.candidate.size, length-take (sheet_of s).nodes p)

  -- enough numbers
  numbers_enough : certificate_size (sheet_of s) ≤ length y
  numbers_enough = omega (arith, g.list_size, g.room.numbers)

  -- yes on the sheet's numbers
  numbers_yes : judge_numbers s p y ≡ accepted
  numbers_yes =
      numbers_decided s p y true places_enough numbers_enough
      (is_true (judged (sheet_of s) (take (sheet_of s).nodes p) (take (certificate_size (sheet_of s)) y)) (accepted_judged s (take (sheet_of s).nodes p) (take (certificate_size (sheet_of s)) y) facts))

-- the checker says yes to what is drawn
pub drawn_accepted : (read : Result) (p₀ : List ℕ) (y₀ : List ℤ) (p : List ℕ) (y : List ℤ) (total : ℕ)
    → Draws read p₀ y₀ p y (Reply.value total) → check_answer read p y ≡ accepted
unfolding Draws check_answer
drawn_accepted (elements numbers) p₀ y₀ p y total g = numbers_yes numbers p₀ y₀ p y total g
drawn_accepted (Result.refused r) p₀ y₀ p y total g = absurd (value_not g.0)
