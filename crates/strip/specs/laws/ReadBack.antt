-- A word can be read back: its parts are quotients and remainders by 2⁴⁸, 2³² and 2¹⁶.
use Rattle.std.specs.Prelude.{ℕ, ◌<◌, ◌≡◌}
use Rattle.std.proofs.Common.{◌∙◌, ap, arith}
use Rattle.strip.specs.Words.{number_unit, part_range, packed, second_of, number_of, value_of, Parts}

module _ (second number value : ℕ) (n : number < part_range) (v : value < number_unit) where
  -- the second value
  pub second_back : second_of (packed second number value) ≡ second
  second_back = omega arith

  -- the number of the refusal
  pub number_back : number_of (packed second number value) ≡ number
  number_back = omega arith

  -- the value or the offset
  pub value_back : value_of (packed second number value) ≡ value
  value_back = omega arith

  -- all three
  pub parts_back : {word : ℕ} → word ≡ packed second number value → Parts word second number value
  parts_back e =
      record { second_is = ap second_of e ∙ second_back; number_is = ap number_of e ∙ number_back; value_is = ap value_of e ∙ value_back }
