-- Numbers as the code holds them, of 16 and of 32 bits.
use Rattle.std.specs.Prelude.{ℕ, ◌<◌, ◌≡◌}
use Rattle.leb128.specs.Limits.{list_limit}

-- r is x, a number of 16 bits
pub record Small (r x : ℕ) : Type 0 where
  pub is : r ≡ x
  pub fits : r < list_limit

-- the greatest number of 32 bits
abbrev pub u32_most : ℕ
u32_most = 4294967295
