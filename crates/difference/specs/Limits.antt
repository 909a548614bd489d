-- The limit of what the method stores.
use Rattle.std.specs.Prelude.{ℕ}

-- no value of a least solution passes most_nodes * kink_zero: 2^28
abbrev pub value_limit : ℕ
value_limit = 268435456
