-- Sizes of signed numbers: with these no sum wraps, whatever the list.
use Rattle.std.specs.Prelude.{ℕ, ◌*◌}
use Rattle.network.specs.Packed.{kink_zero}
use Rattle.arcs.specs.Limits.{max_arcs}

-- a signed number whose size is below this one, 2^63, fits 64 bits
abbrev pub i64_limit : ℕ
i64_limit = 9223372036854775808

-- no number of a list, of 32 bits with its sign, is larger: 2^31
abbrev pub amount_size : ℕ
amount_size = 2147483648

-- nor is one times a kink
abbrev pub term_size : ℕ
term_size = amount_size * kink_zero

-- nor is a bound
abbrev pub bound_size : ℕ
bound_size = max_arcs * term_size

-- nor is the balance of a node, to which an arc brings its flow at the head and at the tail
abbrev pub balance_size : ℕ
balance_size = max_arcs * (2 * amount_size)
