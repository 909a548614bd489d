-- The limits of flows that are taken, and of what the method stores.
use Rattle.std.specs.Prelude.{ℕ}

-- a low limit as it is stored: at least -1,024, with 2^28 added
abbrev pub low_least : ℕ
low_least = 268434432

-- a high limit as it is stored: at most 1,024, with 2^28 added
abbrev pub high_most : ℕ
high_most = 268436480

-- a flow that is counted, as it is stored: at least -16,384, with 2^28 added
abbrev pub flow_least : ℕ
flow_least = 268419072

-- and at most 16,384
abbrev pub flow_most : ℕ
flow_most = 268451840

-- a potential to start from: 2^28
abbrev pub start_limit : ℕ
start_limit = 268435456

-- a potential between two searches: 3 · 2^28
abbrev pub rested_limit : ℕ
rested_limit = 805306368

-- a potential at any time: 5 · 2^28
abbrev pub potential_limit : ℕ
potential_limit = 1342177280
