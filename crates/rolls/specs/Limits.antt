-- The limit of a list of widths, and the entry of a width without a drawing (document 02, "Many widths for one sheet").
use Rattle.std.specs.Prelude.{ℕ}

-- the widths that a list may have
abbrev pub max_widths : ℕ
max_widths = 64

-- the entry of a width without a drawing
abbrev pub no_total : ℕ
no_total = 4294967295
