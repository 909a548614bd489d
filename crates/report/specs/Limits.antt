-- How long a text may be.
use Rattle.std.specs.Prelude.{ℕ, ◌+◌, ◌*◌}
use Rattle.sheet.specs.Limits.{max_nodes}

-- line one, with a total of 32 bits
abbrev pub max_total_line : ℕ
max_total_line = 17

-- the line of a node, with a place of 16 bits
abbrev pub max_node_line : ℕ
max_node_line = 12

-- the text of any drawing: 3,089. That of a refusal is shorter
abbrev pub max_text : ℕ
max_text = max_total_line + max_node_line * max_nodes
