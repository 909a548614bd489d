-- The version of the library: MAJOR.MINOR.PATCH, and the same as one number.
use Rattle.std.specs.Prelude.{ℕ, ◌+◌, ◌*◌}

-- 0 as long as requests change what is promised
abbrev pub major : ℕ
major = 0

-- raised by a change of an answer, a format or a call
abbrev pub minor : ℕ
minor = 7

-- raised by every other change of the library
abbrev pub patch : ℕ
patch = 0

-- MAJOR · 2^16 + MINOR · 2^8 + PATCH
abbrev pub version : ℕ
version = major * 65536 + minor * 256 + patch
