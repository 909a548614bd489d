-- The refusal that a list of widths adds to those of a sheet, by its number in document 02, and all that the call for many widths gives.
use Rattle.std.specs.Prelude.{ℕ, ◌<◌, ◌≡◌}
use Rattle.leb128.specs.Refusals.{outside_limits, something_follows, slice_short}
use Rattle.leb128.specs.Source.{refusal}
use Rattle.leb128.specs.declared.Refusal.{Refusal}
use Rattle.sheet.specs.Refusals.{RefusalTo}
use Rattle.rolls.specs.Limits.{max_widths}

-- more widths than a list may have
abbrev pub many_widths : ℕ
many_widths = 11

-- a refusal of the call: one of reading, from 1 to 6; 11 at offset 0; 4 at the index of a width; 7 at offset 0
pub data TotalsRefusal (r : Refusal) : Type 0 where
  read : RefusalTo something_follows r → TotalsRefusal r
  many : r ≡ refusal many_widths 0 → TotalsRefusal r
  outside : {i : ℕ} → i < max_widths → r ≡ refusal outside_limits i → TotalsRefusal r
  short : r ≡ refusal slice_short 0 → TotalsRefusal r
