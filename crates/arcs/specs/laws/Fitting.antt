-- Whether a sheet's numbers are loaded, by the cases: too few elements for the first nodes, too few for the arcs, enough of both.
use Rattle.std.specs.Prelude.{ℕ, ◌≤◌, ◌<◌, ◌≡◌, List, ltb, length}
use Rattle.std.proofs.Math.Bool.{or-true}
use borrow.Author.Tests.{lt-ltb, le-ltb}
use Rattle.leb128.specs.Refusals.{slice_short}
use Rattle.leb128.specs.Source.{refusal}
use Rattle.leb128.specs.Format.Result.{elements}
use Rattle.leb128.specs.Reply.{Reply}
use Rattle.drawing.specs.Sheet.{sheet_of}
use Rattle.arcs.specs.Loading.{firsts_size, arcs_size, fitted}

module _ (numbers first arcs : List ℕ) where
  -- too few elements for the first nodes: refusal 7
  pub few_firsts : length first < firsts_size (sheet_of numbers)
      → fitted first arcs (elements numbers) ≡ Reply.refused (refusal slice_short 0)
  unfolding fitted
  few_firsts h = rw (lt-ltb (length first) (firsts_size (sheet_of numbers)) h)

  -- too few for the arcs: refusal 7
  pub few_arcs : length arcs < arcs_size (sheet_of numbers)
      → fitted first arcs (elements numbers) ≡ Reply.refused (refusal slice_short 0)
  unfolding fitted
  few_arcs h = rw (lt-ltb (length arcs) (arcs_size (sheet_of numbers)) h, or-true (ltb (length first) (firsts_size (sheet_of numbers))))

  -- enough of both: the sheet
  pub both_fit : firsts_size (sheet_of numbers) ≤ length first → arcs_size (sheet_of numbers) ≤ length arcs
      → fitted first arcs (elements numbers) ≡ Reply.value (sheet_of numbers)
  unfolding fitted
  both_fit h k = rw (le-ltb (length first) (firsts_size (sheet_of numbers)) h, le-ltb (length arcs) (arcs_size (sheet_of numbers)) k)
