-- `rolls::totals_loaded` meets its contract: each way out is a case of the answer, and the last one leaves the entries.
use Prim.Native.Nat.{ℕ}
use mathlib.Core.Path.{sym, ◌∙◌, ap}
use native.Mathlib.Omega.{arith}
use lib.ListN.{length}
use Rattle.std.specs.Prelude.{Err}
use Rattle.leb128.specs.Refusals.{outside_limits}
use Rattle.leb128.specs.Source.{refusal}
use Rattle.leb128.specs.Format.{Outcome}
use Rattle.rolls.specs.laws.Answers.{answer_many, answer_outside, answer_short, answer_wrote, some_outside, no_outside, none_outside}
use Rattle.rolls.proofs.laws.Whole.{refused_held, wrote_held}
use Rattle.rolls.proofs.totals_loaded.Goals as goal

pub returns-then-count-gt-MAX_WIDTHS : goal.returns-then-count-gt-MAX_WIDTHS
returns-then-count-gt-MAX_WIDTHS c =
    let both = refused_held c.args.sheet.now c.args.widths.now c.args.totals.now (ap Err c.new.ensures)
    (answer_many c.args.widths.now (length c.args.totals.now) c.if-count-gt-MAX_WIDTHS.true) in
    record {
      answer = both.0;
      slice = both.1;
    }

pub returns-in-Some : goal.returns-in-Some
returns-in-Some c =
    let both = refused_held c.args.sheet.now c.args.widths.now c.args.totals.now (ap Err c.new-in-Some.ensures)
    (answer_outside c.args.widths.now (length c.args.totals.now) (omega (arith, c.if-count-gt-MAX_WIDTHS.false))
    (omega (arith, (some_outside c.args.widths.now c.in-Some.ensures)))
    ∙ ap (λ (k : ℕ). Outcome.refused (refusal outside_limits k)) (sym (some_outside c.args.widths.now c.in-Some.ensures).0)) in
    record {
      answer = both.0;
      slice = both.1;
    }

pub returns-then-totals-count : goal.returns-then-totals-count
returns-then-totals-count c =
    let both = refused_held c.args.sheet.now c.args.widths.now c.args.totals.now (ap Err c.new-then-totals-count.ensures)
    (answer_short c.args.widths.now (length c.args.totals.now) (omega (arith, c.if-count-gt-MAX_WIDTHS.false))
    (omega (arith, (no_outside c.args.widths.now c.in_default.ensures))) c.if-totals-count.true) in
    record {
      answer = both.0;
      slice = both.1;
    }

pub put_entries-requires : goal.put_entries-requires
put_entries-requires c = (
  none_outside c.args.widths.now (omega (arith, (no_outside c.args.widths.now c.in_default.ensures))),
  omega (arith, c.if-totals-count.false),
)

pub returns : goal.returns
returns c =
    let both = wrote_held c.args.sheet.now c.args.widths.now c.args.totals.now _
    (answer_wrote c.args.widths.now (length c.args.totals.now) (omega (arith, c.if-count-gt-MAX_WIDTHS.false))
    (omega (arith, (no_outside c.args.widths.now c.in_default.ensures)))
    (omega (arith, c.if-totals-count.false)))
    c.put_entries.ensures in
    record {
      answer = both.0;
      slice = both.1;
    }
