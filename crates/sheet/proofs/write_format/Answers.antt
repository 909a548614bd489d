-- `sheet::write_format` meets its contract: what the walk settles to is the answer, and the second pass fills the slice.
use mathlib.Core.Path.{◌∙◌, ap}
use lib.Seq.{sets}
use native.Mathlib.Omega.{arith}
use Rattle.std.proofs.lemmas.Result.{err_from_is_err_and}
use Rattle.sheet.proofs.laws.SecondPass.{refused_kept, write_done, write_filled}
use Rattle.sheet.proofs.laws.Settling.{write_settled}
use Rattle.sheet.specs.inside.Formats.{write_format}
use Rattle.sheet.proofs.write_format.Goals as goal

pub returns-in_err-count : goal.returns-in_err-count
returns-in_err-count c =
    let p = err_from_is_err_and c.from_residual.result c.from_residual.ensures.1 in
    let a = write_settled c.args.format _ c.args.numbers.now c.walk_list.ensures c.in_err-count.ensures in
    rw (p.1, p.2) (record { answer = a; slice = refused_kept c.in_err-count.field-0.0 (write_format c.args.format c.args.numbers.now) c.args.bytes.now a })

pub put_magic-requires : goal.put_magic-requires
put_magic-requires c =
    omega (
      arith,
      (write_done c.in_ok-count.count c.args.format c.args.bytes.now c.args.numbers.now
          (write_settled c.args.format _ c.args.numbers.now c.walk_list.ensures c.in_ok-count.ensures)).fits,
    )

pub put_numbers-requires : goal.put_numbers-requires
put_numbers-requires c =
    let w = write_done c.in_ok-count.count c.args.format c.args.bytes.now c.args.numbers.now
    (write_settled c.args.format _ c.args.numbers.now c.walk_list.ensures c.in_ok-count.ensures) in
    record {
      accepts = w.accepted;
      room = record { fits = omega (arith, w.fits, c.put_magic.auto.bytes) };
    }

pub returns : goal.returns
returns c =
    let a = write_settled c.args.format _ c.args.numbers.now c.walk_list.ensures c.in_ok-count.ensures in
    record {
      answer = a;
      slice = write_filled c.in_ok-count.count c.args.format c.args.bytes.now c.args.numbers.now a
          (c.put_magic.ensures ∙ ap (sets c.args.bytes.now 0) c.magic.ensures) c.put_numbers.ensures;
    }
