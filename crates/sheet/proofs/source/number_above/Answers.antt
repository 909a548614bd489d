-- `sheet::source::number_above` meets its contract: what the bytes hold is small enough to be raised.
use Rattle.leb128.specs.laws.ItemCases.{has_form}
use Rattle.std.proofs.lemmas.Result.{err_from_is_err_and}
use Rattle.sheet.proofs.laws.FoundNumbers.{above_refused, above_value}
use mathlib.Core.Path.{sym}
use native.Mathlib.Omega.{arith}
use Rattle.sheet.proofs.source.number_above.Goals as goal

pub returns-in_err-n : goal.returns-in_err-n
returns-in_err-n c =
    let p = err_from_is_err_and c.from_residual.result c.from_residual.ensures.1 in
    rw (p.1, p.2) (above_refused c.args.bytes.now c.args.at c.args.base (sym c.in_err-n.ensures))

pub overflow_add-result : goal.overflow_add-result
overflow_add-result c =
    omega (
      arith,
      c.requires,
      has_form c.args.bytes.now c.args.at _ _ (sym c.in_ok-n.ensures) (λ i. omega (arith, c.type_inv.bytes i)),
    )

pub returns : goal.returns
returns c =
    above_value c.args.bytes.now c.args.at c.args.base (sym c.in_ok-n.ensures)
