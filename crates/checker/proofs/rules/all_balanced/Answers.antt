-- `checker::rules::all_balanced` meets its contract: the array holds what the flows bring.
use mathlib.Core.Path.{◌∙◌}
use native.Mathlib.Omega.{arith}
use Rattle.sheet.specs.Limits.{max_nodes}
use Rattle.checker.proofs.laws.Balances.{none_yet, balanced_is}
use Rattle.checker.proofs.rules.all_balanced.Goals as goal

pub balances-requires : goal.balances-requires
balances-requires c =
    record {
      table = c.requires.table;
      n_in_bounds = c.requires.n_in_bounds.0;
      within = λ u l. none_yet max_nodes u;
    }

pub returns : goal.returns
returns c = c.zeros.ensures ∙ balanced_is c.args.nodes c.balances.ensures (omega arith)
