-- `checker::judge::judge_whole` meets its contract: one part of the decision after the other.
use mathlib.Core.Path.{◌∙◌, ap}
use lib.IntN.{ℤ}
use Rattle.network.specs.laws.Sizes.{size_fits}
use native.Mathlib.Omega.{arith}
use Rattle.network.specs.Integers.{eqZ}
use Rattle.arcs.specs.laws.HeldArcs.{nodes_few}
use Rattle.arcs.specs.laws.HeldSheets.{bound_held}
use Rattle.checker.proofs.laws.HeldTable.{table}
use Rattle.checker.proofs.laws.Bits.{bits_same}
use Rattle.checker.proofs.laws.DecisionParts.{not_legal, not_allowed, not_balanced, by_bound}
use Rattle.checker.proofs.judge.judge_whole.Goals as goal

pub all_legal-requires : goal.all_legal-requires
all_legal-requires c = table c.args.sheet.now.holds

pub returns-then-not-all_legal : goal.returns-then-not-all_legal
returns-then-not-all_legal c =
    not_legal c.args.sheet.now.arcs.now c.args.sheet.now.counts c.args.places.now c.args.list.now c.requires.1
    c.all_legal.ensures c.if-not-all_legal.true

pub all_allowed-requires : goal.all_allowed-requires
all_allowed-requires c =
    record {
      table = table c.args.sheet.now.holds;
      n_in_bounds = c.requires.0;
    }

pub returns-then-not-all_allowed : goal.returns-then-not-all_allowed
returns-then-not-all_allowed c =
    not_allowed c.args.sheet.now.arcs.now c.args.sheet.now.counts c.args.places.now c.args.list.now c.requires.1
    c.all_legal.ensures c.if-not-all_legal.false c.all_allowed.ensures
    c.if-not-all_allowed.true

pub all_balanced-requires : goal.all_balanced-requires
all_balanced-requires c =
    record {
      table = table c.args.sheet.now.holds;
      n_in_bounds = (c.requires.0, bound_held c.args.sheet.now.holds nodes_few);
    }

pub returns-then-not-all_balanced : goal.returns-then-not-all_balanced
returns-then-not-all_balanced c =
    not_balanced c.args.sheet.now.arcs.now c.args.sheet.now.counts c.args.places.now c.args.list.now c.requires.1 c.all_legal.ensures
    c.if-not-all_legal.false c.all_allowed.ensures c.if-not-all_allowed.false
    c.all_balanced.ensures c.if-not-all_balanced.true

pub bound-requires : goal.bound-requires
bound-requires c =
    record {
      table = table c.args.sheet.now.holds;
      n_in_bounds = c.requires.0;
    }

pub returns : goal.returns
returns c =
    bits_same c.from.result c.bound.result (record { sfits = omega arith }) (size_fits (omega (arith, c.bound.ensures.1)))
    ∙ ap (λ (z : ℤ). eqZ z c.bound.result) c.from.ensures
    ∙ by_bound c.args.sheet.now.arcs.now c.args.sheet.now.counts c.args.places.now c.args.list.now c.requires.1 c.all_legal.ensures c.if-not-all_legal.false
    c.all_allowed.ensures c.if-not-all_allowed.false c.all_balanced.ensures c.if-not-all_balanced.false
    c.args.sheet.now.holds c.sheet_total.ensures c.bound.ensures.0
