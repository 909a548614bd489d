-- `checker::arc::term` meets its contract: the flow times the kink that is stored.
use lib.IntN.{pos}
use lib.ListN.{get_or}
use borrow.Author.Rules.{rules}
use Rattle.checker.proofs.laws.Bits.{product_fits, product_is}
use Rattle.checker.proofs.arc.term.Goals as goal

pub returns : goal.returns
returns c =
    product_is (get_or c.args.list.now c.args.i (pos 0)) (search rules) c.from.ensures c.part_of.ensures.0 c.requires.has_arc.kink

pub overflow_mul-result : goal.overflow_mul-result
overflow_mul-result c =
    product_fits (get_or c.args.list.now c.args.i (pos 0)) (search rules) c.from.ensures c.part_of.ensures.0 c.requires.has_arc.kink
