-- `totals::add_layer` meets its contract: the loop's invariant is `LayerWalk`.
use Rattle.std.proofs.Common.{ℕ, ◌+◌, min, ◌∙◌, ap, arith}
use Rattle.leb128.specs.Words.{u32_most}
use Rattle.totals.specs.inside.Chains.{link_of}
use Rattle.totals.proofs.laws.Starts.{starts_node}
use Rattle.totals.proofs.laws.LayerSums.{walk_begin, walk_next, walk_runs}
use Rattle.totals.proofs.add_layer.Goals as goal

pub edge_at-next-requires : goal.edge_at-next-requires
edge_at-next-requires c =
    let node = starts_node c.args.first.now c.requires.t c.requires.le_layer.0 c.requires.le_layer.1 in
    omega (arith, node, c.requires.layer_chains.chained.size, c.layer_start.ensures)

pub loop-next-init : goal.loop-next-init
loop-next-init c =
    walk_begin c.args.places.now c.requires.t c.requires.layer_chains c.requires.le_layer.0 c.requires.le_layer.1 (omega (arith, c.ranges.sum.fits))
    c.layer_start.ensures c.edge_at-next.ensures

pub loop-next-preserved : goal.loop-next-preserved
loop-next-preserved c =
    walk_next c.loop-next.invariant _ (ap link_of c.in-Some.is)
    (c.capped-result.ensures ∙ ap (λ (x : ℕ). min u32_most (c.loop-next.result + x)) c.counted.ensures)
    c.edge_at-next-in-Some.ensures

pub returns : goal.returns
returns c = walk_runs c.loop-next.invariant (ap link_of c.in_default.is) c.requires.le_layer.2
