-- `circulation::search::search` meets its contract: the loop's invariant is `Searching`; the count of nodes left falls.
use Rattle.circulation.specs.inside.Search.{Reached}
use Rattle.network.specs.Nodes.{potentials, orders, parents, residuals}
use Rattle.network.specs.Net.{net}
use Rattle.circulation.proofs.laws.Searches.{search_start, search_found, search_crosses}
use Rattle.circulation.proofs.laws.Growing.{crossing_residual}
use Rattle.circulation.proofs.laws.Reaching.{new_there}
use Rattle.circulation.specs.laws.Columns.{column_length, column_at}
use lib.ListN.{length, get_or}
use Prim.Native.Nat.{ℕ}
use mathlib.Core.List.{List}
use mathlib.Core.Path.{refl, subst, sym, ap, ◌∙◌}
use native.Mathlib.Omega.{arith}
use Rattle.circulation.proofs.search.search.Goals as goal

pub begin-requires : goal.begin-requires
begin-requires c = (
  omega (arith, c.requires.state_at.wf.nodes, column_length 0 c.args.nodes.now),
  c.requires.s_bound.0,
  grind (
    arith,
    c.get-residual.ensures,
    column_at 1 c.args.nodes.now c.args.s c.requires.s_bound.0,
  ),
)

pub loop-s-init : goal.loop-s-init
loop-s-init c = (
  search_start c.args.s
      (omega (arith, c.requires.s_bound.0, column_length 0 c.begin.new.nodes, c.begin.ensures.length_same))
      (rw (c.begin.ensures.potentials_same, c.begin.ensures.deficits_same) c.requires.state_at)
      (omega (arith, column_length 0 c.begin.new.nodes, column_length 2 c.begin.new.nodes))
      (omega (arith, column_length 0 c.begin.new.nodes, column_length 3 c.begin.new.nodes))
      (omega (arith, column_length 0 c.begin.new.nodes, column_length 4 c.begin.new.nodes)) c.begin.ensures.root
      c.begin.ensures.alone (omega (arith, c.begin.ensures.root_residual, c.get-residual.ensures, c.requires.s_bound.1))
      (omega (
        arith,
        c.begin.ensures.root_residual,
        c.get-residual.ensures,
        c.requires.s_bound.1,
        ap (λ (l : List ℕ). get_or l c.args.s 0) c.begin.ensures.deficits_same,
      )),
  refl,
  refl,
)

pub get-requires : goal.get-requires
get-requires c =
    new_there c.loop-s.invariant.0.grown
    c.extend-v.ensures (omega arith)

pub returns-then-get-lt-DEFICIT_ZERO : goal.returns-then-get-lt-DEFICIT_ZERO
returns-then-get-lt-DEFICIT_ZERO c =
    record {
      reached = subst
          (λ (l : List ℕ). Reached (net c.args.arcs.now (length c.args.flows.now)) c.args.s
          c.extend-v.result (potentials c.extend-v.new.nodes) c.args.flows.now l (orders c.extend-v.new.nodes)
          (parents c.extend-v.new.nodes) (residuals c.extend-v.new.nodes))
          (sym (c.extend-v.ensures.deficits_same ∙ c.loop-s.invariant.2))
          (search_found c.extend-v.result c.loop-s.invariant.0 c.extend-v.ensures.extends c.extend-v.ensures.root_residual
          (omega (
            arith,
            c.get.ensures,
            c.if-get-lt-DEFICIT_ZERO.true,
            ap (λ (l : List ℕ). get_or l c.extend-v.result 0) (c.extend-v.ensures.deficits_same ∙ c.loop-s.invariant.2),
          )));
      length_same = c.extend-v.ensures.length_same ∙ (c.loop-s.invariant.1 ∙ c.begin.ensures.length_same);
      deficits_same = (c.extend-v.ensures.deficits_same ∙ c.loop-s.invariant.2) ∙ c.begin.ensures.deficits_same;
    }

pub get-start-requires : goal.get-start-requires
get-start-requires c =
    new_there c.loop-s.invariant.0.grown
    c.extend-v.ensures (omega arith)

pub loop-s-smaller : goal.loop-s-smaller
loop-s-smaller c =
    omega (
      arith,
      crossing_residual c.loop-s.invariant.0.grown (search_crosses c.loop-s.invariant.0),
      column_length 0 c.loop-s.nodes,
      c.loop-s.invariant.1,
    )

pub extend-v-requires-clause-crossing_at : goal.extend-v-requires-clause-crossing_at
extend-v-requires-clause-crossing_at c = search_crosses c.loop-s.invariant.0
