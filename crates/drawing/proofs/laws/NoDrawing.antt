-- A list shows that a sheet has no drawing where it meets the rules with 0 for every plain trace and its bound is above
-- 0: it meets the rules of the network without costs, where every drawing's total is 0.
use Rattle.std.specs.Prelude.{◌≡◌, refl, List, [], ◌∷◌, map, Bool, ◌&&◌, ℕ, zero, suc, get_or, drop, ℤ, pos}
use Rattle.std.proofs.Common.{sym, ◌∙◌}
use Rattle.std.proofs.Math.Path.{ap, subst}
use Rattle.std.proofs.Math.Dec.{T}
use Rattle.std.specs.Int.Signed.{le_z, lt_z}
use Rattle.network.specs.Integers.{eqZ}
use Rattle.network.specs.laws.Integers.{eqZ→eq}
use Rattle.network.specs.Sums.{sum, all}
use Rattle.network.specs.laws.Tests.{and_left, and_right, and_both, all_map, all_ext, all_image, below_ext}
use Rattle.network.specs.laws.Sums.{sum_image}
use Rattle.network.specs.Network.{Arc, integers}
use Rattle.network.specs.Flows.{Flow, flows, allowed, inflow, balanced, rules, bound_term, bound as network-bound}
use Rattle.network.proofs.laws.NoSolution.{hard_arc, hard, refutes, none_feasible}
use Rattle.drawing.specs.Sheet.{Sheet}
use Rattle.drawing.specs.Drawing.{NoDrawing}
use Rattle.drawing.specs.Arcs.{edge_arc_between, maximum_arc, network}
use Rattle.drawing.specs.Certificate.{EdgeTerm, LayerTerm, certificate, meets_rules, bound}
use Rattle.drawing.specs.laws.Terms.{edge_flow, minimum_flow, maximum_flow, left_flow, right_flow, layer_flows}
use Rattle.drawing.specs.laws.Terms.{layer_all, network_all}
use Rattle.drawing.proofs.laws.SameRules.{same_rules, same_bound}
use Rattle.drawing.proofs.laws.SameDrawings.{drawing_feasible}
use Rattle.drawing.specs.laws.NoDrawing.{idle_edge, shows_none}

-- the flow on the arc without its cost
abbrev hard_flow : Flow → Flow
hard_flow f = record { on = hard_arc f.on; amount = f.amount }

-- the flows of a list on the arcs without their costs
hard_flows : (arcs : List Arc) (y : List ℤ) → flows (map hard_arc arcs) y ≡ map hard_flow (flows arcs y)
hard_flows [] y = refl
hard_flows (a ∷ arcs) y =
    ap (λ (fs : List Flow). record { on = hard_arc a; amount = get_or y 0 (pos 0) } ∷ fs) (hard_flows arcs (drop 1 y))

-- an edge's multiplier is allowed without the cost, where it is 0 for a plain trace
hard_edge : (kind weight u v : ℕ) (y : ℤ) → T (idle_edge kind y)
    → T (allowed (hard_flow (record { on = edge_arc_between kind weight u v; amount = y })))
hard_edge zero weight u v y t = subst (λ (z : ℤ). T (le_z (pos 0) z && le_z z (pos 0))) (sym (eqZ→eq y (pos 0) t)) tt
hard_edge (suc kind) weight u v y t = tt

-- the arc of a maximum separation, set or not, allows the same without its cost, which is none
hard_maximum : (maximum v : ℕ) (y : ℤ)
    → allowed (hard_flow (record { on = maximum_arc maximum v; amount = y })) ≡ allowed (record { on = maximum_arc maximum v; amount = y })
hard_maximum zero v y = refl
hard_maximum (suc maximum) v y = refl

-- so do the arcs of a layer
hard_layer : (width ground : ℕ) (l : LayerTerm)
    → all (λ f. allowed (hard_flow f)) (layer_flows width ground l) ≡ all allowed (layer_flows width ground l)
hard_layer width ground l =
    layer_all width ground (λ f. allowed (hard_flow f)) l
    ∙ ap (λ (b : Bool). allowed (left_flow ground l) && (b && allowed (right_flow width ground l)))
    (all_ext (λ x. allowed (hard_flow (minimum_flow x)) && allowed (hard_flow (maximum_flow x)))
    (λ x. allowed (minimum_flow x) && allowed (maximum_flow x))
    (λ x. ap (λ (b : Bool). allowed (minimum_flow x) && b) (hard_maximum x.pair.maximum x.pair.left x.maximum)) l.pairs)
    ∙ sym (layer_all width ground allowed l)

module _ (S : Sheet) (y : List ℤ) (t : T (shows_none S y)) where
  -- the list's flows
  abbrev sheet_flows : List Flow
  sheet_flows = flows (network S).arcs y

  -- the multiplier of every plain trace is 0
  abbrev idle : Bool
  idle = all (λ e. idle_edge e.edge.kind e.amount) (certificate S y).edges

  -- the bound is above 0
  abbrev above : Bool
  above = lt_z (pos 0) (bound S y)

  -- the list meets the network's rules
  rule : T (all allowed sheet_flows && balanced (network S).nodes sheet_flows)
  unfolding shows_none rules
  rule = subst T (sym (same_rules S y)) (and_left (meets_rules S y) (idle && above) t)

  -- and the other two tests
  rest : T (idle && above)
  unfolding shows_none
  rest = and_right (meets_rules S y) (idle && above) t

  -- every flow is allowed without the costs
  hard_allowed : T (all allowed (flows (hard (network S)).arcs y))
  hard_allowed =
      let es : List EdgeTerm = (certificate S y).edges in
      let ls : List LayerTerm = (certificate S y).layers in
      let edge_test : EdgeTerm → Bool = λ e. allowed (hard_flow (edge_flow e)) in
      let layer_test : LayerTerm → Bool = λ l. all allowed (layer_flows S.width S.nodes l) in
      let hard-layer-test : LayerTerm → Bool = λ l. all (λ f. allowed (hard_flow f)) (layer_flows S.width S.nodes l) in
      rw (hard_flows (network S).arcs y, all_image allowed hard_flow sheet_flows, network_all S y (λ f. allowed (hard_flow f)))
      (and_both (all edge_test es) (all hard-layer-test ls)
      (all_map (λ e. idle_edge e.edge.kind e.amount) edge_test
      (λ e. hard_edge e.edge.kind e.edge.weight e.edge.upper e.edge.lower e.amount) es (and_left idle above rest))
      (subst T (sym (all_ext hard-layer-test layer_test (hard_layer S.width S.nodes) ls))
      (and_right (all (λ e. allowed (edge_flow e)) es) (all layer_test ls)
      (subst T (network_all S y allowed) (and_left (all allowed sheet_flows) (balanced (network S).nodes sheet_flows) rule)))))

  -- a sum over the flows without the costs
  hard_sum : (g : Flow → ℤ) → sum g (flows (hard (network S)).arcs y) ≡ sum (λ f. g (hard_flow f)) sheet_flows
  hard_sum g = ap (sum g) (hard_flows (network S).arcs y) ∙ sum_image g hard_flow sheet_flows

  -- the list meets the rules of the network without costs, and its bound there is above 0
  hard_refutes : T (refutes (network S) y)
  unfolding refutes rules network-bound
  hard_refutes =
      and_both (rules (hard (network S)) y) (lt_z (pos 0) (network-bound (hard (network S)) y))
      (and_both (all allowed (flows (hard (network S)).arcs y)) (balanced (network S).nodes (flows (hard (network S)).arcs y))
      hard_allowed
      (subst T
      (sym (below_ext (λ v. eqZ (sum (inflow v) (flows (hard (network S)).arcs y)) (pos 0))
      (λ v. eqZ (sum (inflow v) sheet_flows) (pos 0)) (network S).nodes
      (λ v h. ap (λ (z : ℤ). eqZ z (pos 0)) (hard_sum (inflow v)))))
      (and_right (all allowed sheet_flows) (balanced (network S).nodes sheet_flows) rule)))
      (subst (λ (z : ℤ). T (lt_z (pos 0) z)) (sym (hard_sum bound_term ∙ same_bound S y)) (and_right idle above rest))

  -- so no coordinates are a drawing
  pub no_drawing : NoDrawing S
  no_drawing p d = none_feasible (network S) y hard_refutes (integers p) (drawing_feasible S p d)
