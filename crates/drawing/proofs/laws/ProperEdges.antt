-- The limits of an edge, part by part, and that what edges carry is within them: a trace's kind and weight are some edge's.
use Rattle.std.specs.Prelude.{ℕ, ◌≤◌, ◌<◌, Bool, ◌&&◌, T, ltb, leb}
use Rattle.std.proofs.Common.{ltb→lt, lt→ltb, leb→le, le→leb, arith}
use Rattle.network.specs.Sums.{all}
use Rattle.network.specs.laws.Tests.{and_left, and_right, and_both}
use Rattle.sheet.specs.Limits.{max_kind, max_weight}
use Rattle.drawing.specs.Sheet.{Edge, Sheet}
use Rattle.drawing.specs.Traces.{traces}
use Rattle.drawing.specs.Proper.{proper_edge, Proper}
use Rattle.drawing.specs.Carriers.{At}
use Rattle.drawing.specs.laws.Carriers.{at_listed}
use Rattle.drawing.proofs.laws.CarriedTraces.{traces_all}

-- the parts of the test
pub record ProperEdge (n : ℕ) (e : Edge) : Type 0 where
  pub upper : e.upper < n
  pub lower : e.lower < n
  pub kind : e.kind ≤ max_kind
  pub weight : e.weight ≤ max_weight

-- what a test that passes says
pub edge_parts : (n : ℕ) (e : Edge) → T (proper_edge n e) → ProperEdge n e
edge_parts n e t =
    let upper : Bool = ltb e.upper n in
    let lower : Bool = ltb e.lower n in
    let kind : Bool = leb e.kind max_kind in
    let weight : Bool = leb e.weight max_weight in
    let ends : T (upper && lower) = and_left (upper && lower) (kind && weight) t in
    let limits : T (kind && weight) = and_right (upper && lower) (kind && weight) t in
    record {
      upper = ltb→lt e.upper n (and_left upper lower ends);
      lower = ltb→lt e.lower n (and_right upper lower ends);
      kind = leb→le e.kind max_kind (and_left kind weight limits);
      weight = leb→le e.weight max_weight (and_right kind weight limits);
    }

-- a test that passes, from its parts
pub parts_edge : (n : ℕ) (e : Edge) → ProperEdge n e → T (proper_edge n e)
parts_edge n e p =
    and_both (ltb e.upper n && ltb e.lower n) (leb e.kind max_kind && leb e.weight max_weight)
    (and_both (ltb e.upper n) (ltb e.lower n) (lt→ltb e.upper n p.upper) (lt→ltb e.lower n p.lower))
    (and_both (leb e.kind max_kind) (leb e.weight max_weight)
    (le→leb e.kind max_kind p.kind) (le→leb e.weight max_weight p.weight))

-- what edges carry is within the limits of edges
pub proper_traces : (S : Sheet) → Proper S → T (all (proper_edge S.nodes) (traces S.edges))
proper_traces S proper =
    let n : ℕ = S.nodes in
    traces_all (proper_edge n) S.edges
    (λ i e x a carries.
    let kind = carries.kind.attained in
    let weight = carries.weight.attained in
    parts_edge n x (record {
      upper = omega (arith, carries.ends.upper, (own a).upper);
      lower = omega (arith, carries.ends.lower, (own a).lower);
      kind = omega (arith, kind.holds, (own kind.at).kind);
      weight = omega (arith, weight.holds, (own weight.at).weight);
    }))
    (λ i e x a nothing. parts_edge n x (record {
      upper = omega (arith, nothing.ends.upper, (own a).upper);
      lower = omega (arith, nothing.ends.lower, (own a).lower);
      kind = omega (arith, nothing.kind);
      weight = omega (arith, nothing.weight);
    }))
  where
    -- an edge of the sheet is within its limits
    own : {i : ℕ} {e : Edge} → At S.edges i e → ProperEdge S.nodes e
    own {e = e} a = edge_parts S.nodes e ((at_listed a).passes (proper_edge S.nodes) proper.ends)
