-- The loop of `gather`: the table holds the greatest strengths of the edges from an index on, and the edge before them is added.
use Prim.Native.Nat.{ℕ, suc, max, ◌+◌, ◌-◌, ◌*◌, ◌<◌}
use mathlib.Core.Path.{◌≡◌, refl, ◌∙◌, ap}
use mathlib.Core.List.{List, []}
use native.Mathlib.Omega.{arith}
use lib.ListN.{length, get_or, drop, set, length-set}
use lib.Seq.{drop-drop}
use Rattle.sheet.specs.Limits.{max_nodes}
use Rattle.sheet.specs.Layout.{edge_stride}
use Rattle.drawing.specs.Sheet.{Edge, edge_of, edges_of}
use Rattle.drawing.specs.laws.Good.{GoodEdge, GoodEdges}
use Rattle.arcs.specs.inside.Traces.{as_read, strongest, slot_of, slot, Rising, Tabled}
use Rattle.arcs.specs.declared.ReadEdge.{ReadEdge}
use Rattle.arcs.proofs.laws.Edges.{good_at}
use Rattle.arcs.proofs.laws.TraceTable.{joins, raised}

-- so many edges are left, and the table is made of those behind them
pub record Gathering (s first : List ℕ) (start count : ℕ) (old table : List ℕ) (left : ℕ) : Type 0 where
  pub done : ℕ
  pub split : done + left ≡ count
  pub size : length table ≡ length old
  pub tabled : Tabled first table (strongest (edges_of first done (drop (start + edge_stride * left) s)))

-- before the last edge
pub gathering_begin : (s first : List ℕ) (start count : ℕ) {table : List ℕ} → Tabled first table (strongest [])
    → Gathering s first start count table table count
gathering_begin s first start count t =
    record { done = 0; split = omega arith; size = refl; tabled = t }

module _ {s first old table : List ℕ} {start count left : ℕ} (p : Gathering s first start count old table left) (h : 0 < left)
    (good : GoodEdges max_nodes first count (drop start s)) where
  -- where the edge before stands
  abbrev here : ℕ
  here = start + edge_stride * (left - 1)

  -- it is good
  pub before_good : GoodEdge max_nodes first (drop here s)
  before_good = good_at count start (left - 1) s (omega (arith, p.split)) good

  -- its index is in the table, and its upper end is a node
  pub before_inside : {e : ReadEdge} → e ≡ as_read (edge_of first (drop here s))
      → (slot_of e.upper e.lower < length table) × (e.upper < max_nodes)
  before_inside is =
      let x : Edge = edge_of first (drop here s) in
      rw is (p.tabled.room x (joins (drop here s) before_good), before_good.upper)

  -- it raises its number
  pub gathering_step : {e : ReadEdge} {newer : List ℕ} → Rising first → e ≡ as_read (edge_of first (drop here s))
      → newer ≡ set table (slot_of e.upper e.lower) (max e.strength (get_or table (slot_of e.upper e.lower) 0))
      → Gathering s first start count old newer (left - 1)
  gathering_step {e} {newer} rise is stored =
      let x : Edge = edge_of first (drop here s) in
      let now : newer ≡ set table (slot x) (max (as_read x).strength (get_or table (slot x) 0)) =
      stored ∙ ap (λ (r : ReadEdge). set table (slot_of r.upper r.lower)
      (max r.strength (get_or table (slot_of r.upper r.lower) 0))) is in
      let next : here + edge_stride ≡ start + edge_stride * left = omega arith in
      let behind : drop edge_stride (drop here s) ≡ drop (start + edge_stride * left) s =
      drop-drop edge_stride here s ∙ ap (λ (k : ℕ). drop k s) next in
      record {
        done = suc p.done;
        split = omega (arith, p.split);
        size = ap length now ∙ length-set table (slot x) (max (as_read x).strength (get_or table (slot x) 0)) ∙ p.size;
        tabled = rw (now, behind) (raised rise (edges_of first p.done (drop (start + edge_stride * left) s)) x p.tabled
            (joins (drop here s) before_good));
      }

-- no edge is left
pub gathering_end : {s first old table : List ℕ} {start count left : ℕ} → Gathering s first start count old table left → left ≡ 0
    → Tabled first table (strongest (edges_of first count (drop start s)))
gathering_end {start = start} {count = count} p e =
    let all : p.done ≡ count = omega (arith, p.split) in
    let front : start + edge_stride * 0 ≡ start = omega arith in
    rw (e, all, front) at p.tabled
