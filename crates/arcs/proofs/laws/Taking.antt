-- The loop of `put_edges`: the table holds what the edges before have left over, and the arc of what the next edge carries is made from
-- what it takes.
use Prim.Native.Nat.{ℕ, suc, ◌+◌, ◌-◌, ◌*◌, ◌<◌}
use mathlib.Core.Path.{◌≡◌, refl, ◌∙◌, ap}
use mathlib.Core.Bool.{cond}
use mathlib.Core.List.{List, [], ◌∷◌, map}
use native.Mathlib.Omega.{arith}
use lib.Dec.{T}
use lib.ListN.{length, get_or, drop, set, length-set}
use lib.Seq.{drop-drop}
use Rattle.leb128.specs.inside.Storing.{Puts}
use Rattle.leb128.specs.laws.Storing.{Left, left_begin, left_end}
use Rattle.sheet.specs.Limits.{max_nodes}
use Rattle.sheet.specs.Layout.{edge_stride}
use Rattle.network.specs.Sums.{all}
use Rattle.network.specs.Packed.{stride, packs}
use Rattle.network.proofs.laws.PackedBack.{packs_length}
use Rattle.drawing.specs.Sheet.{Edge, edge_of, edges_of}
use Rattle.drawing.specs.Traces.{any_parallel, whole_trace, bare, traces_behind, traces}
use Rattle.drawing.specs.Arcs.{edge_arc}
use Rattle.drawing.specs.laws.Good.{GoodEdge, GoodEdges}
use Rattle.arcs.specs.inside.Traces.{as_read, strength_arc, strongest, left_over, slot_of, slot, Rising, Tabled, Takes}
use Rattle.arcs.specs.declared.ReadEdge.{ReadEdge}
use Rattle.arcs.proofs.laws.Edges.{good_at}
use Rattle.arcs.proofs.laws.Packing.{left_arcs}
use Rattle.arcs.proofs.laws.Strengths.{light, good_light, left_over_arc}
use Rattle.arcs.proofs.laws.TraceTable.{joins, taken}

-- what an edge takes and writes
pub edge_takes : (e : Edge) {r : ReadEdge} {table taken old new x : List ℕ} {at next found : ℕ} → r ≡ as_read e
    → found ≡ get_or table (slot_of r.upper r.lower) 0 → taken ≡ set table (slot_of r.upper r.lower) 0
    → x ≡ packs (strength_arc found r.upper r.lower ∷ []) → Puts old at x new next → Takes e old at new next table taken
edge_takes e {r} {table} is f t a p =
    let spot : slot_of r.upper r.lower ≡ slot e = ap (λ (r : ReadEdge). slot_of r.upper r.lower) is in
    record { arc = rw (a, f, spot, is) at p; left = t ∙ ap (λ (k : ℕ). set table k 0) spot }

-- the first of some edges, and the others
edges_next : (first : List ℕ) {k others next : ℕ} (at : ℕ) (s : List ℕ) → k ≡ suc others → next ≡ at + edge_stride
    → edges_of first k (drop at s) ≡ edge_of first (drop at s) ∷ edges_of first others (drop next s)
edges_next first {others = others} at s e f =
    rw (e, f) (ap (λ (t : List ℕ). edge_of first (drop at s) ∷ edges_of first others t) (drop-drop edge_stride at s))

-- the edges from edge i on
abbrev edges_from : List ℕ → List ℕ → ℕ → ℕ → ℕ → List Edge
edges_from s first start count i = edges_of first (count - i) (drop (start + edge_stride * i) s)

-- i edges are written, and the table holds what they have left over
pub record EdgesLeft (s first : List ℕ) (start count : ℕ) (old new table taken : List ℕ) (i n : ℕ) : Type 0 where
  pub before : List Edge
  pub room : n ≡ stride * i
  pub size : length taken ≡ length table
  pub good : GoodEdges max_nodes first count (drop start s)
  pub weights : T (all light (edges_of first count (drop start s)))
  pub tabled : Tabled first taken (left_over (edges_of first count (drop start s)) before)
  pub left : Left old 0 (packs (map edge_arc (traces (edges_of first count (drop start s))))) new n
      (packs (map edge_arc (traces_behind (edges_of first count (drop start s)) before (edges_from s first start count i))))

-- no edge has taken its number
pub edges_begin : (s first : List ℕ) (start count : ℕ) (old table : List ℕ) → GoodEdges max_nodes first count (drop start s) → Tabled first table (strongest (edges_of first count (drop start s)))
    → EdgesLeft s first start count old old table table 0 0
unfolding traces
edges_begin s first start count old table good t =
    let all : count - 0 ≡ count = omega arith in
    let front : start + edge_stride * 0 ≡ start = omega arith in
    record {
      before = [];
      room = omega arith;
      size = refl;
      good = good;
      weights = good_light max_nodes first count (drop start s) good;
      tabled = record { room = t.room; number = t.number };
      left = rw (all, front) (left_begin old 0 _);
    }

module _ {s first old new table taken' : List ℕ} {start count i n : ℕ}
    (p : EdgesLeft s first start count old new table taken' i n) (h : i < count) where
  -- where the next edge stands
  abbrev here : ℕ
  here = start + edge_stride * i

  -- the next edge is good
  pub edge_good : GoodEdge max_nodes first (drop here s)
  edge_good = good_at count start i s h p.good

  -- its index is in the table
  pub edge_inside : slot (edge_of first (drop here s)) < length taken'
  edge_inside = p.tabled.room (edge_of first (drop here s)) (joins (drop here s) edge_good)

  -- it takes its number, and its arc is written
  pub edges_step : {newer later : List ℕ} {m : ℕ} → Rising first → Takes (edge_of first (drop here s)) new n newer m taken' later
      → EdgesLeft s first start count old newer table later (i + 1) m
  edges_step {newer} {later} {m} rise x =
      let es : List Edge = edges_of first count (drop start s) in
      let e : Edge = edge_of first (drop here s) in
      let rest : List Edge = edges_from s first start count (i + 1) in
      let next = edges_next first {k = count - i} {others = count - (i + 1)} {next = start + edge_stride * (i + 1)} here s
      (omega arith) (omega arith) in
      let carried : Edge = cond (any_parallel e p.before) (bare e) (whole_trace es e) in
      let j = joins (drop here s) edge_good in
      let arc : strength_arc (get_or taken' (slot e) 0) e.upper e.lower ≡ edge_arc carried =
      ap (λ (a : ℕ). strength_arc a e.upper e.lower) (p.tabled.number e j)
      ∙ left_over_arc e es p.before p.weights in
      let puts : Puts new n (packs (edge_arc carried ∷ [])) newer m = rw arc at x.arc in
      record {
        before = e ∷ p.before;
        room = omega (arith, p.room, puts.behind, packs_length (edge_arc carried ∷ []));
        size = ap length x.left ∙ length-set taken' (slot e) 0 ∙ p.size;
        good = p.good;
        weights = p.weights;
        tabled = rw x.left (taken rise es p.before e p.tabled j);
        left = left_arcs (edge_arc carried ∷ []) (map edge_arc (traces_behind es (e ∷ p.before) rest))
            (rw next at p.left) puts;
      }

-- no edge is left
pub edges_end : {s first old new table taken' : List ℕ} {start count i n : ℕ} → EdgesLeft s first start count old new table taken' i n
    → i ≡ count → Puts old 0 (packs (map edge_arc (traces (edges_of first count (drop start s))))) new n
unfolding packs
edges_end {count = count} {i} p e = let none : count - i ≡ 0 = omega arith in left_end (rw none at p.left)
