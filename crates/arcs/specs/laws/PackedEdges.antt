-- A packed edge has the ends of its edge and, if it is plain, its weight: in front of the packed edges, and so at each index.
use Rattle.std.specs.Prelude.{ℕ, zero, suc, ◌+◌, ◌*◌, ◌/◌, ◌≤◌, ◌<◌, ◌≡◌, refl, List, [], ◌∷◌, map, length, drop}
use Rattle.std.proofs.Common.{sym, ◌∙◌, ap, arith, drop-drop, ne_eqb, lt-ltb}
use Rattle.std.proofs.lemmas.List.{length-map}
use Rattle.sheet.specs.Limits.{max_weight}
use Rattle.network.specs.Packed.{stride, flow_zero, high_none, packs}
use Rattle.network.proofs.laws.PackedBack.{packs_length}
use Rattle.drawing.specs.Sheet.{Edge}
use Rattle.drawing.specs.Arcs.{edge_arc_between, edge_arc}
use Rattle.drawing.specs.Carriers.{At}
use Rattle.drawing.specs.Carriers.At.{here, later}
use Rattle.packed.specs.Ends.{edge_from, weight_of, weight_at}
use Rattle.arcs.specs.Held.{Packs}

-- the arc of an edge has its ends
pub ends : (kind weight u v : ℕ) → ((edge_arc_between kind weight u v).tail ≡ u) × ((edge_arc_between kind weight u v).head ≡ v)
ends zero weight u v = (refl, refl)
ends (suc kind) weight u v = (refl, refl)

-- a high limit that is a weight stands for it
weight_back : (w : ℕ) → w ≤ max_weight → weight_of (flow_zero + w) ≡ w
weight_back w h = rw (ne_eqb (flow_zero + w) high_none (λ e. omega arith)) (omega arith)

-- the first of packed edges
pub front_packs : (e : Edge) (es : List Edge) → e.weight ≤ max_weight → Packs (packs (map edge_arc (e ∷ es))) e
unfolding packs
front_packs e es h =
    let own = ends e.kind e.weight e.upper e.lower in
    record { upper = own.0; lower = own.1; weight = plain e.kind }
  where
    -- the weight of a plain one
    plain : (kind : ℕ) → kind ≡ 0
        → weight_at (packs (edge_arc_between kind e.weight e.upper e.lower ∷ map edge_arc es)) ≡ e.weight
    plain zero z = weight_back e.weight h
    plain (suc kind) z = absurd (omega arith)

-- behind i of them stands edge i
behind_packs : {es : List Edge} {i : ℕ} {e : Edge} → At es i e → e.weight ≤ max_weight
    → Packs (drop (stride * i) (packs (map edge_arc es))) e
unfolding packs
behind_packs {e = e} (here {es = es}) h = front_packs e es h
behind_packs {i = suc i} (later {x = x} {e = e} {es = es} a) h =
    let next : stride * suc i ≡ stride + stride * i = omega arith in
    let past : drop (stride * suc i) (packs (map edge_arc (x ∷ es))) ≡ drop (stride * i) (packs (map edge_arc es)) =
    ap (λ (k : ℕ). drop k (packs (map edge_arc (x ∷ es)))) next ∙ sym (drop-drop (stride * i) stride (packs (map edge_arc (x ∷ es)))) in
    rw past (behind_packs a h)

-- an index at which an edge stands is below their count
at_inside : {es : List Edge} {i : ℕ} {e : Edge} → At es i e → i < length es
at_inside here = omega arith
at_inside (later a) = omega (arith, at_inside a)

-- below their count an edge stands at each index
pub inside_at : (es : List Edge) (i : ℕ) → i < length es → (e : Edge) × At es i e
inside_at [] i h = absurd (omega arith)
inside_at (e ∷ es) zero h = (e, here)
inside_at (e ∷ es) (suc i) h = let rest = inside_at es i (omega arith) in (rest.0, later rest.1)

-- packed edge i is that of edge i
pub packed_edge : {es : List Edge} {i : ℕ} {e : Edge} → At es i e → e.weight ≤ max_weight
    → Packs (edge_from i (packs (map edge_arc es))) e
packed_edge {es} {i} a h =
    let there : i < length (packs (map edge_arc es)) / stride =
    omega (arith, at_inside a, packs_length (map edge_arc es), length-map es edge_arc) in
    rw (lt-ltb i (length (packs (map edge_arc es)) / stride) there) (behind_packs a h)
