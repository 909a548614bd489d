-- The arcs of a good sheet are within narrow limits, piece by piece: ends that are nodes or ground, small kinks, limits of the
-- flow that are 0, a weight up or down, or none. So they read back from their packing, and the solvers take them.
use Rattle.std.specs.Prelude.{ℕ, zero, suc, ◌+◌, ◌-◌, ◌≤◌, ◌<◌, Bool, true, false, ◌&&◌, T, ltb, leb, ℤ, pos, negsuc, nat_abs, neg_ℤ, length, get_or, drop}
use mathlib.Core.List.{List, [], ◌∷◌, ◌++◌, map, flat_map}
use Rattle.std.proofs.Common.{arith, ltb→lt, lt→ltb, leb→le, le→leb}
use Rattle.network.specs.Sums.{all}
use Rattle.network.specs.Network.{Limit, unlimited, limit, Arc, upper_bound}
use Rattle.network.specs.Packed.{kink_zero, flow_zero, inside, storable}
use Rattle.network.specs.laws.Sizes.{size_neg}
use Rattle.network.specs.laws.Tests.{and_left, and_right, and_both, all_map, all_append, all_image, all_flat}
use Rattle.sheet.specs.Limits.{max_separation, max_weight}
use Rattle.sheet.specs.Layout.{layers_at, first_layer_at, nodes_at, separations_at, next_layer}
use Rattle.drawing.specs.Sheet.{Pair, Layer, Edge, Sheet, pairs_of, layers_of, first_nodes, sheet_of}
use Rattle.drawing.specs.Traces.{traces}
use Rattle.drawing.specs.Arcs.{edge_arc_between, edge_arc, minimum_arc, maximum_arc, separation_arcs, layer_arcs, network}
use Rattle.drawing.specs.Proper.{not_crossed, proper_edge, proper_pair, Proper}
use Rattle.drawing.proofs.laws.ProperEdges.{edge_parts, proper_traces}
use Rattle.drawing.proofs.laws.SameDrawings.{length_pairs}

-- a low limit from minus the greatest weight to 0, or none
abbrev pub low_near : Limit → Bool
low_near unlimited = true
low_near (limit (pos zero)) = true
low_near (limit (pos (suc n))) = false
low_near (limit (negsuc n)) = ltb n max_weight

-- a high limit from 0 to the greatest weight, or none
abbrev pub high_near : Limit → Bool
high_near unlimited = true
high_near (limit (pos n)) = leb n max_weight
high_near (limit (negsuc n)) = false

-- an arc between n nodes, with ground, within the limits
abbrev pub near : ℕ → Arc → Bool
near n a =
    (ltb a.tail n && ltb a.head n) &&
    (ltb (nat_abs a.kink) kink_zero && (low_near a.low && high_near a.high))

-- the parts of the test
pub record Near (n : ℕ) (a : Arc) : Type 0 where
  pub tail : a.tail < n
  pub head : a.head < n
  pub kink : nat_abs a.kink < kink_zero
  pub low : T (low_near a.low)
  pub high : T (high_near a.high)

-- what a test that passes says
pub near_parts : (n : ℕ) (a : Arc) → T (near n a) → Near n a
near_parts n a t =
    let ends : Bool = ltb a.tail n && ltb a.head n in
    let kink : Bool = ltb (nat_abs a.kink) kink_zero in
    let limits : Bool = low_near a.low && high_near a.high in
    let first : T ends = and_left ends (kink && limits) t in
    let rest : T (kink && limits) = and_right ends (kink && limits) t in
    let last : T limits = and_right kink limits rest in
    record {
      tail = ltb→lt a.tail n (and_left (ltb a.tail n) (ltb a.head n) first);
      head = ltb→lt a.head n (and_right (ltb a.tail n) (ltb a.head n) first);
      kink = ltb→lt (nat_abs a.kink) kink_zero (and_left kink limits rest);
      low = and_left (low_near a.low) (high_near a.high) last;
      high = and_right (low_near a.low) (high_near a.high) last;
    }

-- a test that passes, from its parts
parts_near : (n : ℕ) (a : Arc) → Near n a → T (near n a)
parts_near n a p =
    and_both (ltb a.tail n && ltb a.head n) (ltb (nat_abs a.kink) kink_zero && (low_near a.low && high_near a.high))
    (and_both (ltb a.tail n) (ltb a.head n) (lt→ltb a.tail n p.tail) (lt→ltb a.head n p.head))
    (and_both (ltb (nat_abs a.kink) kink_zero) (low_near a.low && high_near a.high) (lt→ltb (nat_abs a.kink) kink_zero p.kink)
    (and_both (low_near a.low) (high_near a.high) p.low p.high))

-- a near low limit has a number of its own
low_inside : (l : Limit) → T (low_near l) → T (inside l)
low_inside unlimited t = tt
low_inside (limit (pos zero)) t = tt
low_inside (limit (pos (suc n))) t = absurd t
low_inside (limit (negsuc n)) t = lt→ltb (suc n) flow_zero (omega (arith, ltb→lt n max_weight t))

-- so has a near high limit
high_inside : (l : Limit) → T (high_near l) → T (inside l)
high_inside unlimited t = tt
high_inside (limit (pos n)) t = lt→ltb n flow_zero (omega (arith, leb→le n max_weight t))
high_inside (limit (negsuc n)) t = absurd t

-- such an arc is storable
near_storable : (n : ℕ) (a : Arc) → T (near n a) → T (storable a)
near_storable n a t =
    let p = near_parts n a t in
    and_both (ltb (nat_abs a.kink) kink_zero) (inside a.low && inside a.high) (lt→ltb (nat_abs a.kink) kink_zero p.kink)
    (and_both (inside a.low) (inside a.high) (low_inside a.low p.low) (high_inside a.high p.high))

-- an upper bound with a small kink
bound_near : (n u v : ℕ) (k : ℤ) → u < n → v < n → nat_abs k < kink_zero → T (near n (upper_bound u v k))
bound_near n u v k a b h = parts_near n (upper_bound u v k) (record { tail = a; head = b; kink = h; low = tt; high = tt })

-- the arc of an edge between nodes
edge_near : (n kind weight u v : ℕ) → u < n → v < n → weight ≤ max_weight → T (near n (edge_arc_between kind weight u v))
edge_near n zero zero u v a b h =
    parts_near n (edge_arc_between 0 0 u v) (record { tail = a; head = b; kink = omega arith; low = tt; high = tt })
edge_near n zero (suc w) u v a b h =
    parts_near n (edge_arc_between 0 (suc w) u v)
    (record { tail = a; head = b; kink = omega arith; low = lt→ltb w max_weight h; high = le→leb (suc w) max_weight h })
edge_near n (suc kind) weight u v a b h =
    parts_near n (edge_arc_between (suc kind) weight u v)
    (record { tail = a; head = b; kink = omega arith; low = tt; high = tt })

-- the arc of a proper edge
proper_near : (n : ℕ) (e : Edge) → T (proper_edge n e) → T (near (n + 1) (edge_arc e))
proper_near n e t =
    let p = edge_parts n e t in
    edge_near (n + 1) e.kind e.weight e.upper e.lower (omega (arith, p.upper)) (omega (arith, p.lower)) p.weight

-- the arc of a small maximum separation
maximum_near : (n maximum v : ℕ) → suc v < n → maximum < kink_zero → T (near n (maximum_arc maximum v))
maximum_near n zero v a h =
    parts_near n (maximum_arc 0 v) (record { tail = omega arith; head = a; kink = omega arith; low = tt; high = tt })
maximum_near n (suc maximum) v a h = bound_near n v (suc v) (pos (suc maximum)) (omega arith) a h

-- the arcs of a proper pair
pair_near : (n : ℕ) (x : Pair) → T (proper_pair n x) → T (all (near (n + 1)) (separation_arcs x))
pair_near n x t =
    let small-minimum : Bool = leb x.minimum max_separation in
    let small-maximum : Bool = leb x.maximum max_separation in
    let next-in : Bool = ltb (suc x.left) n in
    let low : Bool = leb 1 x.minimum && small-minimum in
    let high : Bool = small-maximum && not_crossed x.minimum x.maximum in
    let right : suc x.left < n = ltb→lt (suc x.left) n (and_left next-in (low && high) t) in
    let limits : T (low && high) = and_right next-in (low && high) t in
    let minimum : x.minimum ≤ max_separation = leb→le x.minimum max_separation (and_right (leb 1 x.minimum) small-minimum (and_left low high limits)) in
    let maximum : x.maximum ≤ max_separation = leb→le x.maximum max_separation (and_left small-maximum (not_crossed x.minimum x.maximum) (and_right low high limits)) in
    let one : Arc = minimum_arc x in
    let other : Arc = maximum_arc x.maximum x.left in
    and_both (near (n + 1) one) (all (near (n + 1)) (other ∷ []))
    (bound_near (n + 1) (suc x.left) x.left (neg_ℤ (pos x.minimum)) (omega arith) (omega arith) (omega (arith, size_neg (pos x.minimum))))
    (and_both (near (n + 1) other) (all (near (n + 1)) []) (maximum_near (n + 1) x.maximum x.left (omega arith) (omega arith)) tt)

-- the arcs of a layer of proper pairs
layer_near : (width n : ℕ) (l : Layer) → width < kink_zero → l.first + length l.pairs ≤ n
    → T (all (proper_pair n) l.pairs) → T (all (near (n + 1)) (layer_arcs width n l))
layer_near width n l h k t =
    let left : Arc = upper_bound l.first n (pos 0) in
    let right : Arc = upper_bound n (l.first + length l.pairs) (pos width) in
    and_both (near (n + 1) left) (all (near (n + 1)) (flat_map separation_arcs l.pairs ++ right ∷ []))
    (bound_near (n + 1) l.first n (pos 0) (omega arith) (omega arith) (omega arith))
    (rw (all_append (near (n + 1)) (flat_map separation_arcs l.pairs) (right ∷ []), all_flat (near (n + 1)) separation_arcs l.pairs)
    (and_both (all (λ x. all (near (n + 1)) (separation_arcs x)) l.pairs) (all (near (n + 1)) (right ∷ []))
    (all_map (proper_pair n) (λ x. all (near (n + 1)) (separation_arcs x)) (pair_near n) l.pairs t)
    (and_both (near (n + 1) right) (all (near (n + 1)) []) (bound_near (n + 1) n (l.first + length l.pairs) (pos width) (omega arith) (omega arith) h) tt)))

-- first nodes never fall
first_nodes_le : (k v : ℕ) (s : List ℕ) → v ≤ get_or (first_nodes k v s) k 0
first_nodes_le zero v s = omega arith
first_nodes_le (suc k) v s = omega (arith, first_nodes_le k (v + get_or s nodes_at 0) (next_layer s))

-- the arcs of layers of proper pairs
layers_near : (width n k v : ℕ) (s : List ℕ) → width < kink_zero → get_or (first_nodes k v s) k 0 ≤ n
    → T (all (λ l. all (proper_pair n) l.pairs) (layers_of k v s)) → T (all (λ l. all (near (n + 1)) (layer_arcs width n l)) (layers_of k v s))
layers_near width n zero v s h e t = tt
layers_near width n (suc k) v s h e t =
    let c : ℕ = get_or s nodes_at 0 in
    let l : Layer = record { first = v; pairs = pairs_of (c - 1) v (drop separations_at s) } in
    let ls : List Layer = layers_of k (v + c) (next_layer s) in
    let here : Bool = all (proper_pair n) l.pairs in
    let rest : Bool = all (λ l. all (proper_pair n) l.pairs) ls in
    and_both (all (near (n + 1)) (layer_arcs width n l)) (all (λ l. all (near (n + 1)) (layer_arcs width n l)) ls)
    (layer_near width n l h (omega (arith, length_pairs (c - 1) v (drop separations_at s), first_nodes_le k (v + c) (next_layer s))) (and_left here rest t))
    (layers_near width n k (v + c) (next_layer s) h e (and_right here rest t))

-- the arcs of a good sheet
pub network_near : (s : List ℕ) → Proper (sheet_of s) → T (all (near ((sheet_of s).nodes + 1)) (network (sheet_of s)).arcs)
unfolding network sheet_of
network_near s proper =
    let S : Sheet = sheet_of s in
    let arcs : Layer → List Arc = layer_arcs S.width S.nodes in
    let ts : List Edge = traces S.edges in
    let here : Arc → Bool = near (S.nodes + 1) in
    rw (all_append here (map edge_arc ts) (flat_map arcs S.layers), all_image here edge_arc ts, all_flat here arcs S.layers)
    (and_both (all (λ e. here (edge_arc e)) ts) (all (λ l. all here (arcs l)) S.layers)
    (all_map (proper_edge S.nodes) (λ e. here (edge_arc e)) (proper_near S.nodes) ts (proper_traces S proper))
    (layers_near S.width S.nodes (get_or s layers_at 0) 0 (drop first_layer_at s) (omega (arith, proper.width)) (omega arith) proper.pairs))

-- so they are storable
pub network_storable : (s : List ℕ) → Proper (sheet_of s) → T (all storable (network (sheet_of s)).arcs)
network_storable s proper =
    all_map (near ((sheet_of s).nodes + 1)) storable (near_storable ((sheet_of s).nodes + 1)) (network (sheet_of s)).arcs (network_near s proper)
