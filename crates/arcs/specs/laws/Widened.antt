-- Setting the width of the packed arcs of a good sheet gives those of the sheet at that width: only right boundaries leave ground.
use Prim.Native.Nat.{ℕ, zero, suc, ◌+◌, ◌-◌, ◌/◌, ◌≤◌, ◌<◌}
use Rattle.std.specs.Prelude.{◌≡◌, cond, T, eqb, pos, length, drop}
use Rattle.std.proofs.Math.Path.{refl, ap₂}
use Rattle.std.proofs.Common.{sym, ◌∙◌, ap, ⊎_elim, arith, length-append, eq-eqb, ne_eqb}
use mathlib.Core.List.{List, [], ◌∷◌, ◌++◌, map, flat_map, map-append}
use Rattle.std.proofs.Math.ListN.{get_or}
use Rattle.std.proofs.lemmas.List.{length-map}
use Rattle.leb128.specs.Grammar.{Accepts}
use Rattle.leb128.specs.laws.Cases.{eq_or_ne}
use Rattle.sheet.specs.Limits.{max_width}
use Rattle.sheet.specs.Layout.{layers_at, first_layer_at, nodes_at, separations_at, separation_stride, next_layer}
use Rattle.sheet.specs.Grammar.{sheet}
use Rattle.network.specs.Sums.{all}
use Rattle.network.specs.Network.{Arc, upper_bound}
use Rattle.network.specs.Packed.{stride, packs, packed}
use Rattle.network.proofs.laws.PackedBack.{packs_length}
use Rattle.network.specs.laws.Tests.{and_left, and_right}
use Rattle.drawing.specs.Sheet.{Pair, Layer, Edge, Sheet, pairs_of, layers_of, sheet_of, at_width}
use Rattle.drawing.specs.Traces.{traces}
use Rattle.drawing.specs.Arcs.{edge_arc, minimum_arc, maximum_arc, separation_arcs, layer_arcs, network}
use Rattle.drawing.specs.Proper.{proper_edge}
use Rattle.drawing.specs.Widths.{with_width}
use Rattle.drawing.specs.laws.Good.{GoodLayer, GoodLayers, Good}
use Rattle.drawing.specs.laws.GoodNumbers.{accepts_good}
use Rattle.drawing.proofs.laws.Proper.{nodes_are, accepts_proper}
use Rattle.drawing.proofs.laws.ProperEdges.{edge_parts, proper_traces}
use Rattle.drawing.proofs.laws.Widths.{width_accepts, width_sheet}
use Rattle.arcs.specs.declared.Counts.{Counts}
use Rattle.arcs.specs.inside.Pieces.{pair_at, layer_at}
use Rattle.arcs.specs.Loading.{layer_firsts}
use Rattle.packed.specs.Widths.{widened_to, widened}
use Rattle.arcs.specs.laws.PackedEdges.{ends}
use Rattle.arcs.specs.Held.{Holds}

-- an arc at the width, if it leaves ground
abbrev at_kink : ℕ → ℕ → Arc → Arc
at_kink ground width a =
    record { tail = a.tail; head = a.head; kink = cond (eqb a.tail ground) (pos width) a.kink; low = a.low; high = a.high }

-- what the numbers of arcs become, with n arcs behind them
packs_to : (ground width : ℕ) (arcs : List Arc) (n : ℕ) (behind : List ℕ)
    → widened_to ground width (length arcs + n) (packs arcs ++ behind)
    ≡ packs (map (at_kink ground width) arcs) ++ widened_to ground width n behind
unfolding packs
packs_to ground width [] n behind = let none : 0 + n ≡ n = omega arith in rw none
packs_to ground width (a ∷ arcs) n behind =
    let next : suc (length arcs) + n ≡ suc (length arcs + n) = omega arith in
    ⊎_elim
    (λ (e : a.tail ≡ ground). rw (next, eq-eqb a.tail ground e, packs_to ground width arcs n behind) refl)
    (λ (e : a.tail ≡ ground → ⊥). rw (next, ne_eqb a.tail ground e, packs_to ground width arcs n behind) refl)
    (eq_or_ne a.tail ground)

-- with any numbers behind them
widened_packs : (ground width : ℕ) (arcs : List Arc) (behind : List ℕ)
    → widened ground width (packs arcs ++ behind) ≡ packs (map (at_kink ground width) arcs) ++ widened ground width behind
unfolding widened
widened_packs ground width arcs behind =
    let count : length (packs arcs ++ behind) / stride ≡ length arcs + length behind / stride =
    omega (arith, length-append (packs arcs) behind, packs_length arcs) in
    ap (λ (n : ℕ). widened_to ground width n (packs arcs ++ behind)) count ∙ packs_to ground width arcs (length behind / stride) behind

-- the arc of a maximum separation leaves the left node
maximum_tail : (maximum v : ℕ) → (maximum_arc maximum v).tail ≡ v
maximum_tail zero v = refl
maximum_tail (suc maximum) v = refl

module _ (ground width : ℕ) where
  -- an arc that leaves a node stays
  stays : (a : Arc) → a.tail < ground → at_kink ground width a ≡ a
  stays a h = rw (ne_eqb a.tail ground (λ e. omega arith)) refl

  -- the arcs of edges do
  edges_stay : (es : List Edge) → T (all (proper_edge ground) es) → map (at_kink ground width) (map edge_arc es) ≡ map edge_arc es
  edges_stay [] t = refl
  edges_stay (e ∷ es) t =
      let upper : e.upper < ground = (edge_parts ground e (and_left (proper_edge ground e) (all (proper_edge ground) es) t)).upper in
      ap₂ ◌∷◌ (stays (edge_arc e) (rw (ends e.kind e.weight e.upper e.lower).0 upper))
      (edges_stay es (and_right (proper_edge ground e) (all (proper_edge ground) es) t))

  -- the arcs of pairs do
  pairs_stay : (m v : ℕ) (s : List ℕ) (behind : List Arc) → v + m < ground
      → map (at_kink ground width) (flat_map separation_arcs (pairs_of m v s) ++ behind)
      ≡ flat_map separation_arcs (pairs_of m v s) ++ map (at_kink ground width) behind
  unfolding flat_map
  pairs_stay zero v s behind h = refl
  pairs_stay (suc m) v s behind h =
      let x : Pair = pair_at v s in
      ap₂ ◌∷◌ (stays (minimum_arc x) (omega arith))
      (ap₂ ◌∷◌ (stays (maximum_arc x.maximum v) (rw (maximum_tail x.maximum v) (omega arith)))
      (pairs_stay m (suc v) (drop separation_stride s) behind (omega arith)))

  -- a layer's right boundary gets the width
  layer_widened : (old v : ℕ) (s : List ℕ) → GoodLayer ground v s
      → map (at_kink ground width) (layer_arcs old ground (layer_at v s)) ≡ layer_arcs width ground (layer_at v s)
  layer_widened old v s g =
      let m : ℕ = get_or s nodes_at 0 - 1 in
      let xs : List Pair = pairs_of m v (drop separations_at s) in
      let right : Arc = upper_bound ground (v + length xs) (pos old) in
      let became : at_kink ground width right ≡ upper_bound ground (v + length xs) (pos width) = rw (eq-eqb ground ground refl) refl in
      ap₂ ◌∷◌ (stays (upper_bound v ground (pos 0)) (omega (arith, g.some, g.room)))
      (pairs_stay m v (drop separations_at s) (right ∷ []) (omega (arith, g.some, g.room))
      ∙ ap (λ (a : Arc). flat_map separation_arcs xs ++ a ∷ []) became)

  -- in all layers
  layers_widened : (old k v : ℕ) (s : List ℕ) → GoodLayers ground k v s
      → map (at_kink ground width) (flat_map (layer_arcs old ground) (layers_of k v s))
      ≡ flat_map (layer_arcs width ground) (layers_of k v s)
  unfolding flat_map
  layers_widened old zero v s g = refl
  layers_widened old (suc k) v s g =
      let others : List Layer = layers_of k (v + get_or s nodes_at 0) (next_layer s) in
      map-append (at_kink ground width) (layer_arcs old ground (layer_at v s)) (flat_map (layer_arcs old ground) others)
      ∙ ap₂ ◌++◌ (layer_widened old v s g.0) (layers_widened old k (v + get_or s nodes_at 0) (next_layer s) g.1)

-- the arcs of a good sheet become those of the sheet at the width
network_widened : (width : ℕ) (s : List ℕ) → Accepts sheet s
    → map (at_kink (sheet_of s).nodes width) (network (sheet_of s)).arcs ≡ (network (at_width width (sheet_of s))).arcs
unfolding network sheet_of
network_widened width s a =
    let S : Sheet = sheet_of s in
    let g : Good S.nodes s = accepts_good S.nodes (omega (arith, nodes_are s)) a in
    map-append (at_kink S.nodes width) (map edge_arc (traces S.edges)) (flat_map (layer_arcs S.width S.nodes) S.layers)
    ∙ ap₂ ◌++◌ (edges_stay S.nodes width (traces S.edges) (proper_traces S (accepts_proper s a)))
    (layers_widened S.nodes width S.width (get_or s layers_at 0) 0 (drop first_layer_at s) g.layers)

-- so do its packed arcs, whatever stands behind them
pub sheet_widened : (width : ℕ) (s : List ℕ) → Accepts sheet s → (behind : List ℕ)
    → widened (sheet_of s).nodes width (packed (network (sheet_of s)) ++ behind)
    ≡ packed (network (at_width width (sheet_of s))) ++ widened (sheet_of s).nodes width behind
unfolding packed
sheet_widened width s a behind =
    widened_packs (sheet_of s).nodes width (network (sheet_of s)).arcs behind
    ∙ ap (λ (l : List Arc). packs l ++ widened (sheet_of s).nodes width behind) (network_widened width s a)

module _ {f a : List ℕ} {c : Counts} (width : ℕ) (l : width ≤ max_width) (h : Holds f a c) where
  -- the packed arcs of a good sheet stay those of a good sheet, with the same first nodes and counts
  pub holds_width : Holds f (widened c.nodes width a) c
  holds_width =
      let S : Sheet = sheet_of h.numbers in
      let arcs : List Arc = (network S).arcs in
      let same = width_sheet width h.good in
      let became : map (at_kink S.nodes width) arcs ≡ (network (sheet_of (with_width width h.numbers))).arcs =
      network_widened width h.numbers h.good ∙ ap (λ (S : Sheet). (network S).arcs) (sym same) in
      record {
        numbers = with_width width h.numbers;
        good = width_accepts width l h.good;
        firsts_behind = h.firsts_behind;
        firsts_are = h.firsts_are ∙ ap (λ (S : Sheet). layer_firsts S ++ h.firsts_behind) (sym same);
        behind = widened S.nodes width h.behind;
        packed_are =
            ap₂ (λ (ground : ℕ) (l : List ℕ). widened ground width l) h.nodes_are h.packed_are
            ∙ sheet_widened width h.numbers h.good h.behind
            ∙ ap (λ (S : Sheet). packed (network S) ++ widened (sheet_of h.numbers).nodes width h.behind) (sym same);
        layers_are = h.layers_are ∙ ap (λ (S : Sheet). length S.layers) (sym same);
        nodes_are = h.nodes_are ∙ ap (λ (S : Sheet). S.nodes) (sym same);
        edges_are = h.edges_are ∙ ap (λ (S : Sheet). length S.edges) (sym same);
        arcs_are = h.arcs_are ∙ sym (length-map arcs (at_kink S.nodes width)) ∙ ap length became;
      }

  -- it is the sheet at that width
  pub holds_width_sheet : sheet_of holds_width.numbers ≡ at_width width (sheet_of h.numbers)
  unfolding holds_width
  holds_width_sheet = width_sheet width h.good
