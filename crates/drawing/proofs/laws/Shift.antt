-- Source 004's assignments are the drawings up to a shift, with the same total: subtract the least coordinate.
use Rattle.std.specs.Prelude.{◌≡◌, refl, List, [], ◌∷◌, map, Bool, ◌&&◌, ltb, leb, eqb, length, get_or, neg_ℤ, ◌+ℤ◌, ◌-ℤ◌, nat_abs, ◌≤ℤ◌}
use Rattle.std.proofs.Common.{sym, ◌∙◌, ap₂, le_of_suc-le-suc, not-suc-le-zero, ltb→lt, leb→le}
use Rattle.std.proofs.Math.Path.{ap, subst, fun_ext}
use Prim.Native.Nat.{ℕ, zero, suc, ◌+◌, ◌-◌, ◌*◌, ◌≤◌, ◌<◌, zero-le}
use native.Mathlib.Omega.{arith}
use Rattle.std.proofs.Math.Dec.{T, le→leb, eqb_refl}
use Rattle.std.proofs.Math.ListN.{length-map}
use Rattle.std.proofs.Math.IntN.{ℤ, pos}
use Rattle.std.specs.Int.Signed.{le_z, lt_z, le_z_yes, lt_z_no, ≤ℤ_refl}
use Rattle.network.specs.laws.IntegerParts.{le_parts, parts_le, sum_parts, up_neg, down_neg, min_parts}
use Rattle.network.specs.Integers.{down, up, gap}
use Rattle.network.specs.laws.Integers.{gap_is, eqZ→eq}
use Rattle.network.specs.laws.Sizes.{size_parts}
use Rattle.network.specs.Sums.{sumℕ, all}
use Rattle.network.specs.laws.Tests.{not_not, and_left, and_right, and_both, all_map₂, all_ext}
use Rattle.network.specs.laws.Sums.{sumℕ_ext}
use Rattle.network.specs.Network.{potential, integers}
use Rattle.drawing.specs.Assignment.{least_of, greatest_of, extent, within_maximumZ, separatedZ, alignedZ}
use Rattle.drawing.specs.Assignment.{edge_alignedZ, Assignment, edge_lengthZ, weighted_lengthZ, total_lengthZ, shifted}
use Rattle.network.specs.laws.UpperBounds.{integer_potential}
use Rattle.drawing.specs.laws.Extents.{least_le, le_greatest, least_is, greatest_is}
use Rattle.drawing.specs.Sheet.{Pair, Edge, Sheet}
use Rattle.drawing.specs.Traces.{traces}
use Rattle.drawing.specs.Drawing.{coordinate, within_maximum, separated, aligned}
use Rattle.drawing.specs.Drawing.{edge_aligned, Drawing, edge_length, weighted_length, total_length}
use Rattle.drawing.proofs.laws.SameDrawings.{inside_at, at_inside}
use Rattle.drawing.proofs.laws.ProperEdges.{edge_parts, proper_traces}
use Rattle.sheet.specs.Limits.{max_separation}
use Rattle.drawing.specs.Proper.{not_crossed, proper_edge, proper_pair, Proper}

-- an element of a mapped list, where it is there
mapped : {A B : Type 0} (f : A → B) (xs : List A) (d : A) (e : B) (v : ℕ) → v < length xs → get_or (map f xs) v e ≡ f (get_or xs v d)
mapped f [] d e v h = absurd (not-suc-le-zero h)
mapped f (x ∷ xs) d e zero h = refl
mapped f (x ∷ xs) d e (suc v) h = mapped f xs d e v (le_of_suc-le-suc h)

module _ (x : List ℤ) where
  -- a coordinate is the least one and the shifted one together, as an equation of natural numbers
  shift_parts : (v : ℕ) → v < length x
      → up (potential x v) + down (least_of x) ≡ down (potential x v) + (up (least_of x) + coordinate (shifted x) v)
  unfolding up down
  shift_parts v h =
      let m : ℤ = least_of x in
      let k : ℕ = gap m (potential x v) in
      let e : potential x v ≡ m +ℤ pos k = gap_is (least_le x v h) in
      omega (arith, ap up e, ap down e, sum_parts m (pos k), mapped (gap m) x (pos 0) 0 v h)

  -- two nodes u and v
  module _ (u v : ℕ) (hu : u < length x) (hv : v < length x) where
    -- a shift keeps a minimum separation
    shift_minimum : (d : ℕ) → T (le_z (potential x u +ℤ pos d) (potential x v))
        → T (leb (coordinate (shifted x) u + d) (coordinate (shifted x) v))
    unfolding up down
    shift_minimum d t = le→leb (coordinate (shifted x) u + d) (coordinate (shifted x) v)
        (omega (arith, le_parts {a = potential x u +ℤ pos d} {b = potential x v} (le_z_yes t), sum_parts (potential x u) (pos d), shift_parts u hu, shift_parts v hv))

    -- a shift keeps a maximum separation, where one is set
    shift_maximum : (maximum : ℕ) → T (within_maximumZ maximum (potential x u) (potential x v))
        → T (within_maximum maximum (coordinate (shifted x) u) (coordinate (shifted x) v))
    unfolding up down
    shift_maximum zero t = tt
    shift_maximum (suc maximum) t =
        let within : potential x v ≤ℤ (potential x u +ℤ pos (suc maximum)) = le_z_yes t in
        le→leb (coordinate (shifted x) v) (coordinate (shifted x) u + suc maximum)
        (omega (arith, le_parts within, sum_parts (potential x u) (pos (suc maximum)), shift_parts u hu, shift_parts v hv))

    -- a shift keeps a straight edge straight
    shift_aligned : (kind : ℕ) → T (alignedZ kind (potential x u) (potential x v))
        → T (aligned kind (coordinate (shifted x) u) (coordinate (shifted x) v))
    shift_aligned zero t = tt
    shift_aligned (suc kind) t =
        let e : potential x u ≡ potential x v = eqZ→eq (potential x u) (potential x v) t in
        subst (λ (n : ℕ). T (eqb (coordinate (shifted x) u) n)) (omega (arith, ap up e, ap down e, shift_parts u hu, shift_parts v hv)) (eqb_refl (coordinate (shifted x) u))

    -- a shift keeps the length of an edge
    shift_length : (coordinate (shifted x) v - coordinate (shifted x) u) + (coordinate (shifted x) u - coordinate (shifted x) v) ≡ nat_abs (potential x v -ℤ potential x u)
    shift_length = omega (
      arith,
      size_parts (potential x v -ℤ potential x u),
      min_parts (potential x v -ℤ potential x u),
      sum_parts (potential x v) (neg_ℤ (potential x u)),
      up_neg (potential x u),
      down_neg (potential x u),
      shift_parts u hu,
      shift_parts v hv,
    )

  -- where the extent is at most w, every shifted coordinate is
  shift_inside : (w : ℕ) → extent x ≤ℤ pos w → (v : ℕ) → v < length x → coordinate (shifted x) v ≤ w
  unfolding up down
  shift_inside w h v l = omega (
    arith,
    le_parts h,
    le_parts (le_greatest x v l),
    sum_parts (greatest_of x) (neg_ℤ (least_of x)),
    up_neg (least_of x),
    down_neg (least_of x),
    shift_parts v l,
  )

-- what stands at least 1 further right is greater
less : (a b : ℤ) (k : ℕ) → 1 ≤ k → T (le_z (a +ℤ pos k) b) → T (lt_z a b)
unfolding up down
less a b k h t =
    not_not (lt_z a b)
    (λ n. omega
    (arith, le_parts {a = b} {b = a} (lt_z_no n), le_parts {a = a +ℤ pos k} {b = b} (le_z_yes t), sum_parts a (pos k)))

module _ (S : Sheet) (proper : Proper S) (x : List ℤ) (a : Assignment S x) where
  -- a node has a coordinate
  inside : (v : ℕ) → T (ltb v S.nodes) → v < length x
  inside v t = omega (arith, ltb→lt v S.nodes t, a.size)

  -- the two ends of an edge have coordinates
  ends : (e : Edge) → T (proper_edge S.nodes e) → (e.upper < length x) × (e.lower < length x)
  ends e t =
      let p = edge_parts S.nodes e t in
      (omega (arith, p.upper, a.size), omega (arith, p.lower, a.size))

  -- a shift keeps the separations of a pair
  separated_shifted : (n : Pair) → T (proper_pair S.nodes n) → T (separatedZ x n) → T (separated (shifted x) n)
  separated_shifted n i t =
      let p : List ℕ = shifted x in
      let l : ℕ = n.left in
      let limits : Bool = (leb 1 n.minimum && leb n.minimum max_separation) && (leb n.maximum max_separation && not_crossed n.minimum n.maximum) in
      let hr : suc l < length x = inside (suc l) (and_left (ltb (suc l) S.nodes) limits i) in
      let hl : l < length x = omega arith in
      let minimum : Bool = le_z (potential x l +ℤ pos n.minimum) (potential x (suc l)) in
      let maximum : Bool = within_maximumZ n.maximum (potential x l) (potential x (suc l)) in
      and_both (leb (coordinate p l + n.minimum) (coordinate p (suc l))) (within_maximum n.maximum (coordinate p l) (coordinate p (suc l)))
      (shift_minimum x l (suc l) hl hr n.minimum (and_left minimum maximum t)) (shift_maximum x l (suc l) hl hr n.maximum (and_right minimum maximum t))

  -- a shifted assignment is a drawing
  pub shifted_drawing : Drawing S (shifted x)
  shifted_drawing = record {
    size = length-map x (gap (least_of x)) ∙ a.size;
    inside =
        at_inside S.width (shifted x)
        (λ v h. shift_inside x S.width a.narrow v (rw (length-map x (gap (least_of x))) at h));
    separations = all_map₂ (λ l. all (proper_pair S.nodes) l.pairs) (λ l. all (separatedZ x) l.pairs) (λ l. all (separated (shifted x)) l.pairs)
        (λ l. all_map₂ (proper_pair S.nodes) (separatedZ x) (separated (shifted x)) separated_shifted l.pairs) S.layers proper.pairs a.separations;
    straight = all_map₂ (proper_edge S.nodes) (edge_alignedZ x) (edge_aligned (shifted x))
        (λ e i. shift_aligned x e.upper e.lower (ends e i).0 (ends e i).1 e.kind) S.edges proper.ends a.straight;
  }

  -- with the same total
  pub shifted_total : total_length S (shifted x) ≡ total_lengthZ S x
  unfolding total_length total_lengthZ
  shifted_total = sumℕ_ext (proper_edge S.nodes) (weighted_length (shifted x)) (weighted_lengthZ x)
      (λ e i. ap (λ (n : ℕ). e.weight * n) (shift_length x e.upper e.lower (ends e i).0 (ends e i).1))
      (traces S.edges) (proper_traces S proper)

  -- source 004's order: x(u) < x(v) for a node u and its right neighbour v
  pub ordered : T (all (λ l. all (λ n. lt_z (potential x n.left) (potential x (suc n.left))) l.pairs) S.layers)
  ordered = all_map₂ (λ l. all (proper_pair S.nodes) l.pairs) (λ l. all (separatedZ x) l.pairs) (λ l. all (λ n. lt_z (potential x n.left) (potential x (suc n.left))) l.pairs)
      (λ l. all_map₂ (proper_pair S.nodes) (separatedZ x) (λ n. lt_z (potential x n.left) (potential x (suc n.left))) before l.pairs) S.layers proper.pairs a.separations
    where
      -- a pair's left node is left of its right one, as a minimum separation is 1 at least
      before : (n : Pair) → T (proper_pair S.nodes n) → T (separatedZ x n)
          → T (lt_z (potential x n.left) (potential x (suc n.left)))
      before n i t =
          let l : ℤ = potential x n.left in
          let r : ℤ = potential x (suc n.left) in
          let low : Bool = leb 1 n.minimum && leb n.minimum max_separation in
          let high : Bool = leb n.maximum max_separation && not_crossed n.minimum n.maximum in
          let limits : T (low && high) = and_right (ltb (suc n.left) S.nodes) (low && high) i in
          let positive : T (leb 1 n.minimum) = and_left (leb 1 n.minimum) (leb n.minimum max_separation) (and_left low high limits) in
          less l r n.minimum (leb→le 1 n.minimum positive)
          (and_left (le_z (l +ℤ pos n.minimum) r) (within_maximumZ n.maximum l r) t)

module _ (p : List ℕ) where
  -- a drawing as integers: the test of a minimum separation
  minimum_is : (d u v : ℕ)
      → le_z (potential (integers p) u +ℤ pos d) (potential (integers p) v) ≡ leb (coordinate p u + d) (coordinate p v)
  minimum_is d u v = rw (integer_potential p u, integer_potential p v)

  -- the test of a maximum separation
  maximum_is : (maximum u v : ℕ)
      → within_maximumZ maximum (potential (integers p) u) (potential (integers p) v) ≡ within_maximum maximum (coordinate p u) (coordinate p v)
  maximum_is zero u v = refl
  maximum_is (suc maximum) u v = rw (integer_potential p u, integer_potential p v)

  -- the test of a straight edge
  aligned_is : (kind u v : ℕ)
      → alignedZ kind (potential (integers p) u) (potential (integers p) v) ≡ aligned kind (coordinate p u) (coordinate p v)
  aligned_is zero u v = refl
  aligned_is (suc kind) u v = rw (integer_potential p u, integer_potential p v)

  -- the test of a pair
  separated_is : (n : Pair) → separatedZ (integers p) n ≡ separated p n
  separated_is n =
      ap₂ ◌&&◌ (minimum_is n.minimum n.left (suc n.left)) (maximum_is n.maximum n.left (suc n.left))

  -- the length of an edge
  length_is : (e : Edge) → edge_lengthZ (integers p) e ≡ edge_length p e
  unfolding up down
  length_is e = rw (integer_potential p e.lower, integer_potential p e.upper) (omega (
    arith,
    size_parts (pos (coordinate p e.lower) -ℤ pos (coordinate p e.upper)),
    min_parts (pos (coordinate p e.lower) -ℤ pos (coordinate p e.upper)),
    sum_parts (pos (coordinate p e.lower)) (neg_ℤ (pos (coordinate p e.upper))),
    up_neg (pos (coordinate p e.upper)),
    down_neg (pos (coordinate p e.upper)),
  ))

module _ (S : Sheet) (p : List ℕ) where
  -- a drawing is an assignment
  pub drawing_assignment : Drawing S p → Assignment S (integers p)
  unfolding up down
  drawing_assignment d = record {
    size = length-map p pos ∙ d.size;
    separations = subst T
        (sym (all_ext (λ l. all (separatedZ (integers p)) l.pairs) (λ l. all (separated p) l.pairs)
        (λ l. all_ext (separatedZ (integers p)) (separated p) (separated_is p) l.pairs) S.layers))
        d.separations;
    straight =
        subst T
        (sym
        (all_ext (edge_alignedZ (integers p)) (edge_aligned p) (λ e. aligned_is p e.kind e.upper e.lower)
        S.edges))
        d.straight;
    narrow =
        let W : ℤ = pos S.width in
        let least : ℤ = least_of (integers p) in
        let greatest : ℤ = greatest_of (integers p) in
        let natural : (v : ℕ) → pos 0 ≤ℤ potential (integers p) v = λ v. rw (integer_potential p v) (le_z_yes (le→leb 0 (coordinate p v) zero-le)) in
        let fits : (v : ℕ) → coordinate p v ≤ S.width = inside_at S.width p d.inside in
        let within : (v : ℕ) → potential (integers p) v ≤ℤ W = λ v. rw (integer_potential p v) (le_z_yes (le→leb (coordinate p v) S.width (fits v))) in
        let low : pos 0 ≤ℤ least = least_is (λ z. pos 0 ≤ℤ z) (≤ℤ_refl (pos 0)) (integers p) natural in
        let high : greatest ≤ℤ W = greatest_is (λ z. z ≤ℤ W) (le_z_yes (le→leb 0 S.width zero-le)) (integers p) within in
        parts_le (extent (integers p)) W (omega (arith, le_parts low, le_parts high, sum_parts greatest (neg_ℤ least), up_neg least, down_neg least));
  }

  -- with the same total
  pub drawing_length : total_lengthZ S (integers p) ≡ total_length S p
  unfolding total_length total_lengthZ
  drawing_length =
      ap (λ (f : Edge → ℕ). sumℕ f (traces S.edges)) (fun_ext (λ e. ap (λ (n : ℕ). e.weight * n) (length_is p e)))
