-- Every drawing of a good sheet has a coordinate file, which is written and read back: minimum separations of at least 1 make the
-- coordinates of a layer rise, and the width bounds them. Drawings of one sheet with one file are the same places.
use Prim.Native.Nat.{ℕ, zero, suc, ◌+◌, ◌-◌, ◌≤◌, ◌<◌, min, zero-le}
use Rattle.std.specs.Prelude.{◌≡◌, refl, T, length, take, drop}
use Rattle.std.proofs.Common.{sym, ◌∙◌, ap, ap₂, arith, length-drop, take-append-drop, drop_of_length-le, length-take-le, drop-cons, take_at, drop_at}
use mathlib.Core.List.{List, [], ◌∷◌, ◌++◌}
use Rattle.std.proofs.Math.ListN.{get_or}
use Rattle.std.proofs.Math.Seq.{drop-drop}
use Rattle.network.specs.Sums.{all}
use Rattle.network.specs.laws.Tests.{and_left, and_right}
use Rattle.leb128.specs.Grammar.{Grammar, Accepts}
use Rattle.leb128.specs.Grammar.Accepts.{nil, one}
use Rattle.leb128.specs.Number.{encode}
use Rattle.leb128.specs.Format.{held, encoded}
use Rattle.leb128.specs.Format.Result.{elements}
use Rattle.leb128.specs.laws.EachNumber.{within_inside}
use Rattle.sheet.specs.Limits.{max_layers, max_layer_nodes, max_nodes, max_coordinate}
use Rattle.sheet.specs.Layout.{layers_at, first_layer_at, nodes_at, separations_at, separation_stride, minimum_at, maximum_at}
use Rattle.sheet.specs.Layout.{next_layer, nodes_of, node_count}
use Rattle.sheet.specs.Grammar.{sheet}
use Rattle.sheet.specs.Coordinates.{right_nodes, layer_coordinates, coordinates}
use Rattle.sheet.specs.Reading.{read_coordinates, write_coordinates}
use Rattle.sheet.specs.laws.Sheets.{good_layout}
use Rattle.sheet.proofs.laws.Coordinates.{accepted_written, read_written}
use Rattle.drawing.specs.Sheet.{Pair, Layer, pairs_of, layers_of, sheet_of}
use Rattle.drawing.specs.Drawing.{coordinate, separated, Drawing}
use Rattle.drawing.specs.CoordinateFile.{layer_places, file_numbers, file_bytes}
use Rattle.drawing.specs.laws.Good.{GoodPairs, GoodLayers}
use Rattle.drawing.specs.laws.GoodNumbers.{accepts_good}
use Rattle.drawing.proofs.laws.Proper.{nodes_are}
use Rattle.drawing.proofs.laws.SameDrawings.{inside_at, separated_least}

-- places that no coordinate of a file passes
module _ (p : List ℕ) (inside : (v : ℕ) → coordinate p v ≤ max_coordinate) where
  -- m nodes right of node v, with the separations that t starts with
  right_accepted : (m v : ℕ) (t : List ℕ) {next : Grammar} {rest : List ℕ} → v + m < length p → GoodPairs m t
      → T (all (separated p) (pairs_of m v t)) → Accepts next rest
      → Accepts (right_nodes m (coordinate p v) next) (take m (drop (suc v) p) ++ rest)
  unfolding right_nodes
  right_accepted zero v t h g apart a = a
  right_accepted (suc m) v t h g apart a =
      let x : Pair = record { left = v; minimum = get_or t minimum_at 0; maximum = get_or t maximum_at 0 } in
      let others : List Pair = pairs_of m (suc v) (drop separation_stride t) in
      let rises = separated_least p x (and_left (separated p x) (all (separated p) others) apart) in
      rw (drop-cons p (suc v) 0 (omega arith))
      (one
      (within_inside (coordinate p v + 1) max_coordinate (coordinate p (suc v)) (omega (arith, g.0.minimum.0)) (inside (suc v)))
      (right_accepted m (suc v) (drop separation_stride t) (omega arith) g.1
      (and_right (separated p x) (all (separated p) others) apart) a))

  -- the first of some nodes from v on
  first_place : (c v : ℕ) → 1 ≤ c → v < length p → take c (drop v p) ≡ coordinate p v ∷ take (c - 1) (drop (suc v) p)
  first_place zero v h k = absurd (omega arith)
  first_place (suc m) v h k = let less : suc m - 1 ≡ m = omega arith in rw (less, drop-cons p v 0 k)

  -- k layers from node v on, of n nodes in all
  layers_accepted : (n k v room : ℕ) (s : List ℕ) → n ≤ length p → n ≤ v + room → GoodLayers n k v s
      → T (all (λ l. all (separated p) l.pairs) (layers_of k v s)) → Accepts (layer_coordinates k room) (layer_places k s (drop v p))
  unfolding layer_coordinates layer_places
  layers_accepted n zero v room s h r g apart = nil
  layers_accepted n (suc k) v room s h r g apart =
      let c : ℕ = get_or s nodes_at 0 in
      let good = g.0 in
      let pairs : List Pair = pairs_of (c - 1) v (drop separations_at s) in
      let others : List Layer = layers_of k (v + c) (next_layer s) in
      rw (first_place c v good.some (omega (arith, good.some, good.room)), drop-drop c v p)
      (one (within_inside 1 (min max_layer_nodes room) c good.some (omega (arith, good.few, good.room)))
      (one (within_inside 0 max_coordinate (coordinate p v) zero-le (inside v))
      (right_accepted (c - 1) v (drop separations_at s) (omega (arith, good.some, good.room)) good.pairs
      (and_left (all (separated p) pairs) (all (λ l. all (separated p) l.pairs) others) apart)
      (layers_accepted n k (v + c) (room - c) (next_layer s) h (omega (arith, good.room)) g.1
      (and_right (all (separated p) pairs) (all (λ l. all (separated p) l.pairs) others) apart)))))

module _ (s p : List ℕ) (a : Accepts sheet s) (d : Drawing (sheet_of s) p) where
  -- the list of a drawing of a good sheet is good
  pub drawing_file : Accepts coordinates (file_numbers s p)
  unfolding sheet_of coordinates file_numbers
  drawing_file =
      let k : ℕ = get_or s layers_at 0 in
      let n : ℕ = node_count s in
      let g = accepts_good n (omega arith) a in
      let l = good_layout s a in
      let inside : (v : ℕ) → coordinate p v ≤ max_coordinate =
      λ v. omega (arith, g.width, inside_at (sheet_of s).width p d.inside v) in
      one (within_inside 1 max_layers k l.layer_count.0 l.layer_count.1)
      (layers_accepted p inside n k 0 max_nodes (drop first_layer_at s)
      (omega (arith, d.size, nodes_are s)) (omega (arith, l.nodes)) g.layers d.separations)

  -- so it is written, as the file's bytes
  pub file_written : write_coordinates (file_numbers s p) ≡ elements (file_bytes s p)
  unfolding file_bytes
  file_written = accepted_written (file_numbers s p) drawing_file

  -- and they are read back as the list
  pub file_read : read_coordinates (file_bytes s p) ≡ elements (file_numbers s p)
  file_read = read_written (file_numbers s p) (file_bytes s p) file_written

-- the places of k layers are told by their numbers
same_places : (k : ℕ) (s p q : List ℕ) → length p ≡ nodes_of k s → length q ≡ nodes_of k s → layer_places k s p ≡ layer_places k s q
    → p ≡ q
unfolding layer_places
same_places zero s p q h i e = drop_of_length-le p {i = 0} (omega arith) ∙ sym (drop_of_length-le q {i = 0} (omega arith))
same_places (suc k) s p q h i e =
    let c : ℕ = get_or s nodes_at 0 in
    let below : (r : List ℕ) → List ℕ = λ r. layer_places k (next_layer s) (drop c r) in
    let in_p = length-take-le c p (omega arith) in
    let in-q = length-take-le c q (omega arith) in
    let behind : take c p ++ below p ≡ take c q ++ below q = ap (drop 1) e in
    let first : take c p ≡ take c q =
    sym (take_at (take c p) (below p) c in_p) ∙ ap (take c) behind ∙ take_at (take c q) (below q) c in-q in
    let others : below p ≡ below q =
    sym (drop_at (take c p) (below p) c in_p) ∙ ap (drop c) behind ∙ drop_at (take c q) (below q) c in-q in
    sym (take-append-drop c p)
    ∙ ap₂ ◌++◌ first
    (same_places k (next_layer s) (drop c p) (drop c q) (omega (arith, length-drop c p)) (omega (arith, length-drop c q)) others)
    ∙ take-append-drop c q

-- drawings of a good sheet with the same file are the same places
pub file_places : (s p q : List ℕ) → Accepts sheet s → Drawing (sheet_of s) p → Drawing (sheet_of s) q → file_bytes s p ≡ file_bytes s q
    → p ≡ q
unfolding file_numbers
file_places s p q a d e same =
    let read : elements (file_numbers s p) ≡ elements (file_numbers s q) =
    sym (file_read s p a d) ∙ ap read_coordinates same ∙ file_read s q a e in
    same_places (get_or s layers_at 0) (drop first_layer_at s) p q (d.size ∙ nodes_are s) (e.size ∙ nodes_are s) (cc)

-- a file: two nodes at 0 and 1, and below them one at 0
example_file : file_bytes (5 ∷ 2 ∷ 2 ∷ 1 ∷ 0 ∷ 1 ∷ 0 ∷ []) (0 ∷ 1 ∷ 0 ∷ [])
    ≡ 0x53 ∷ 0x44 ∷ 0x31 ∷ 0x02 ∷ 0x02 ∷ 0x00 ∷ 0x01 ∷ 0x01 ∷ 0x00 ∷ []
unfolding encode held encoded right_nodes layer_coordinates coordinates layer_places file_numbers file_bytes
example_file = refl
