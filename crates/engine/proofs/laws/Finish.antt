-- What is written at the end is what the contract says: the leftmost least potentials are coordinates, the flows a list whose
-- bound is the total, by duality; and the code's total of these coordinates is theirs.
use Rattle.std.specs.Prelude.{Ok}
use Prim.Native.Nat.{ℕ, ◌+◌, ◌-◌, ◌*◌, ◌≤◌, ◌<◌, min}
use mathlib.Core.Path.{◌≡◌, refl, sym, ◌∙◌, ap, ap₂, subst}
use mathlib.Core.List.{List, ◌++◌, map}
use native.Mathlib.Nat.{add-zero}
use native.Mathlib.Omega.{arith}
use lib.Dec.{T}
use lib.IntN.{ℤ, pos, ◌-ℤ◌}
use lib.ListN.{length, get_or, take, drop, length-map, length-append, length-drop, get_or-map}
use lib.Seq.{sets, take_at, drop_at, ext_get_or}
use Rattle.leb128.specs.laws.Storing.{sets_front}
use Rattle.network.specs.Sums.{upto}
use Rattle.network.specs.Network.{Network, integers, LeftmostLeast, total}
use Rattle.network.specs.Flows.{rules, complementary}
use Rattle.network.specs.Packed.{stride}
use Rattle.network.specs.Net.{at}
use Rattle.network.specs.Integers.{down, up}
use Rattle.network.specs.laws.Indexed.{upto_length, upto_in}
use Rattle.network.specs.laws.IntegerParts.{less_parts}
use Rattle.network.proofs.laws.Duality.{tight_equal}
use Rattle.sheet.specs.Limits.{max_width}
use Rattle.drawing.specs.Sheet.{Sheet, sheet_of}
use Rattle.drawing.specs.Drawing.{coordinate, LeftmostDrawing, total_length}
use Rattle.drawing.specs.Certificate.{certificate_size, meets_rules, bound}
use Rattle.drawing.specs.Arcs.{network}
use Rattle.drawing.proofs.laws.Hanging.{solution_drawing}
use Rattle.drawing.proofs.laws.SameDrawings.{inside_at, same_total, leftmost_drawing}
use Rattle.drawing.proofs.laws.SameRules.{same_rules, same_bound}
use Rattle.network.specs.Nodes.{node_stride, potential_zero, potentials}
use Rattle.circulation.specs.Solutions.{flows_of, potentials_of}
use Rattle.circulation.specs.laws.Columns.{column_at}
use Rattle.leb128.specs.Words.{u32_most}
use Rattle.totals.specs.Lengths.{lengths_of}
use Rattle.totals.specs.laws.SheetLengths.{drawing_total}
use Rattle.arcs.specs.declared.Counts.{Counts}
use Rattle.arcs.specs.Held.{Holds}
use Rattle.arcs.specs.laws.HeldArcs.{proper, size_is, edges_front}
use Rattle.arcs.specs.laws.HeldSheets.{bound_held}
use Rattle.engine.specs.Draws.{Returns}
use Rattle.engine.proofs.laws.Fits.{meant_is}
use Rattle.engine.specs.inside.Results.{place_at, number_at, Places, Flows}
use Rattle.engine.specs.inside.Stages.{FillsSheet, Settled}

-- a natural number that is a difference
natural_difference : (k b z : ℕ) → pos k ≡ pos b -ℤ pos z → b ≡ z + k
unfolding up down
natural_difference k b z e = omega (arith, less_parts b z, ap up e, ap down e)

module _ {f a : List ℕ} {c : Counts} (h : Holds f a c) (flows nodes : List ℕ) (flows_are : length flows ≡ c.arcs)
    (nodes_are : length nodes ≡ node_stride * (c.nodes + 1)) (s : Settled a c flows nodes) where
  -- the sheet
  abbrev S : Sheet
  S = sheet_of h.numbers

  -- the potentials that the solver leaves
  abbrev q : List ℤ
  q = potentials_of (c.nodes + 1) (at (potentials nodes))

  -- the flows that it leaves
  abbrev y : List ℤ
  y = flows_of c.arcs (at flows)

  -- the coordinates
  abbrev p : List ℕ
  p = map up q

  -- they are the leftmost least potentials of the sheet's network
  potentials_leftmost : LeftmostLeast (network S) q
  potentials_leftmost = subst (λ (N : Network). LeftmostLeast N q) (meant_is h) s.best

  -- which are natural numbers
  naturals : integers p ≡ q
  naturals = (solution_drawing h.numbers q potentials_leftmost.is_least.feasible).0

  -- and a drawing
  pub drawing_is : LeftmostDrawing S p
  drawing_is = leftmost_drawing h.numbers p (subst (LeftmostLeast (network S)) (sym naturals) potentials_leftmost)

  -- the potential of a node, as it is stored
  stored : (v : ℕ) → v < c.nodes → at nodes (node_stride * v) ≡ potential_zero + coordinate p v
  stored v l =
      let column : at (potentials nodes) v ≡ at nodes (node_stride * v) =
      column_at 0 nodes v (omega arith) ∙ ap (at nodes) (add-zero (node_stride * v)) in
      let same : pos (coordinate p v) ≡ pos (at (potentials nodes) v) -ℤ pos potential_zero =
      sym (get_or-map pos p v 0) ∙ ap (λ (l : List ℤ). get_or l v (pos 0)) naturals
      ∙ upto_in (pos 0) (c.nodes + 1 - 1) (λ u. pos (at (potentials nodes) u) -ℤ pos potential_zero) v (omega arith) in
      sym column ∙ natural_difference (coordinate p v) (at (potentials nodes) v) potential_zero same

  -- each coordinate is at most the width
  small : (v : ℕ) → coordinate p v ≤ max_width
  small v = omega (arith, inside_at S.width p drawing_is.is_least.candidate.inside v, (proper h).width)

  -- so the places can be read off
  places_fit : Places nodes c.nodes
  places_fit = record {
    there = omega arith;
    least = λ v l. omega (arith, stored v l);
    small = λ v l. omega (arith, stored v l, small v);
  }

  -- and the numbers of the list
  flows_fit : Flows flows
  flows_fit = record { small = λ i l. s.bounded i (omega arith) }

  -- as many coordinates as nodes
  p_size : length p ≡ c.nodes
  p_size =
      length-map q up
      ∙ upto_length (c.nodes + 1 - 1) (λ v. pos (at (potentials nodes) v) -ℤ pos potential_zero)
      ∙ omega arith

  -- as many numbers of the list as the certificate has
  y_size : length y ≡ certificate_size S
  y_size = upto_length c.arcs (number_at flows) ∙ size_is h

  -- what is written are the coordinates
  written_places : upto c.nodes (place_at nodes) ≡ p
  written_places =
      ext_get_or 0 (upto c.nodes (place_at nodes)) p (upto_length c.nodes (place_at nodes) ∙ sym p_size)
      (λ v l. each v (omega (arith, upto_length c.nodes (place_at nodes))))
    where
      each : (v : ℕ) → v < c.nodes → get_or (upto c.nodes (place_at nodes)) v 0 ≡ get_or p v 0
      each v l = upto_in 0 c.nodes (place_at nodes) v l ∙ omega (arith, stored v l)

  -- the rules are met
  rules_met : T (rules (network S) y)
  rules_met = subst (λ (N : Network). T (rules N y)) (meant_is h) s.follows_rules

  -- the list's bound is the total
  bound_is : bound S y ≡ pos (total_length S p)
  bound_is =
      let tight : T (complementary (network S) y q) = subst (λ (N : Network). T (complementary N y q)) (meant_is h) s.no_slack in
      sym (same_bound S y) ∙ sym (tight_equal (network S) y q rules_met potentials_leftmost.is_least.feasible tight)
      ∙ ap (total (network S)) (sym naturals) ∙ same_total S p drawing_is.is_least.candidate

  module _ (p₀ p' : List ℕ) (y₀ y' : List ℤ) (places_enough : c.nodes ≤ length p₀) (list_enough : c.arcs ≤ length y₀)
      (ep : p' ≡ sets p₀ 0 (upto c.nodes (place_at nodes))) (ey : y' ≡ sets y₀ 0 (upto (length flows) (number_at flows))) where
    -- the places, in front
    places_are : p' ≡ p ++ drop S.nodes p₀
    places_are =
        ep
        ∙ ap (λ (l : List ℕ). sets p₀ 0 l) written_places
        ∙ sets_front p p₀ (omega (arith, p_size))
        ∙ ap (λ (k : ℕ). p ++ drop k p₀) (p_size ∙ h.nodes_are)

    -- the list, in front
    list_is : y' ≡ y ++ drop (certificate_size S) y₀
    list_is =
        ey
        ∙ ap (λ (k : ℕ). sets y₀ 0 (upto k (number_at flows))) flows_are
        ∙ sets_front y y₀ (omega (arith, y_size, size_is h))
        ∙ ap (λ (k : ℕ). y ++ drop k y₀) y_size

    -- the front of the places
    pub front : take S.nodes p' ≡ p
    front = ap (take S.nodes) places_are ∙ take_at p (drop S.nodes p₀) S.nodes (p_size ∙ h.nodes_are)

    -- the front of the list
    numbers_front : take (certificate_size S) y' ≡ y
    numbers_front = ap (take (certificate_size S)) list_is ∙ take_at y (drop (certificate_size S) y₀) (certificate_size S) y_size

    -- what the contract says
    pub filled : FillsSheet S p₀ y₀ p' y' (Ok tt)
    filled = record {
      room = record { nodes = omega (arith, h.nodes_are); numbers = omega (arith, size_is h) };
      leftmost = subst (LeftmostDrawing S) (sym front) drawing_is;
      places_behind = ap (drop S.nodes) places_are ∙ drop_at p (drop S.nodes p₀) S.nodes (p_size ∙ h.nodes_are);
      total_is = refl;
      list_size =
          ap length list_is
          ∙ length-append y (drop (certificate_size S) y₀)
          ∙ omega (arith, y_size, length-drop (certificate_size S) y₀, size_is h);
      list_behind =
          ap (drop (certificate_size S)) list_is
          ∙ drop_at y (drop (certificate_size S) y₀) (certificate_size S) y_size;
      rules = subst (λ (l : List ℤ). T (meets_rules S l)) (sym numbers_front) (subst T (same_rules S y) rules_met);
      bound_is = ap (bound S) numbers_front ∙ bound_is ∙ ap (λ (l : List ℕ). pos (total_length S l)) (sym front);
    }

-- what is read off is so whatever sheet is held
module _ {f a : List ℕ} {c : Counts} (held : ∥ Holds f a c ∥₁) (flows nodes : List ℕ) (flows_are : length flows ≡ c.arcs)
    (nodes_are : length nodes ≡ node_stride * (c.nodes + 1)) (s : Holds f a c → Settled a c flows nodes) where
  -- the places
  pub places_held : Places nodes c.nodes
  places_held = record {
    there = bound_held held (λ h. (places_fit h flows nodes flows_are nodes_are (s h)).there);
    least = λ v l. bound_held held (λ h. (places_fit h flows nodes flows_are nodes_are (s h)).least v l);
    small = λ v l. bound_held held (λ h. (places_fit h flows nodes flows_are nodes_are (s h)).small v l);
  }

  -- the numbers of the list
  pub flows_held : Flows flows
  flows_held =
      record { small = λ i l. bound_held held (λ h. (flows_fit h flows nodes flows_are nodes_are (s h)).small i l) }

-- the total of places that are filled in
pub totalled : {f a : List ℕ} {c : Counts} (h : Holds f a c) (p₀ p : List ℕ) (y₀ y : List ℤ) (r : ℕ)
    → FillsSheet (sheet_of h.numbers) p₀ y₀ p y (Ok tt)
    → r ≡ min u32_most (lengths_of (take c.nodes p) (take (stride * c.edges) a))
    → Returns (sheet_of h.numbers) p₀ y₀ p y r
totalled {a = a} {c} h p₀ p y₀ y r filled e =
    let S : Sheet = sheet_of h.numbers in
    let same : r ≡ total_length S (take S.nodes p) =
    e
    ∙ ap₂ (λ (l k : List ℕ). min u32_most (lengths_of l k))
    (ap (λ (k : ℕ). take k p) h.nodes_are)
    (edges_front h)
    ∙ drawing_total S (take S.nodes p) (proper h) filled.leftmost.is_least.candidate in
    subst (Returns S p₀ y₀ p y) (sym same) filled
