-- The decision on packed arcs, part by part, and the code's total, which is the network's where the places are a drawing.
use Prim.Native.Nat.{ℕ, ◌*◌, min}
use mathlib.Core.Path.{◌≡◌, sym, ◌∙◌, ap, ap₂, subst}
use mathlib.Core.Bool.{Bool, true, false, ◌&&◌}
use mathlib.Core.List.{List}
use lib.Dec.{T}
use lib.IntN.{ℤ, pos}
use lib.ListN.{length, take, length-map}
use borrow.Author.Tests.{eq-eqb}
use Rattle.network.specs.Integers.{eqZ}
use Rattle.network.specs.Sums.{all, sum, upto}
use Rattle.network.specs.Network.{Network, integers, legal, is_feasible, total}
use Rattle.network.specs.Flows.{allowed, balanced, rules, bound_term, bound, certifies}
use Rattle.network.specs.Packed.{stride, arc_at, arcs_to, network_of, flow_at}
use Rattle.network.specs.laws.Indexed.{flows_upto}
use Rattle.drawing.specs.Sheet.{sheet_of}
use Rattle.drawing.specs.Drawing.{Drawing}
use Rattle.drawing.proofs.laws.SameDrawings.{feasible_drawing, same_total}
use Rattle.leb128.specs.Words.{u32_most}
use Rattle.totals.specs.Lengths.{lengths_of}
use Rattle.totals.specs.laws.SheetLengths.{drawing_total}
use Rattle.arcs.specs.declared.Counts.{Counts}
use Rattle.arcs.specs.Held.{Holds}
use Rattle.arcs.specs.laws.HeldArcs.{proper, network_is, edges_front}
use Rattle.checker.specs.inside.Table.{table_decision}
use mathlib.Core.Logic.{∥∥₁_elim}
use denote.Struct.Props.{≡_prop}
use Rattle.std.specs.Coded.{coded_bool}

module _ {f a : List ℕ} {c : Counts} (h : Holds f a c) (p : List ℕ) (long : length p ≡ c.nodes)
    (e : all (legal (integers p)) (arcs_to a c.arcs) ≡ true) where
  -- legal places are a drawing of the sheet
  is_drawing : Drawing (sheet_of h.numbers) p
  is_drawing = feasible_drawing h.numbers p (record {
    size = length-map p pos ∙ long ∙ ap (λ (N : Network). N.nodes) (network_is h);
    legals = subst T (sym e ∙ ap (λ (N : Network). all (legal (integers p)) N.arcs) (network_is h)) tt;
  })

  -- so the code's total is the network's
  total_is : {r : ℕ} → r ≡ min u32_most (lengths_of p (take (stride * c.edges) a))
      → pos r ≡ total (network_of a c.nodes c.arcs) (integers p)
  total_is q =
      ap pos
      (q ∙ ap (λ (l : List ℕ). min u32_most (lengths_of p l)) (edges_front h)
      ∙ drawing_total (sheet_of h.numbers) p (proper h) is_drawing)
      ∙ sym (same_total (sheet_of h.numbers) p is_drawing)
      ∙ sym (ap (λ (N : Network). total N (integers p)) (network_is h))

module _ (a : List ℕ) (c : Counts) (p : List ℕ) (y : List ℤ) (long : length p ≡ c.nodes) where
  -- every arc is legal
  abbrev legals : Bool
  legals = all (legal (integers p)) (arcs_to a c.arcs)

  -- every flow is allowed
  abbrev alloweds : Bool
  alloweds = all allowed (upto c.arcs (flow_at a y))

  -- every node is in balance
  abbrev balances : Bool
  balances = balanced c.nodes (upto c.arcs (flow_at a y))

  -- the total is the bound
  abbrev equals : Bool
  equals = eqZ (total (network_of a c.nodes c.arcs) (integers p)) (sum bound_term (upto c.arcs (flow_at a y)))

  -- the parts of the decision
  parts : table_decision a c p y ≡ (legals && ((alloweds && balances) && equals))
  unfolding certifies is_feasible rules bound
  parts = rw (flows_upto (arc_at a) y c.arcs, eq-eqb (length (integers p)) c.nodes (length-map p pos ∙ long))

  -- the code's tests, one after the other
  module _ {legal : Bool} (l : legal ≡ legals) where
    -- an arc is not legal
    pub not_legal : legal ≡ false → false ≡ table_decision a c p y
    not_legal t = sym (parts ∙ rw (sym l ∙ t))

    module _ (t : legal ≡ true) {allowed : Bool} (w : allowed ≡ alloweds) where
      -- a flow is not within its limits
      pub not_allowed : allowed ≡ false → false ≡ table_decision a c p y
      not_allowed u = sym (parts ∙ rw (sym l ∙ t, sym w ∙ u))

      module _ (u : allowed ≡ true) {balanced : Bool} (b : balanced ≡ balances) where
        -- a node is not in balance
        pub not_balanced : balanced ≡ false → false ≡ table_decision a c p y
        not_balanced v = sym (parts ∙ rw (sym l ∙ t, sym w ∙ u, sym b ∙ v))

        -- the total and the bound decide, whatever sheet is held
        pub by_bound : balanced ≡ true → {f : List ℕ} → ∥ Holds f a c ∥₁ → {r : ℕ} {z : ℤ} → r ≡ min u32_most (lengths_of p (take (stride * c.edges) a))
            → z ≡ sum bound_term (upto c.arcs (flow_at a y)) → eqZ (pos r) z ≡ table_decision a c p y
        by_bound v held q z =
            ∥∥₁_elim held (≡_prop coded_bool _ _)
            (λ h. ap₂ eqZ (total_is h p long (sym l ∙ t) q) z ∙ sym (parts ∙ rw (sym l ∙ t, sym w ∙ u, sym b ∙ v)))
