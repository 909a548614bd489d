-- Flows that show that a network has no feasible potentials: weak duality where all finite slopes are 0, so that every
-- total is 0.
use Rattle.std.specs.Prelude.{zero, suc, ◌≡◌, refl, Bool, ◌&&◌, List, map, T, ℤ, pos, negsuc, ◌≤ℤ◌}
use Rattle.std.proofs.Common.{sym, ◌∙◌, subst}
use Rattle.std.specs.Int.Signed.{lt_z, lt_z_yes, clash_ℤ}
use Rattle.network.specs.Network.{Limit, unlimited, limit, finite, value, Arc, Network, Feasible, legal_at, past_kink, legal, cost, total}
use Rattle.network.specs.Flows.{rules, bound}
use Rattle.network.specs.laws.Tests.{and_left, and_right, all_ext, all_image}
use Rattle.network.specs.laws.Sums.{sum_null, sum_image}
use Rattle.network.specs.laws.ArcSlack.{costless}
use Rattle.network.proofs.laws.Duality.{weak_duality}

-- 0 in place of a finite limit
abbrev pub hard_limit : Limit → Limit
hard_limit unlimited = unlimited
hard_limit (limit x) = limit (pos 0)

-- the arc without its cost: only what it forbids
abbrev pub hard_arc : Arc → Arc
hard_arc a = record { tail = a.tail; head = a.head; kink = a.kink; low = hard_limit a.low; high = hard_limit a.high }

-- the network without its costs
abbrev pub hard : Network → Network
hard N = record { nodes = N.nodes; arcs = map hard_arc N.arcs }

-- y shows that nothing is feasible: it meets the rules, with 0 where both limits are finite, and its bound is above 0
unfoldable pub refutes : Network → List ℤ → Bool
refutes N y = rules (hard N) y && lt_z (pos 0) (bound (hard N) y)

-- the same limits are finite
hard_finite : (l : Limit) → finite (hard_limit l) ≡ finite l
hard_finite unlimited = refl
hard_finite (limit x) = refl

-- and their values are 0
hard_value : (l : Limit) → value (hard_limit l) ≡ pos 0
hard_value unlimited = refl
hard_value (limit x) = refl

-- the same sides are legal
hard_legal_at : (a : Arc) (d : ℤ) → legal_at (hard_arc a) d ≡ legal_at a d
hard_legal_at a (pos zero) = refl
hard_legal_at a (pos (suc n)) = hard_finite a.high
hard_legal_at a (negsuc n) = hard_finite a.low

-- the same potentials are feasible
hard_feasible : (N : Network) (p : List ℤ) → Feasible N p → Feasible (hard N) p
hard_feasible N p d = record {
  size = d.size;
  legals = subst T
      (sym (all_image (legal p) hard_arc N.arcs ∙ all_ext (λ a. legal p (hard_arc a)) (legal p) (λ a. hard_legal_at a (past_kink p a)) N.arcs))
      d.legals;
}

-- every total is 0
hard_total : (N : Network) (p : List ℤ) → total (hard N) p ≡ pos 0
unfolding total
hard_total N p =
    sum_image (cost p) hard_arc N.arcs
    ∙ sum_null (λ a. cost p (hard_arc a)) (λ a. costless (hard_arc a) (hard_value a.low) (hard_value a.high) (past_kink p a)) N.arcs

-- what is refuted has no feasible potentials
pub none_feasible : (N : Network) (y : List ℤ) → T (refutes N y) → (p : List ℤ) → Feasible N p → ⊥
unfolding refutes
none_feasible N y t p d =
    clash_ℤ (lt_z_yes (and_right (rules (hard N) y) (lt_z (pos 0) (bound (hard N) y)) t))
    (subst (λ (z : ℤ). bound (hard N) y ≤ℤ z) (hard_total N p)
    (weak_duality (hard N) y p (and_left (rules (hard N) y) (lt_z (pos 0) (bound (hard N) y)) t) (hard_feasible N p d)))
