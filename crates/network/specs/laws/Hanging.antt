-- Where each node hangs on ground, by an arc that keeps it right of ground or of an earlier node, no feasible potential is
-- negative: by induction on the node.
use Rattle.std.specs.Prelude.{ℕ, zero, suc, ◌≤◌, ◌<◌, ◌≡◌, List, [], ◌∷◌, ◌++◌, map, ◌⊎◌, T, ℤ, pos, negsuc, ◌-ℤ◌, ◌≤ℤ◌}
use Rattle.std.proofs.Math.Path.{refl}
use Rattle.std.proofs.Common.{ap₂, subst, inl, inr}
use Rattle.std.proofs.Math.Decide.{dec_lt}
use native.Mathlib.Omega.{arith}
use Rattle.std.proofs.Math.ListN.{get_or-eq_default}
use Rattle.std.specs.Int.Signed.{le_z_yes}
use Rattle.network.specs.Network.{unlimited, Arc, Network, potential, integers, past_kink, legal, legal_at, Feasible}
use Rattle.network.specs.laws.IntegerParts.{le_parts, minus_parts, min_parts}
use Rattle.network.specs.Integers.{down, up}
use Rattle.network.specs.laws.Tests.{Listed, listed_first, listed_second}

-- among the arcs one with an unlimited high and a kink that is not positive leads from v to ground, behind the nodes, or to
-- an earlier node
pub record Hook (nodes : ℕ) (arcs : List Arc) (v : ℕ) : Type 0 where
  pub arc : Arc
  pub listed : Listed arc arcs
  pub tail_is : arc.tail ≡ v
  pub hard : arc.high ≡ unlimited
  pub not_right : arc.kink ≤ℤ pos 0
  pub onto : (nodes ≤ arc.head) ⊎ (arc.head < v)

-- each node hangs so
pub record Hangs (N : Network) : Type 0 where
  pub hook : (v : ℕ) → v < N.nodes → Hook N.nodes N.arcs v

-- a hook among the first of two lists of arcs
pub hook_first : {nodes v : ℕ} (xs ys : List Arc) → Hook nodes xs v → Hook nodes (xs ++ ys) v
hook_first xs ys h =
    record {
      arc = h.arc;
      listed = listed_first xs ys h.listed;
      tail_is = h.tail_is;
      hard = h.hard;
      not_right = h.not_right;
      onto = h.onto;
    }

-- a hook among the second of two lists of arcs
pub hook_second : {nodes v : ℕ} (xs ys : List Arc) → Hook nodes ys v → Hook nodes (xs ++ ys) v
hook_second xs ys h =
    record {
      arc = h.arc;
      listed = listed_second xs ys h.listed;
      tail_is = h.tail_is;
      hard = h.hard;
      not_right = h.not_right;
      onto = h.onto;
    }

-- an arc with an unlimited high is not right of its kink
hard_side : (a : Arc) (d : ℤ) → a.high ≡ unlimited → T (legal_at a d) → d ≤ℤ pos 0
hard_side a (pos zero) e t = le_z_yes tt
hard_side a (pos (suc n)) e t = absurd (rw e at t)
hard_side a (negsuc n) e t = le_z_yes tt

module _ {N : Network} (hangs : Hangs N) (q : List ℤ) (f : Feasible N q) where
  -- ground is not negative
  ground_zero : (v : ℕ) → N.nodes ≤ v → down (potential q v) ≡ 0
  unfolding down
  ground_zero v past = rw (get_or-eq_default q (pos 0) {n = v} (omega (arith, f.size))) refl

  -- the tail of a hook is not negative where its head is not
  carried : (a : Arc) → T (legal q a) → a.high ≡ unlimited → a.kink ≤ℤ pos 0 → down (potential q a.head) ≡ 0
      → down (potential q a.tail) ≡ 0
  unfolding up down
  carried a l hard k h =
      omega (
        arith,
        le_parts (hard_side a (past_kink q a) hard l),
        le_parts k,
        minus_parts (potential q a.head -ℤ potential q a.tail) a.kink,
        minus_parts (potential q a.head) (potential q a.tail),
        min_parts (potential q a.tail),
      )

  -- no node before k is negative
  before : (k v : ℕ) → v < k → down (potential q v) ≡ 0
  before zero v l = absurd (omega arith)
  before (suc k) v l = go (before k) (dec_lt v N.nodes)
    where
      reached : ((u : ℕ) → u < k → down (potential q u) ≡ 0) → (h : ℕ) → (N.nodes ≤ h) ⊎ (h < v) → down (potential q h) ≡ 0
      reached ih h (inl past) = ground_zero h past
      reached ih h (inr less) = ih h (omega arith)

      go : ((u : ℕ) → u < k → down (potential q u) ≡ 0) → Dec (v < N.nodes) → down (potential q v) ≡ 0
      go ih (no past) = ground_zero v (omega arith)
      go ih (yes inner) =
          let h = hangs.hook v inner in
          subst (λ (u : ℕ). down (potential q u) ≡ 0) h.tail_is
          (carried h.arc (h.listed.passes (legal q) f.legals) h.hard h.not_right (reached ih h.arc.head h.onto))

  -- no node is negative
  nonnegative : (v : ℕ) → down (potential q v) ≡ 0
  nonnegative v = before (suc v) v (omega arith)

-- integers that are not negative are natural numbers
naturals : (q : List ℤ) → ((v : ℕ) → down (potential q v) ≡ 0) → integers (map up q) ≡ q
unfolding up down
naturals [] z = refl
naturals (pos x ∷ q) z = ap₂ ◌∷◌ refl (naturals q (λ v. z (suc v)))
naturals (negsuc x ∷ q) z = absurd (omega (arith, z 0))

-- feasible potentials are natural numbers
pub natural_potentials : {N : Network} → Hangs N → (q : List ℤ) → Feasible N q → integers (map up q) ≡ q
natural_potentials hangs q f = naturals q (nonnegative hangs q f)
