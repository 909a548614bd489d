-- What complementary slackness says, as differences of potentials: a flow that can grow keeps its head from standing past the
-- kink, and one that can shrink keeps it from standing before it.
use Rattle.std.specs.Prelude.{◌≡◌, Bool, true, false, not, ◌&&◌, ℕ, ◌+◌, T, ℤ, pos, neg_ℤ, ◌+ℤ◌, ◌-ℤ◌, ◌≤ℤ◌}
use Rattle.std.proofs.Common.{sym, ◌∙◌, arith}
use Rattle.std.proofs.Math.Path.{ap}
use mathlib.Core.List.{List, [], ◌∷◌, ◌++◌, flat_map}
use Rattle.std.specs.Int.Signed.{le_z, le_z_yes}
use Rattle.network.specs.Integers.{up, down}
use Rattle.network.specs.Sums.{all}
use Rattle.network.specs.Network.{Network, reached, potential, past_kink}
use Rattle.network.specs.Flows.{Flow, flows, tight, complementary}
use Rattle.network.specs.laws.IntegerParts.{le_parts, parts_le, parts_eq, sum_parts, minus_parts}
use Rattle.network.specs.laws.Tests.{and_left, and_right, and_both, test_ext, all_ext, all_append, all_flat}
use Rattle.network.specs.laws.Differences.{tight_high, tight_low, differences_tight}

-- a residual arc: the potential of `from` plus `by` is at most that of `to`
pub record Residual : Type 0 where
  pub from : ℕ
  pub to : ℕ
  pub by : ℤ

-- potentials meet a residual arc
abbrev pub meets : List ℤ → Residual → Bool
meets p r = le_z (potential p r.from +ℤ r.by) (potential p r.to)

-- a residual arc, where a test fails
abbrev pub unless : Bool → Residual → List Residual
unless true r = []
unless false r = r ∷ []

-- from the head to the tail, unless the flow is the high limit
abbrev pub back : Flow → List Residual
back f = unless (reached f.on.high f.amount) (record { from = f.on.head; to = f.on.tail; by = neg_ℤ f.on.kink })

-- from the tail to the head, unless it is the low limit
abbrev pub forth : Flow → List Residual
forth f = unless (reached f.on.low f.amount) (record { from = f.on.tail; to = f.on.head; by = f.on.kink })

-- the residual arcs of a flow
abbrev pub residuals_of : Flow → List Residual
residuals_of f = back f ++ forth f

-- the residual arcs of a network with a list's flows
unfoldable pub residuals : Network → List ℤ → List Residual
residuals N y = flat_map residuals_of (flows N.arcs y)

-- a test of a residual arc that may be left out
unless_all : (t : Residual → Bool) (b : Bool) (r : Residual) → (T (not b) → T (t r)) → T (all t (unless b r))
unless_all t true r f = tt
unless_all t false r f = and_both (t r) true (f tt) tt

-- and of one that is not
all_unless : (t : Residual → Bool) (b : Bool) (r : Residual) → T (all t (unless b r)) → T (not b) → T (t r)
all_unless t true r a n = absurd n
all_unless t false r a n = and_left (t r) true a

module _ (h t k : ℤ) where
  -- a tension in its parts
  parts : up ((h -ℤ t) -ℤ k) + (down h + (up t + up k)) ≡ down ((h -ℤ t) -ℤ k) + (up h + (down t + down k))
  parts = omega (arith, minus_parts (h -ℤ t) k, minus_parts h t)

  -- not past the kink: the head keeps the tail right
  not_past : ((h -ℤ t) -ℤ k) ≤ℤ pos 0 → (h -ℤ k) ≤ℤ t
  unfolding up down
  not_past le = parts_le (h -ℤ k) t (omega (arith, parts, le_parts le, minus_parts h k))

  -- and back
  past_not : (h -ℤ k) ≤ℤ t → ((h -ℤ t) -ℤ k) ≤ℤ pos 0
  unfolding up down
  past_not le = parts_le ((h -ℤ t) -ℤ k) (pos 0) (omega (arith, parts, le_parts le, minus_parts h k))

  -- not before the kink: the tail keeps the head right
  not_before : pos 0 ≤ℤ ((h -ℤ t) -ℤ k) → (t +ℤ k) ≤ℤ h
  unfolding up down
  not_before le = parts_le (t +ℤ k) h (omega (arith, parts, le_parts le, sum_parts t k))

  -- and back
  before_not : (t +ℤ k) ≤ℤ h → pos 0 ≤ℤ ((h -ℤ t) -ℤ k)
  unfolding up down
  before_not le = parts_le (pos 0) ((h -ℤ t) -ℤ k) (omega (arith, parts, le_parts le, sum_parts t k))

  -- at the kink both are equalities: from the head
  pub kink_back : (h -ℤ t) -ℤ k ≡ pos 0 → h -ℤ k ≡ t
  unfolding up down
  kink_back e = parts_eq (h -ℤ k) t (omega (arith, parts, ap up e, ap down e, minus_parts h k))

  -- and from the tail
  pub kink_forth : (h -ℤ t) -ℤ k ≡ pos 0 → t +ℤ k ≡ h
  unfolding up down
  kink_forth e = parts_eq (t +ℤ k) h (omega (arith, parts, ap up e, ap down e, sum_parts t k))

module _ (q : List ℤ) (f : Flow) where
  -- the residual arcs of a tight flow are met
  tight_meets : T (tight q f) → T (all (meets q) (back f) && all (meets q) (forth f))
  tight_meets t =
      let head : ℤ = potential q f.on.head in
      let tail : ℤ = potential q f.on.tail in
      and_both (all (meets q) (back f)) (all (meets q) (forth f))
      (unless_all (meets q) (reached f.on.high f.amount) _
      (λ n. (not_past head tail f.on.kink (tight_high f.on f.amount (past_kink q f.on) t n)).le))
      (unless_all (meets q) (reached f.on.low f.amount) _
      (λ n. (not_before head tail f.on.kink (tight_low f.on f.amount (past_kink q f.on) t n)).le))

  -- and a flow whose residual arcs are met is tight
  meets_tight : T (all (meets q) (back f) && all (meets q) (forth f)) → T (tight q f)
  meets_tight a =
      let head : ℤ = potential q f.on.head in
      let tail : ℤ = potential q f.on.tail in
      differences_tight f.on f.amount (past_kink q f.on)
      (λ n. past_not head tail f.on.kink
      (le_z_yes (all_unless (meets q) (reached f.on.high f.amount) _
      (and_left (all (meets q) (back f)) (all (meets q) (forth f)) a) n)))
      (λ n. before_not head tail f.on.kink
      (le_z_yes (all_unless (meets q) (reached f.on.low f.amount) _
      (and_right (all (meets q) (back f)) (all (meets q) (forth f)) a) n)))

  -- so both say the same
  tight_is : tight q f ≡ all (meets q) (residuals_of f)
  tight_is =
      test_ext (tight q f) (all (meets q) (back f) && all (meets q) (forth f)) tight_meets meets_tight
      ∙ sym (all_append (meets q) (back f) (forth f))

-- complementary slackness is that all residual arcs are met
pub residuals_met : (N : Network) (y q : List ℤ) → complementary N y q ≡ all (meets q) (residuals N y)
unfolding complementary residuals
residuals_met N y q =
    all_ext (tight q) (λ f. all (meets q) (residuals_of f)) (tight_is q) (flows N.arcs y)
    ∙ sym (all_flat (meets q) residuals_of (flows N.arcs y))
