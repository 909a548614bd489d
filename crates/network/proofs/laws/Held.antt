-- Potentials in complementary slackness with flows are the leftmost least where every node is held: by ground, or over a tight
-- residual arc by a held node. For then every other least potentials have it at least as far right. HeldOnly shows the converse.
use Rattle.std.specs.Prelude.{◌≡◌, List, [], Bool, true, false, not, ℕ, ◌≤◌, ◌<◌, T, ℤ, pos, ◌+ℤ◌, length, ◌≤ℤ◌}
use Rattle.std.proofs.Common.{sym, ◌∙◌, subst, arith}
use Rattle.std.proofs.Math.Decide.{dec_lt}
use Rattle.std.proofs.Math.ListN.{get_or-eq_default}
use Rattle.std.specs.Int.Signed.{le_z_yes}
use Rattle.network.specs.Sums.{all}
use Rattle.network.specs.Network.{Network, potential, reached, past_kink, LeftmostLeast}
use Rattle.network.specs.Flows.{Flow, flows, rules, complementary}
use Rattle.network.specs.laws.Integers.{≤ℤ_trans, ≤ℤ_of_eq, +ℤ_mono}
use Rattle.network.specs.laws.Tests.{Listed, listed_here, listed_first, listed_second, listed_flat}
use Rattle.network.proofs.laws.Duality.{tight_leftmost}
use Rattle.network.proofs.laws.Residuals.{Residual, meets, unless, back, forth, residuals_of, residuals, residuals_met}
use Rattle.network.proofs.laws.Residuals.{kink_back, kink_forth}

-- node v is held: it is ground, or a held node u holds it over a tight residual arc
pub data Held (p : List ℤ) (rs : List Residual) : ℕ → Type 0 where
  by_ground : {v : ℕ} → length p ≤ v → Held p rs v
  along : {u v : ℕ} {k : ℤ} → Listed (record { from = u; to = v; by = k }) rs → potential p u +ℤ k ≡ potential p v
      → Held p rs u → Held p rs v

-- ground's potential is 0
ground_zero : (p : List ℤ) {v : ℕ} → length p ≤ v → potential p v ≡ pos 0
ground_zero p past = get_or-eq_default p (pos 0) past

-- potentials that meet the residual arcs have a held node at least as far right
held_le : {p : List ℤ} {rs : List Residual} {v : ℕ} (q : List ℤ) → length q ≡ length p → T (all (meets q) rs) → Held p rs v
    → potential p v ≤ℤ potential q v
held_le {p} q size t (by_ground past) = ≤ℤ_of_eq (ground_zero p past ∙ sym (ground_zero q (omega arith)))
held_le {p} q size t (along {u = u} {v = v} {k = k} i e h) =
    ≤ℤ_trans (≤ℤ_of_eq (sym e))
    (≤ℤ_trans (+ℤ_mono {c = k} {d = k} (held_le q size t h) (≤ℤ_of_eq (λ i. k))) (le_z_yes (i.passes (meets q) t)))

-- a residual arc that is not left out
listed_unless : (b : Bool) (r : Residual) → T (not b) → Listed r (unless b r)
listed_unless true r n = absurd n
listed_unless false r n = listed_here r []

-- a flow that is at its kink
module _ (N : Network) (y : List ℤ) {p : List ℤ} (f : Flow) (there : Listed f (flows N.arcs y))
    (kink : past_kink p f.on ≡ pos 0) where
  -- where it can grow, its head holds its tail
  pub head_holds : T (not (reached f.on.high f.amount)) → Held p (residuals N y) f.on.head → Held p (residuals N y) f.on.tail
  unfolding residuals
  head_holds n h =
      along (listed_flat residuals_of (flows N.arcs y) there
      (listed_first (back f) (forth f) (listed_unless (reached f.on.high f.amount) _ n)))
      (kink_back (potential p f.on.head) (potential p f.on.tail) f.on.kink kink) h

  -- where it can shrink, its tail holds its head
  pub tail_holds : T (not (reached f.on.low f.amount)) → Held p (residuals N y) f.on.tail → Held p (residuals N y) f.on.head
  unfolding residuals
  tail_holds n h =
      along (listed_flat residuals_of (flows N.arcs y) there
      (listed_second (back f) (forth f) (listed_unless (reached f.on.low f.amount) _ n)))
      (kink_forth (potential p f.on.head) (potential p f.on.tail) f.on.kink kink) h

module _ (N : Network) (y p : List ℤ) (rule : T (rules N y)) (size : length p ≡ N.nodes) (t : T (complementary N y p)) where
  -- where every node is held, the potentials are the leftmost least
  pub held_leftmost : ((v : ℕ) → v < N.nodes → Held p (residuals N y) v) → LeftmostLeast N p
  held_leftmost held =
      tight_leftmost N y p rule size t
      (λ q same s v. held_le q (same ∙ sym size) (subst T (residuals_met N y q) s) (everywhere v))
    where
      -- numbers that are no nodes are ground
      everywhere : (v : ℕ) → Held p (residuals N y) v
      everywhere v = elim (dec_lt v N.nodes) [
        | yes node ↦ held v node
        | no past ↦ by_ground {v = v} (omega arith)
      ]
