-- Duality, from one identity: the total of feasible potentials is the bound of any flows that meet the rules, and the
-- slacks of the arcs more.
use Rattle.std.specs.Prelude.{ℕ, ◌≡◌, Bool, List, T, ℤ, neg_ℤ, ◌+ℤ◌, ◌-ℤ◌, ◌*ℤ◌, length, ◌≤ℤ◌}
use Rattle.std.proofs.Common.{sym, ◌∙◌, subst}
use Rattle.std.proofs.Math.Path.{ap}
use Rattle.std.proofs.Math.IntN.{pos, +ℤ_idl, +ℤ_idr, *ℤ_comm}
use Rattle.network.specs.Sums.{sum, sumℕ, all}
use Rattle.network.specs.Network.{Arc, Network, Feasible, Least, LeftmostLeast, potential, tension, past_kink, legal, cost, total}
use Rattle.network.specs.Flows.{flows, allowed, balanced, rules, bound_term, bound, tight, complementary}
use Rattle.network.specs.laws.Integers.{*ℤ-+ℤ, *ℤ_negℤ, ≤ℤ_plus, plus_cancel}
use Rattle.network.specs.laws.Tests.{and_left, and_right, all_map, all_image}
use Rattle.network.specs.laws.Sums.{sum_add, sum_more, sum_ext, sum_zero, zero_sum, sum_image}
use Rattle.network.specs.laws.Indexed.{flows_on}
use Rattle.network.specs.laws.ArcSlack.{slack, cost_is, tight_legal, slack_zero, zero_slack}
use Rattle.network.specs.laws.ByParts.{balanced_null}

-- a sum over the arcs, over the flows' arcs
sum_on : (g : Arc → ℤ) (arcs : List Arc) (y : List ℤ) → sum g arcs ≡ sum (λ f. g f.on) (flows arcs y)
sum_on g arcs y = ap (sum g) (sym (flows_on arcs y)) ∙ sum_image g (λ f. f.on) (flows arcs y)

-- a test of the arcs, of the flows' arcs
all_on : (t : Arc → Bool) (arcs : List Arc) (y : List ℤ) → all t arcs ≡ all (λ f. t f.on) (flows arcs y)
all_on t arcs y = ap (all t) (sym (flows_on arcs y)) ∙ all_image t (λ f. f.on) (flows arcs y)

-- flow times distance from the kink: through the tension, and through the kink
split : (y t k : ℤ) → y *ℤ (t -ℤ k) ≡ t *ℤ y +ℤ neg_ℤ (y *ℤ k)
split y t k = *ℤ-+ℤ y t (neg_ℤ k) ∙ cc (*ℤ_comm y t, *ℤ_negℤ y k)

module _ (N : Network) (y p : List ℤ) (rule : T (rules N y)) where
  -- every flow is allowed
  all_allowed : T (all allowed (flows N.arcs y))
  unfolding rules
  all_allowed = and_left (all allowed (flows N.arcs y)) (balanced N.nodes (flows N.arcs y)) rule

  -- every node is balanced
  all_balanced : T (balanced N.nodes (flows N.arcs y))
  unfolding rules
  all_balanced = and_right (all allowed (flows N.arcs y)) (balanced N.nodes (flows N.arcs y)) rule

  -- the arc of every flow is legal
  all_legal : Feasible N p → T (all (λ f. legal p f.on) (flows N.arcs y))
  all_legal d = subst T (all_on (legal p) N.arcs y) d.legals

  -- flow times distance from the kink adds up to the bound
  past_kinks : length p ≡ N.nodes → sum (λ f. f.amount *ℤ past_kink p f.on) (flows N.arcs y) ≡ bound N y
  unfolding bound
  past_kinks size =
      sum_ext (λ f. f.amount *ℤ past_kink p f.on) (λ f. tension p f.on *ℤ f.amount +ℤ bound_term f)
      (λ f. split f.amount (tension p f.on) f.on.kink) (flows N.arcs y)
      ∙ sum_add (λ f. tension p f.on *ℤ f.amount) bound_term (flows N.arcs y)
      ∙ ap (λ (z : ℤ). z +ℤ bound N y) (balanced_null p (flows N.arcs y) (rw size all_balanced))
      ∙ +ℤ_idl (bound N y)

  -- the identity: the total is the bound and the slacks
  pub total_is : Feasible N p → total N p ≡ bound N y +ℤ pos (sumℕ (slack p) (flows N.arcs y))
  unfolding slack total
  total_is d =
      sum_on (cost p) N.arcs y
      ∙ sum_more allowed (λ f. legal p f.on) (λ f. cost p f.on) (λ f. f.amount *ℤ past_kink p f.on) (slack p)
      (λ f i l. cost_is f.on f.amount i (past_kink p f.on) l) (flows N.arcs y) all_allowed (all_legal d)
      ∙ ap (λ (z : ℤ). z +ℤ pos (sumℕ (slack p) (flows N.arcs y))) (past_kinks d.size)

  -- no total is below the bound
  pub weak_duality : Feasible N p → bound N y ≤ℤ total N p
  weak_duality d = rw (total_is d) (≤ℤ_plus (bound N y) (sumℕ (slack p) (flows N.arcs y)))

  -- in complementary slackness the total is the bound
  pub tight_equal : Feasible N p → T (complementary N y p) → total N p ≡ bound N y
  unfolding slack complementary
  tight_equal d t =
      total_is d
      ∙ ap (λ (k : ℕ). bound N y +ℤ pos k)
      (sum_zero (tight p) (slack p) (λ f. slack_zero f.on f.amount (past_kink p f.on)) (flows N.arcs y) t)
      ∙ +ℤ_idr (bound N y)

  -- and only there
  pub equal_tight : Feasible N p → total N p ≡ bound N y → T (complementary N y p)
  unfolding slack complementary
  equal_tight d e =
      zero_sum allowed (λ f. legal p f.on) (tight p) (slack p) (λ f i. zero_slack f.on f.amount i (past_kink p f.on))
      (flows N.arcs y) all_allowed (all_legal d) (plus_cancel (bound N y) (sumℕ (slack p) (flows N.arcs y)) (sym (total_is d) ∙ e))

-- potentials in complementary slackness are feasible
pub tight_feasible : (N : Network) (y p : List ℤ) → length p ≡ N.nodes → T (complementary N y p) → Feasible N p
unfolding complementary
tight_feasible N y p size t = record {
  size = size;
  legals = subst T (sym (all_on (legal p) N.arcs y))
      (all_map (tight p) (λ f. legal p f.on) (λ f. tight_legal f.on f.amount (past_kink p f.on)) (flows N.arcs y) t);
}

-- feasible potentials whose total is the bound are least
pub equal_least : (N : Network) (y p : List ℤ) → T (rules N y) → Feasible N p → total N p ≡ bound N y → Least N p
equal_least N y p rule d e = record { feasible = d; least = λ q dq. rw e (weak_duality N y q rule dq) }

-- with such flows in hand the least potentials are those in complementary slackness, so the leftmost of these are the
-- leftmost least
pub tight_leftmost : (N : Network) (y p : List ℤ) → T (rules N y) → length p ≡ N.nodes → T (complementary N y p)
    → ((q : List ℤ) → length q ≡ N.nodes → T (complementary N y q) → (v : ℕ) → potential p v ≤ℤ potential q v) → LeftmostLeast N p
tight_leftmost N y p rule size t first =
    let d : Feasible N p = tight_feasible N y p size t in
    let e : total N p ≡ bound N y = tight_equal N y p rule d t in
    record { is_least = equal_least N y p rule d e; leftmost = λ q dq same. first q dq.size (equal_tight N y q rule dq (same ∙ e)) }
