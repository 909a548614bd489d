-- Flows on the arcs of a network: what they must meet, the bound that they give for every total, and when they show that
-- potentials are least.
use Rattle.std.specs.Prelude.{ℕ, zero, suc, Bool, true, ◌&&◌, List, [], ◌∷◌, ℤ, pos, negsuc, neg_ℤ, ◌-ℤ◌, ◌*ℤ◌, get_or, drop}
use Rattle.network.specs.Integers.{eqZ}
use Rattle.network.specs.Sums.{sum, all, below, only}
use Rattle.network.specs.Network.{Arc, Network, reached, at_most, at_least, past_kink, is_feasible, total}

-- a flow on an arc
pub record Flow : Type 0 where
  pub on : Arc
  pub amount : ℤ

-- a list's numbers, each on its arc; a number that is missing is 0, and excess is not looked at. (Document 01's pull list
-- is such a list.)
abbrev pub flows : List Arc → List ℤ → List Flow
flows [] y = []
flows (a ∷ arcs) y = record { on = a; amount = get_or y 0 (pos 0) } ∷ flows arcs (drop 1 y)

-- the amount is within the arc's limits
abbrev pub allowed : Flow → Bool
allowed f = at_least f.amount f.on.low && at_most f.amount f.on.high

-- what a flow brings to node v: its amount at the head, the negation at the tail
abbrev pub inflow : ℕ → Flow → ℤ
inflow v f = only f.on.head f.amount v -ℤ only f.on.tail f.amount v

-- flow conservation: at each of n nodes what the flows bring adds up to 0
abbrev pub balanced : ℕ → List Flow → Bool
balanced n fs = below n (λ v. eqZ (sum (inflow v) fs) (pos 0))

-- every amount is allowed, and every node balanced; ground need not be
unfoldable pub rules : Network → List ℤ → Bool
rules N y = all allowed (flows N.arcs y) && balanced N.nodes (flows N.arcs y)

-- what a flow adds to the bound
abbrev pub bound_term : Flow → ℤ
bound_term f = neg_ℤ (f.amount *ℤ f.on.kink)

-- the bound: no total is smaller, where the rules are met
unfoldable pub bound : Network → List ℤ → ℤ
bound N y = sum bound_term (flows N.arcs y)

-- where an arc with flow y is d past its kink: away from the kink the flow is the slope there
abbrev pub tight_at : Arc → ℤ → ℤ → Bool
tight_at a y (pos zero) = true
tight_at a y (pos (suc n)) = reached a.high y
tight_at a y (negsuc n) = reached a.low y

-- the same of a flow under given potentials
abbrev pub tight : List ℤ → Flow → Bool
tight p f = tight_at f.on f.amount (past_kink p f.on)

-- complementary slackness: every flow is tight
unfoldable pub complementary : Network → List ℤ → List ℤ → Bool
complementary N y p = all (tight p) (flows N.arcs y)

-- feasible potentials, flows that meet the rules, and the total is the bound
unfoldable pub certifies : Network → List ℤ → List ℤ → Bool
certifies N p y = is_feasible N p && (rules N y && eqZ (total N p) (bound N y))
