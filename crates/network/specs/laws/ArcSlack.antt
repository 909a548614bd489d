-- One arc: on a legal side its cost is the flow times how far it is past its kink, and a slack more: a natural number that is 0
-- exactly where the arc is tight.
use Rattle.std.specs.Prelude.{ℕ, zero, suc, ◌*◌, ◌≡◌, List, T, ℤ, pos, negsuc, ◌+ℤ◌, ◌*ℤ◌, ◌≤ℤ◌}
use Rattle.std.proofs.Common.{sym, ◌∙◌, ap, mul-zero, arith}
use Rattle.std.proofs.Math.IntN.{*ℤ-zero, zero-*ℤ, -ℤ-+ℤ_cancel}
use Rattle.std.specs.Int.Signed.{le_z_yes}
use Rattle.network.specs.Network.{Limit, unlimited, limit, finite, value, reached, at_most, at_least, Arc, legal_at, cost_at, past_kink}
use Rattle.network.specs.Flows.{Flow, allowed, tight_at}
use Rattle.network.specs.laws.Integers.{gap_is, gap_zero, gap_self, +ℤ-*ℤ, eqZ→eq, eq→eqZ}
use Rattle.network.specs.Integers.{gap}
use Rattle.network.specs.laws.Tests.{and_left, and_right}

-- the slack of an arc with flow y, d past its kink
abbrev pub slack_at : Arc → ℤ → ℤ → ℕ
slack_at a y (pos n) = gap y (value a.high) * n
slack_at a y (negsuc n) = gap (value a.low) y * suc n

-- the slack of a flow under given potentials
unfoldable pub slack : List ℤ → Flow → ℕ
slack p f = slack_at f.on f.amount (past_kink p f.on)

-- the cost right of the kink
cost_right : (y h : ℤ) (n : ℕ) → y ≤ℤ h → h *ℤ pos n ≡ y *ℤ pos n +ℤ pos (gap y h * n)
cost_right y h n le = ap (λ (x : ℤ). x *ℤ pos n) (gap_is le) ∙ +ℤ-*ℤ y (pos (gap y h)) (pos n)

-- the cost left of the kink
cost_left : (y l : ℤ) (n : ℕ) → l ≤ℤ y → l *ℤ negsuc n ≡ y *ℤ negsuc n +ℤ pos (gap l y * suc n)
cost_left y l n le =
    sym (-ℤ-+ℤ_cancel (l *ℤ negsuc n) (pos (gap l y * suc n)))
    ∙ ap (λ (x : ℤ). x +ℤ pos (gap l y * suc n)) (sym (+ℤ-*ℤ l (pos (gap l y)) (negsuc n)) ∙ ap (λ (x : ℤ). x *ℤ negsuc n) (sym (gap_is le)))

-- a high limit that is finite and kept is an upper bound
high_le : (y : ℤ) (h : Limit) → T (finite h) → T (at_most y h) → y ≤ℤ value h
high_le y unlimited f t = absurd f
high_le y (limit x) f t = le_z_yes t

-- a low limit that is finite and kept is a lower bound
low_le : (y : ℤ) (l : Limit) → T (finite l) → T (at_least y l) → value l ≤ℤ y
low_le y unlimited f t = absurd f
low_le y (limit x) f t = le_z_yes t

-- a limit that is reached is finite
reached_finite : (l : Limit) (y : ℤ) → T (reached l y) → T (finite l)
reached_finite unlimited y t = t
reached_finite (limit x) y t = tt

-- what reaches a limit is its value
reached_is : (l : Limit) (y : ℤ) → T (reached l y) → y ≡ value l
reached_is unlimited y t = absurd t
reached_is (limit x) y t = eqZ→eq y x t

-- the value of a finite limit reaches it
is_reached : (l : Limit) (y : ℤ) → T (finite l) → y ≡ value l → T (reached l y)
is_reached unlimited y f e = f
is_reached (limit x) y f e = eq→eqZ y x e

-- a product with a successor is 0 only where its first factor is
factor : (g n : ℕ) → g * suc n ≡ 0 → g ≡ 0
factor g n e = omega arith

-- a tight arc is legal
pub tight_legal : (a : Arc) (y d : ℤ) → T (tight_at a y d) → T (legal_at a d)
tight_legal a y (pos zero) t = tt
tight_legal a y (pos (suc n)) t = reached_finite a.high y t
tight_legal a y (negsuc n) t = reached_finite a.low y t

-- a tight arc has no slack
pub slack_zero : (a : Arc) (y d : ℤ) → T (tight_at a y d) → slack_at a y d ≡ 0
slack_zero a y (pos zero) t = mul-zero (gap y (value a.high))
slack_zero a y (pos (suc n)) t = rw (← reached_is a.high y t, gap_self y) (omega arith)
slack_zero a y (negsuc n) t = rw (← reached_is a.low y t, gap_self y) (omega arith)

module _ (a : Arc) (y : ℤ) (within : T (allowed (record { on = a; amount = y }))) where
  -- the flow is at most a finite high limit
  under : T (finite a.high) → y ≤ℤ value a.high
  under f = high_le y a.high f (and_right (at_least y a.low) (at_most y a.high) within)

  -- the flow is at least a finite low limit
  over : T (finite a.low) → value a.low ≤ℤ y
  over f = low_le y a.low f (and_left (at_least y a.low) (at_most y a.high) within)

  -- the cost is the flow times the distance from the kink, and the slack
  pub cost_is : (d : ℤ) → T (legal_at a d) → cost_at a d ≡ y *ℤ d +ℤ pos (slack_at a y d)
  cost_is (pos zero) l = simp (*ℤ-zero, mul-zero)
  cost_is (pos (suc n)) l = cost_right y (value a.high) (suc n) (under l)
  cost_is (negsuc n) l = cost_left y (value a.low) n (over l)

  -- a legal arc without slack is tight
  pub zero_slack : (d : ℤ) → T (legal_at a d) → slack_at a y d ≡ 0 → T (tight_at a y d)
  zero_slack (pos zero) l e = tt
  zero_slack (pos (suc n)) l e = is_reached a.high y l (gap_zero (under l) (factor (gap y (value a.high)) n e))
  zero_slack (negsuc n) l e = is_reached a.low y l (sym (gap_zero (over l) (factor (gap (value a.low) y) n e)))

-- an arc whose finite slopes are 0 costs nothing
pub costless : (a : Arc) → value a.low ≡ pos 0 → value a.high ≡ pos 0 → (d : ℤ) → cost_at a d ≡ pos 0
costless a l h (pos n) = ap (λ (z : ℤ). z *ℤ pos n) h ∙ zero-*ℤ (pos n)
costless a l h (negsuc n) = ap (λ (z : ℤ). z *ℤ negsuc n) l ∙ zero-*ℤ (negsuc n)
