-- Summation by parts: what flows bring to the nodes, weighted by the potentials, is tension times flow over the arcs. So where
-- flows balance at every node, tension times flow adds up to 0.
use Rattle.std.specs.Prelude.{ℕ, zero, suc, ◌<◌, ◌≡◌, refl, List, [], ◌∷◌, T, ℤ, pos, neg_ℤ, ◌+ℤ◌, ◌*ℤ◌, length}
use Rattle.std.proofs.Common.{sym, ◌∙◌, ap, ap₂, arith}
use Rattle.std.proofs.Math.Path.{fun_ext}
use Rattle.std.proofs.Math.Dec.{eqb-zero-suc, eqb-suc-zero, eqb-suc-suc}
use Rattle.std.proofs.Math.IntN.{+ℤ_idl, +ℤ_idr, zero-*ℤ, *ℤ-zero, neg_ℤ-+ℤ}
use Rattle.network.specs.Integers.{eqZ}
use Rattle.network.specs.Sums.{sum, only}
use Rattle.network.specs.Network.{potential, tension}
use Rattle.network.specs.Flows.{Flow, inflow, balanced}
use Rattle.network.specs.laws.Integers.{+ℤ-*ℤ, *ℤ-+ℤ, *ℤ_negℤ, negℤ-*ℤ, +ℤ_swap, eqZ→eq}
use Rattle.network.specs.laws.Tests.{below_at}
use Rattle.network.specs.laws.Sums.{sum_ext}

-- the sum of potential times g over the nodes
unfoldable pub dot : List ℤ → (ℕ → ℤ) → ℤ
dot [] g = pos 0
dot (x ∷ p) g = x *ℤ g 0 +ℤ dot p (λ v. g (suc v))

-- factors that are equal
dot_ext : (p : List ℤ) (g h : ℕ → ℤ) → ((v : ℕ) → g v ≡ h v) → dot p g ≡ dot p h
dot_ext p g h e = ap (λ (k : ℕ → ℤ). dot p k) (fun_ext e)

-- factors that are 0 at every node
dot_zero : (p : List ℤ) (g : ℕ → ℤ) → ((v : ℕ) → v < length p → g v ≡ pos 0) → dot p g ≡ pos 0
unfolding dot
dot_zero [] g e = refl
dot_zero (x ∷ p) g e =
    rw (e 0 (omega arith), *ℤ-zero x, dot_zero p (λ v. g (suc v)) (λ v h. e (suc v) (omega arith)))

-- factors that are sums
dot_add : (p : List ℤ) (g h : ℕ → ℤ) → dot p (λ v. g v +ℤ h v) ≡ dot p g +ℤ dot p h
unfolding dot
dot_add [] g h = refl
dot_add (x ∷ p) g h =
    rw (*ℤ-+ℤ x (g 0) (h 0), dot_add p (λ v. g (suc v)) (λ v. h (suc v)))
    (+ℤ_swap (x *ℤ g 0) (x *ℤ h 0) (dot p (λ v. g (suc v))) (dot p (λ v. h (suc v))))

-- factors that are negations
dot_neg : (p : List ℤ) (g : ℕ → ℤ) → dot p (λ v. neg_ℤ (g v)) ≡ neg_ℤ (dot p g)
unfolding dot
dot_neg [] g = refl
dot_neg (x ∷ p) g =
    rw (*ℤ_negℤ x (g 0), dot_neg p (λ v. g (suc v))) (sym (neg_ℤ-+ℤ (x *ℤ g 0) (dot p (λ v. g (suc v)))))

-- a factor at one node only; at ground it counts 0 times
dot_only : (p : List ℤ) (u : ℕ) (x : ℤ) → dot p (only u x) ≡ potential p u *ℤ x
unfolding dot
dot_only [] u x = sym (zero-*ℤ x)
dot_only (c ∷ p) zero x =
    ap (λ (z : ℤ). c *ℤ x +ℤ z) (dot_zero p (λ v. only zero x (suc v)) (λ v h. simp eqb-zero-suc)) ∙ +ℤ_idr (c *ℤ x)
dot_only (c ∷ p) (suc u) x =
    ap₂ (λ (y z : ℤ). c *ℤ y +ℤ z) (simp eqb-suc-zero)
    (dot_ext p (λ v. only (suc u) x (suc v)) (only u x) (λ v. simp eqb-suc-suc) ∙ dot_only p u x)
    ∙ ap (λ (y : ℤ). y +ℤ potential p u *ℤ x) (*ℤ-zero c) ∙ +ℤ_idl (potential p u *ℤ x)

-- one flow
dot_inflow : (p : List ℤ) (f : Flow) → dot p (λ v. inflow v f) ≡ tension p f.on *ℤ f.amount
dot_inflow p f =
    dot_add p (only f.on.head f.amount) (λ v. neg_ℤ (only f.on.tail f.amount v))
    ∙ ap₂ ◌+ℤ◌ (dot_only p f.on.head f.amount)
    (dot_neg p (only f.on.tail f.amount) ∙ ap neg_ℤ (dot_only p f.on.tail f.amount))
    ∙ sym (+ℤ-*ℤ (potential p f.on.head) (neg_ℤ (potential p f.on.tail)) f.amount
    ∙ ap (λ (z : ℤ). potential p f.on.head *ℤ f.amount +ℤ z) (negℤ-*ℤ (potential p f.on.tail) f.amount))

-- the sums over nodes and flows, exchanged
dot_sum : (p : List ℤ) (fs : List Flow) → dot p (λ v. sum (inflow v) fs) ≡ sum (λ f. dot p (λ v. inflow v f)) fs
dot_sum p [] = dot_zero p (λ v. pos 0) (λ v h. refl)
dot_sum p (f ∷ fs) =
    dot_add p (λ v. inflow v f) (λ v. sum (inflow v) fs) ∙ ap (λ (z : ℤ). dot p (λ v. inflow v f) +ℤ z) (dot_sum p fs)

-- what the flows bring to the nodes, times the nodes' potentials, is tension times flow
pub by_parts : (p : List ℤ) (fs : List Flow) → dot p (λ v. sum (inflow v) fs) ≡ sum (λ f. tension p f.on *ℤ f.amount) fs
by_parts p fs = dot_sum p fs ∙ sum_ext (λ f. dot p (λ v. inflow v f)) (λ f. tension p f.on *ℤ f.amount) (dot_inflow p) fs

-- where the flows balance, tension times flow adds up to 0
pub balanced_null : (p : List ℤ) (fs : List Flow) → T (balanced (length p) fs)
    → sum (λ f. tension p f.on *ℤ f.amount) fs ≡ pos 0
balanced_null p fs b =
    sym (by_parts p fs)
    ∙ dot_zero p (λ v. sum (inflow v) fs)
    (λ v h. eqZ→eq (sum (inflow v) fs) (pos 0) (below_at (length p) (λ v. eqZ (sum (inflow v) fs) (pos 0)) b v h))
