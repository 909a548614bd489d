-- How high potentials rise: reached nodes are near the source, a step makes an arc to an unreached node tight, and a node
-- with an excess never rises; so no count of searches enters.
use Rattle.network.specs.Net.{Net, arcs, tail, head}
use Rattle.network.specs.WellFormed.{WellFormed}
use Rattle.circulation.specs.inside.Search.{Crosses, step, Near, Link}
use mathlib.Core.Path.{◌≡◌, ap}
use mathlib.Core.Logic.{⊎_elim}
use Prim.Native.Nat.{ℕ, ◌+◌, ◌*◌, ◌≤◌, ◌<◌}
use native.Mathlib.Omega.{arith}
use Rattle.network.specs.Packed.{high_none, kink_zero}
use Rattle.network.specs.Limits.{most_nodes}

-- a node that hangs on a near node by a tight arc is near, later in the order
pub near_link : {N : Net} {n s : ℕ} {order p x residual : ℕ → ℕ} (v i : ℕ) → WellFormed N n → Link N p x order residual v i
    → ((u : ℕ) → u < n → 0 < order u → order u < order v → (p u ≤ p s + kink_zero * order u) × (p s ≤ p u + kink_zero * order u))
    → (p v ≤ p s + kink_zero * order v) × (p s ≤ p v + kink_zero * order v)
near_link {N} {n} {s} {order} {p} v i wf k near = ⊎_elim
    (λ c. let b = near (head N i) (wf.arc_in i k.arc_in).head_in c.1 c.2 in (
      omega (arith, b.0, b.1, c.2, ap p c.0, k.tight, (wf.arc_in i k.arc_in).kink_high),
      omega (arith, b.0, b.1, c.2, ap p c.0, k.tight, (wf.arc_in i k.arc_in).kink_high),
    ))
    (λ c. let b = near (tail N i) (wf.arc_in i k.arc_in).tail_in c.1 c.2 in (
      omega (arith, b.0, b.1, c.2, ap p c.0, k.tight, (wf.arc_in i k.arc_in).kink_high),
      omega (arith, b.0, b.1, c.2, ap p c.0, k.tight, (wf.arc_in i k.arc_in).kink_high),
    ))
    k.ends

-- a step that an arc to an unreached node limits: no reached node comes higher than 2 ^ 29 over the unreached ones
pub raise_top : {N : Net} {n s count top : ℕ} {order p : ℕ → ℕ} (x : ℕ → ℕ) (i : ℕ) → i < arcs N → WellFormed N n → Near n s order p
    → ((v : ℕ) → order v ≤ count) → count < n
    → ((v : ℕ) → v < n → order v ≡ 0 → p v ≤ top) → Crosses N p x order i
    → (w : ℕ) → w < n → 0 < order w → p w + step N p i ≤ top + high_none
raise_top {N} {n} {s} {count} {top} {order} {p} x i l wf m orders few low cross w w-in w-reached = ⊎_elim
    (λ c. omega (
      arith,
      c.slack,
      (wf.arc_in i l).kink_high,
      wf.nodes,
      low (tail N i) (wf.arc_in i l).tail_in c.to,
      m.below (head N i) (wf.arc_in i l).head_in c.from,
      m.above w w-in w-reached,
      orders w,
      orders (head N i),
    ))
    (λ c. omega (
      arith,
      c.slack,
      (wf.arc_in i l).kink_high,
      wf.nodes,
      low (head N i) (wf.arc_in i l).head_in c.to,
      m.below (tail N i) (wf.arc_in i l).tail_in c.from,
      m.above w w-in w-reached,
      orders w,
      orders (tail N i),
    ))
    cross

-- the search has come to t, which never rose: every reached node is within 2 ^ 29 of where t stood at the start
pub search_top : {n s t start : ℕ} {order p : ℕ → ℕ} → n ≤ most_nodes → Near n s order p → ((v : ℕ) → order v ≤ n) → t < n → 0 < order t
    → p t ≤ start
    → (w : ℕ) → w < n → 0 < order w → p w ≤ start + high_none
search_top {n} {s} {t} {start} {order} {p} few m orders t_in t_reached low w w-in w-reached =
    omega (arith, m.below t t_in t_reached, m.above w w-in w-reached, orders t, orders w)
