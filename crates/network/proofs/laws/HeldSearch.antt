-- The held nodes of given potentials, found by search from ground along tight residual arcs; each step adds a node, so it ends.
use Rattle.std.specs.Prelude.{◌≡◌, refl, List, [], ◌∷◌, Bool, true, false, not, ◌&&◌, cond, ℕ, zero, suc, ◌≤◌, ◌<◌, T, eqb, leb, ℤ, ◌+ℤ◌, length}
use Rattle.std.proofs.Common.{sym, ◌∙◌, ap, subst, arith, T_not, leb→le, eq-eqb, ne_eqb}
use Rattle.std.proofs.Math.Decide.{ℕ_discrete, dec_lt}
use Rattle.std.proofs.Math.Dec.{le→leb}
use Rattle.network.specs.Integers.{eqZ}
use Rattle.network.specs.Sums.{all, sum_to}
use Rattle.network.specs.Network.{potential}
use Rattle.network.specs.laws.Integers.{eqZ→eq}
use Rattle.network.specs.laws.Tests.{and_left, and_right, Listed, listed_here, listed_later}
use Rattle.network.specs.laws.SumsTo.{sum_to_lt, sum_to_bound}
use Rattle.network.proofs.laws.Residuals.{Residual}
use Rattle.network.proofs.laws.Held.{Held}
use Rattle.network.proofs.laws.Held.Held.{by_ground, along}

-- residual arc r is tight at p, and goes from a node of the set H to one outside
abbrev pub leaves : List ℤ → (ℕ → Bool) → Residual → Bool
leaves p H r = (H r.from && not (H r.to)) && eqZ (potential p r.from +ℤ r.by) (potential p r.to)

-- the set H and node u
abbrev pub add : ℕ → (ℕ → Bool) → ℕ → Bool
add u H v = cond (eqb u v) true (H v)

-- the set with the end of the first residual arc that leaves it, if one does
abbrev pub step : List ℤ → (ℕ → Bool) → List Residual → (ℕ → Bool)
step p H [] = H
step p H (r ∷ rs) = cond (leaves p H r) (add r.to H) (step p H rs)

-- n steps, one after the other
abbrev pub steps : ℕ → List ℤ → (ℕ → Bool) → List Residual → (ℕ → Bool)
steps zero p H rs = H
steps (suc n) p H rs = steps n p (step p H rs) rs

-- from ground, as many steps as there are nodes
unfoldable pub held_set : List ℤ → List Residual → (ℕ → Bool)
held_set p rs = steps (length p) p (leb (length p)) rs

-- what a step finds: no residual arc leaves the set, or one does and its end is added
data Search (p : List ℤ) (H : ℕ → Bool) (rs : List Residual) : Type 0 where
  closed : T (all (λ r. not (leaves p H r)) rs) → step p H rs ≡ H → Search p H rs
  found : {r : Residual} → Listed r rs → T (leaves p H r) → step p H rs ≡ add r.to H → Search p H rs

-- a step finds one or the other
search_all : (p : List ℤ) (H : ℕ → Bool) (rs : List Residual) → Search p H rs
search_all p H [] = closed tt refl
search_all p H (r ∷ rs) = go (leaves p H r) refl (search_all p H rs)
  where
    -- where the first residual arc does not leave the set, the others decide
    more : leaves p H r ≡ false → Search p H rs → Search p H (r ∷ rs)
    more e (closed t f) = closed (rw e t) (rw e f)
    more e (found m t f) = found (listed_later r rs m) t (rw e f)

    go : (b : Bool) → leaves p H r ≡ b → Search p H rs → Search p H (r ∷ rs)
    go true e rest = found (listed_here r rs) (rw e tt) (rw e)
    go false e rest = more e rest

-- how many of the first n nodes are not in the set
abbrev missing : ℕ → (ℕ → Bool) → ℕ
missing n H = sum_to n (λ v. cond (H v) 0 1)

-- adding one of them that is missing leaves fewer missing
missing_less : (u : ℕ) (H : ℕ → Bool) (n : ℕ) → u < n → T (not (H u)) → missing n (add u H) < missing n H
missing_less u H n h t = sum_to_lt n (λ v. cond (add u H v) 0 1) (λ v. cond (H v) 0 1) (λ v l. no_more v) u h (less (H u) t)
  where
    -- no other node goes missing
    no_more : (v : ℕ) → cond (add u H v) 0 1 ≤ cond (H v) 0 1
    no_more v = elim (eqb u v) as (λ b. cond (cond b true (H v)) 0 1 ≤ cond (H v) 0 1) [ true ↦ omega arith | false ↦ omega arith ]

    -- and this one counts no more
    less : (b : Bool) → T (not b) → cond (cond (eqb u u) true b) 0 1 < cond b 0 1
    less true f = absurd f
    less false f = rw (eq-eqb u u refl) (omega arith)

-- at most all n are missing
missing_all : (n : ℕ) (H : ℕ → Bool) → missing n H ≤ n
missing_all n H = omega (arith, sum_to_bound n 1 (λ v. cond (H v) 0 1) (λ v l. one (H v)))
  where
    one : (b : Bool) → cond b 0 1 ≤ 1
    one true = omega arith
    one false = omega arith

-- the search is complete: the set holds held nodes only, ground among them, and no tight residual arc leaves it
pub record Reached (p : List ℤ) (rs : List Residual) (H : ℕ → Bool) : Type 0 where
  pub sound : (v : ℕ) → T (H v) → Held p rs v
  pub past : (v : ℕ) → length p ≤ v → T (H v)
  pub shut : T (all (λ r. not (leaves p H r)) rs)

module _ (p : List ℤ) (rs : List Residual) where
  -- the set holds held nodes only
  abbrev Sound : (ℕ → Bool) → Type 0
  Sound H = (v : ℕ) → T (H v) → Held p rs v

  -- the set holds ground
  abbrev Past : (ℕ → Bool) → Type 0
  Past H = (v : ℕ) → length p ≤ v → T (H v)

  -- a held node may be added
  add_sound : (u : ℕ) (H : ℕ → Bool) → Held p rs u → Sound H → Sound (add u H)
  add_sound u H h s v t = elim (ℕ_discrete u v) [
    | yes e ↦ subst (Held p rs) e h
    | no ne ↦ s v (subst (λ (b : Bool). T (cond b true (H v))) (ne_eqb u v ne) t)
  ]

  -- ground stays in the set
  add_past : (u : ℕ) (H : ℕ → Bool) → Past H → Past (add u H)
  add_past u H z v e = elim (eqb u v) as (λ b. T (cond b true (H v))) [ true ↦ tt | false ↦ z v e ]

  -- a number outside the set is a node
  inside : (v : ℕ) (H : ℕ → Bool) → Past H → T (not (H v)) → v < length p
  inside v H z t = elim (dec_lt v (length p)) [
    | yes node ↦ node
    | no past ↦ absurd (T_not (H v) t (z v (omega arith)))
  ]

  -- where one step adds nothing, no step does
  stays : (n : ℕ) (H : ℕ → Bool) → step p H rs ≡ H → steps n p H rs ≡ H
  stays zero H e = refl
  stays (suc n) H e = ap (λ (G : ℕ → Bool). steps n p G rs) e ∙ stays n H e

  -- one step: the search is complete, or a held node is added and fewer are missing
  onward : (n : ℕ) (H : ℕ → Bool) → Sound H → Past H → Search p H rs
      → ((u : ℕ) → step p H rs ≡ add u H → Sound (add u H) → Past (add u H)
      → missing (length p) (add u H) < missing (length p) H → Reached p rs (steps n p H rs))
      → Reached p rs (steps n p H rs)
  onward n H s z (closed t e) next = subst (Reached p rs) (sym (stays n H e)) (record { sound = s; past = z; shut = t })
  onward n H s z (found {r = r} m t e) next =
      let tight : Bool = eqZ (potential p r.from +ℤ r.by) (potential p r.to) in
      let ends : T (H r.from && not (H r.to)) = and_left (H r.from && not (H r.to)) tight t in
      let out : T (not (H r.to)) = and_right (H r.from) (not (H r.to)) ends in
      let equal = eqZ→eq (potential p r.from +ℤ r.by) (potential p r.to) (and_right (H r.from && not (H r.to)) tight t) in
      let h : Held p rs r.to = along m equal (s r.from (and_left (H r.from) (not (H r.to)) ends)) in
      next r.to e (add_sound r.to H h s) (add_past r.to H z) (missing_less r.to H (length p) (inside r.to H z out) out)

  -- with a step for each missing node the search is complete
  reach : (n : ℕ) (H : ℕ → Bool) → Sound H → Past H → missing (length p) H ≤ n → Reached p rs (steps n p H rs)
  reach zero H s z few = onward zero H s z (search_all p H rs) (λ u e s' z' less. absurd (omega (arith, few, less)))
  reach (suc n) H s z few =
      onward (suc n) H s z (search_all p H rs)
      (λ u e s' z' less. subst (λ (G : ℕ → Bool). Reached p rs (steps n p G rs)) (sym e)
      (reach n (add u H) s' z' (omega (arith, few, less))))

  -- so it is with a step for each node
  pub held_reached : Reached p rs (held_set p rs)
  unfolding held_set
  held_reached =
      reach (length p) (leb (length p)) (λ v t. by_ground (leb→le (length p) v t)) (λ v h. le→leb (length p) v h)
      (missing_all (length p) (leb (length p)))
