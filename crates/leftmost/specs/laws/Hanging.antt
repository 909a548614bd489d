-- Where every node of the network that packed arcs are hangs on ground, by an arc whose kink is not positive: it hangs by a packed
-- arc, since otherwise all arcs would pass the opposite test; and where any potentials are feasible, some that are not negative are.
use Rattle.std.specs.Prelude.{ℕ, zero, suc, ◌-◌, ◌*◌, ◌+◌, ◌≤◌, ◌<◌, ◌≡◌, refl, Bool, true, false, not, ◌&&◌, ◌||◌, List, map, T, eqb, ltb, leb, ℤ}
use Rattle.std.proofs.Common.{sym, subst, inl, inr, ⊎_elim, arith, eq-eqb, lt→ltb, le→leb, ltb→lt, leb→le, eqb→eq}
use Rattle.std.proofs.Math.Decide.{ℕ_discrete}
use Rattle.network.specs.Integers.{up}
use Rattle.network.specs.Network.{finite, Arc, Feasible}
use Rattle.network.specs.Packed.{stride, high_at, arc_at}
use Rattle.network.specs.Net.{at, Net, arcs, head, meant}
use Rattle.network.specs.laws.Tests.{and_left, and_right, and_both, or_left, or_right, either, is_false, not_both}
use Rattle.network.specs.laws.Indexed.{all_upto}
use Rattle.network.specs.laws.PackedLegal.{hard_high}
use Rattle.network.specs.laws.Hanging.{Hook, Hangs, natural_potentials}
use Rattle.circulation.specs.Input.{HangsBy, Rooted}
use Rattle.leftmost.specs.Solutions.{SomeFeasible}

-- a number below m that passes a test
pub record Index (t : ℕ → Bool) (m : ℕ) : Type 0 where
  pub index : ℕ
  pub below : index < m
  pub passes : T (t index)

-- where not all fail, one passes
some_index : (t : ℕ → Bool) (m : ℕ) → (((i : ℕ) → i < m → T (not (t i))) → ⊥) → Index t m
some_index t zero f = absurd (f (λ i l. absurd (omega arith)))
some_index t (suc m) f = go (some_index t m) (t m) refl
  where
    go : ((((i : ℕ) → i < m → T (not (t i))) → ⊥) → Index t m) → (b : Bool) → t m ≡ b → Index t (suc m)
    go earlier true e = record { index = m; below = omega arith; passes = subst T (sym e) tt }
    go earlier false e =
        let x = earlier (λ g. f (λ i l. elim (ℕ_discrete i m) [
          | yes s ↦ subst (λ (k : ℕ). T (not (t k))) (sym s) (subst (λ (b : Bool). T (not b)) (sym e) tt)
          | no ne ↦ g i (omega arith)
        ])) in
        record { index = x.index; below = omega (arith, x.below); passes = x.passes }

-- an arc by which node v hangs, of n nodes without ground
abbrev hooked : ℕ → ℕ → Arc → Bool
hooked n v x = eqb x.tail v && (not (finite x.high) && (leb n x.head || ltb x.head v))

-- a hook is hooked
hook_hooked : (n v : ℕ) (xs : List Arc) (k : Hook n xs v) → T (hooked n v k.arc)
hook_hooked n v xs k =
    let x : Arc = k.arc in
    and_both (eqb x.tail v) (not (finite x.high) && (leb n x.head || ltb x.head v))
    (subst T (sym (eq-eqb x.tail v k.tail_is)) tt)
    (and_both (not (finite x.high)) (leb n x.head || ltb x.head v) (rw k.hard tt)
    (⊎_elim
    (λ (past : n ≤ x.head). or_left (leb n x.head) (ltb x.head v) (le→leb n x.head past))
    (λ (less : x.head < v). or_right (leb n x.head) (ltb x.head v) (lt→ltb x.head v less))
    k.onto))

module _ (N : Net) (n : ℕ) (hangs : Hangs (meant N n)) where
  -- a packed arc by which node v hangs
  hook_index : (v : ℕ) → v < n - 1 → Index (λ i. hooked (n - 1) v (arc_at N.list i)) (arcs N)
  hook_index v l =
      let k : Hook (n - 1) (meant N n).arcs v = hangs.hook v l in
      some_index (λ i. hooked (n - 1) v (arc_at N.list i)) (arcs N)
      (λ none. not_both (hooked (n - 1) v k.arc) (hook_hooked (n - 1) v (meant N n).arcs k)
      (k.listed.passes (λ x. not (hooked (n - 1) v x)) (all_upto (λ x. not (hooked (n - 1) v x)) (arcs N) (arc_at N.list) none)))

  -- it hangs by it, where the arc's head is a node
  hangs_by : (v i : ℕ) → head N i < n → T (hooked (n - 1) v (arc_at N.list i)) → HangsBy N.list (n - 1) v i
  hangs_by v i head_in t =
      let x : Arc = arc_at N.list i in
      let side : Bool = leb (n - 1) x.head || ltb x.head v in
      let rest : T (not (finite x.high) && side) = and_right (eqb x.tail v) (not (finite x.high) && side) t in
      record {
        from = eqb→eq x.tail v (and_left (eqb x.tail v) (not (finite x.high) && side) t);
        hard =
            hard_high (at N.list (stride * i + high_at))
            (is_false (finite x.high) (and_left (not (finite x.high)) side rest));
        to =
            ⊎_elim
            (λ (past : T (leb (n - 1) x.head)). inl (last x.head (leb→le (n - 1) x.head past) head_in))
            (λ (less : T (ltb x.head v)). inr (ltb→lt x.head v less))
            (either (leb (n - 1) x.head) (ltb x.head v) (and_right (not (finite x.high)) side rest));
      }
    where
      last : (k : ℕ) → n - 1 ≤ k → k < n → k ≡ n - 1
      last k p q = omega arith

  -- every node hangs by a packed arc
  pub hangs_rooted : ((i : ℕ) → i < arcs N → head N i < n) → Rooted N n
  hangs_rooted heads-in = record {
    hangs = λ v l. let x = hook_index v l in record {
      arc = x.index;
      arc_in = x.below;
      by = hangs_by v x.index (heads-in x.index x.below) x.passes;
    };
  }

  -- feasible potentials, and there are such that are not negative
  pub feasible_some : (q : List ℤ) → Feasible (meant N n) q → SomeFeasible (meant N n)
  feasible_some q f = record {
    start = map up q;
    feasible = subst (Feasible (meant N n)) (sym (natural_potentials hangs q f)) f;
  }
