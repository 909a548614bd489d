-- A flow that is counted at the two ends of its arc: one deficit grows, the other shrinks.
use Rattle.network.specs.Net.{at}
use Rattle.circulation.specs.inside.Slackness.{pick}
use Rattle.network.specs.Nodes.{deficits, node_stride}
use Rattle.circulation.specs.inside.Stores.{Stored, Apart}
use mathlib.Core.Path.{◌≡◌, sym, ap, ◌∙◌}
use mathlib.Core.List.{List}
use Prim.Native.Nat.{ℕ, ◌+◌, ◌-◌, ◌/◌, ◌≤◌, ◌<◌}
use native.Mathlib.Decide.{ℕ_discrete}
use native.Mathlib.Omega.{arith}
use lib.ListN.{length, set, length-set}
use lib.Seq.{get_or-set_same, get_or-set_other}
use Rattle.circulation.specs.laws.Columns.{column_length}
use Rattle.circulation.proofs.laws.Columns.{apart_start, apart_next}
use Rattle.circulation.specs.laws.Picks.{pick_yes, pick_no}

-- what is enough stays enough where the other end gets more
pub stays_high : (e : List ℕ) (h t a : ℕ) → h < length e → a ≤ at e t → a ≤ at (set e h (at e h + a)) t
stays_high e h t a h_in enough = go (ℕ_discrete t h)
  where
    go : Dec (t ≡ h) → a ≤ at (set e h (at e h + a)) t
    go (yes same) = rw (same, get_or-set_same e h (at e h + a) 0 h_in) (omega arith)
    go (no ne) = rw (get_or-set_other e h t (at e h + a) 0 ne) enough

-- a unit of flow that is counted at its ends
pub charged : (e : List ℕ) (h t a : ℕ) → h < length e → t < length e → a ≤ at e t → (v : ℕ)
    → at (set (set e h (at e h + a)) t (at (set e h (at e h + a)) t - a)) v + pick t v a ≡ at e v + pick h v a
charged e h t a h_in t_in enough v = go (ℕ_discrete v t) (ℕ_discrete v h)
  where
    go : Dec (v ≡ t) → Dec (v ≡ h)
        → at (set (set e h (at e h + a)) t (at (set e h (at e h + a)) t - a)) v + pick t v a ≡ at e v + pick h v a
    go (yes v-t) (yes v-h) =
        omega (
          arith,
          ap (at (set (set e h (at e h + a)) t (at (set e h (at e h + a)) t - a))) v-t,
          get_or-set_same (set e h (at e h + a)) t (at (set e h (at e h + a)) t - a) 0 (simp length-set t_in),
          stays_high e h t a h_in enough,
          ap (at (set e h (at e h + a))) (sym v-t ∙ v-h),
          get_or-set_same e h (at e h + a) 0 h_in,
          ap (at e) v-h,
          pick_yes t v a (sym v-t),
          pick_yes h v a (sym v-h),
        )
    go (yes v-t) (no not-h) =
        omega (
          arith,
          ap (at (set (set e h (at e h + a)) t (at (set e h (at e h + a)) t - a))) v-t,
          get_or-set_same (set e h (at e h + a)) t (at (set e h (at e h + a)) t - a) 0 (simp length-set t_in),
          stays_high e h t a h_in enough,
          get_or-set_other e h t (at e h + a) 0 (λ same. not-h (v-t ∙ same)),
          ap (at e) v-t,
          pick_yes t v a (sym v-t),
          pick_no h v a (λ same. not-h (sym same)),
        )
    go (no not_t) (yes v-h) =
        omega (
          arith,
          get_or-set_other (set e h (at e h + a)) t v (at (set e h (at e h + a)) t - a) 0 not_t,
          ap (at (set e h (at e h + a))) v-h,
          get_or-set_same e h (at e h + a) 0 h_in,
          ap (at e) v-h,
          pick_no t v a (λ same. not_t (sym same)),
          pick_yes h v a (sym v-h),
        )
    go (no not_t) (no not-h) =
        omega (
          arith,
          get_or-set_other (set e h (at e h + a)) t v (at (set e h (at e h + a)) t - a) 0 not_t,
          get_or-set_other e h v (at e h + a) 0 not-h,
          pick_no t v a (λ same. not_t (sym same)),
          pick_no h v a (λ same. not-h (sym same)),
        )

-- the two stores of a charge
module _ (nodes one new : List ℕ) (t h a more less : ℕ) (t_in : t < length nodes / node_stride) (h_in : h < length nodes / node_stride)
    (enough : a ≤ at (deficits nodes) h)
    (more-is : more ≡ at (deficits nodes) t + a) (first : Stored 1 t more nodes one) where
  -- both stores
  pub charge_both : less ≡ at (deficits one) h - a → Stored 1 h less one new
      → ((v : ℕ) → at (deficits new) v + pick h v a ≡ at (deficits nodes) v + pick t v a) × Apart 1 nodes new
  charge_both less-is second = (
    λ v. rw (second.same, less-is, first.same, more-is)
        (charged (deficits nodes) t h a (omega (arith, column_length 1 nodes)) (omega (arith, column_length 1 nodes)) enough v),
    apart_next (apart_next (apart_start 1 nodes) first) second,
  )
