-- The balances after each flow are what the flows so far bring to each node: one law for a store, one for a flow, one for
-- the loop.
use Prim.Native.Nat.{ℕ, zero, suc, ◌+◌, ◌*◌, ◌≤◌, ◌<◌}
use mathlib.Core.Path.{◌≡◌, refl, sym, ◌∙◌, ap, ap₂}
use mathlib.Core.Bool.{Bool, true, false, cond}
use mathlib.Core.List.{List}
use native.Mathlib.Decide.{ℕ_discrete}
use native.Mathlib.Omega.{arith}
use lib.Dec.{eqb}
use lib.IntN.{ℤ, pos, negsuc, neg_ℤ, nat_abs, ◌+ℤ◌, +ℤ_idr, +ℤ_assoc}
use lib.ListN.{length, get_or, set, replicate, length-set}
use lib.Seq.{get_or-set_same, get_or-set_other}
use borrow.Author.Tests.{eq-eqb, ne_eqb}
use Rattle.network.specs.Integers.{eqZ}
use Rattle.network.specs.Sums.{sum, below, only, upto}
use Rattle.network.specs.Flows.{Flow, inflow, balanced}
use Rattle.network.specs.Packed.{flow_at}
use Rattle.network.specs.laws.Sizes.{size_neg, size_add}
use Rattle.network.specs.laws.Tests.{below_ext}
use Rattle.checker.specs.inside.Sizes.{amount_size}
use Rattle.checker.specs.inside.Balances.{Within, Shifted, Brought, Balanced}
use Rattle.checker.proofs.laws.Loops.{sum_none, sum_next}

-- the number at its node
only_same : (v : ℕ) (x : ℤ) (u : ℕ) → v ≡ u → only v x u ≡ x
only_same v x u e = ap (λ (b : Bool). cond b x (pos 0)) (eq-eqb v u e)

-- and at any other
only_other : (v : ℕ) (x : ℤ) (u : ℕ) → (v ≡ u → ⊥) → only v x u ≡ pos 0
only_other v x u h = ap (λ (b : Bool). cond b x (pos 0)) (ne_eqb v u h)

-- its negation
only_neg : (v : ℕ) (x : ℤ) (u : ℕ) → only v (neg_ℤ x) u ≡ neg_ℤ (only v x u)
only_neg v x u = pick (eqb v u)
  where
    pick : (b : Bool) → cond b (neg_ℤ x) (pos 0) ≡ neg_ℤ (cond b x (pos 0))
    pick true = refl
    pick false = refl

-- its size
only_size : (v : ℕ) (x : ℤ) (u : ℕ) → nat_abs (only v x u) ≤ nat_abs x
only_size v x u = pick (eqb v u)
  where
    pick : (b : Bool) → nat_abs (cond b x (pos 0)) ≤ nat_abs x
    pick true = omega arith
    pick false = omega arith

-- a sum stored at a node
pub shifted : (b : List ℤ) (v : ℕ) (x r : ℤ) → v < length b → r ≡ get_or b v (pos 0) +ℤ x → Shifted b v x (set b v r)
shifted b v x r h e = record {
  size = simp length-set;
  moved = λ u l. elim (ℕ_discrete u v) [
    | yes same ↦
        ap (λ (k : ℕ). get_or (set b v r) k (pos 0)) same ∙ get_or-set_same b v r (pos 0) h ∙ e
        ∙ ap₂ (λ (k : ℕ) (z : ℤ). get_or b k (pos 0) +ℤ z) (sym same) (sym (only_same v x u (sym same)))
    | no ne ↦
        get_or-set_other b v u r (pos 0) ne
        ∙ sym (ap (λ (z : ℤ). get_or b u (pos 0) +ℤ z) (only_other v x u (λ e. ne (sym e))) ∙ +ℤ_idr (get_or b u (pos 0)))
  ];
}

-- nothing is stored past the list, where ground is
pub shifted_past : (b : List ℤ) (v : ℕ) (x : ℤ) → length b ≤ v → Shifted b v x b
shifted_past b v x h = record {
  size = refl;
  moved = λ u l. sym (ap (λ (z : ℤ). get_or b u (pos 0) +ℤ z) (only_other v x u (apart u l)) ∙ +ℤ_idr (get_or b u (pos 0)));
}
  where
    apart : (u : ℕ) → u < length b → v ≡ u → ⊥
    apart u l e = omega arith

-- the sizes after a store
pub shifted_within : {b c : List ℤ} {v : ℕ} {x : ℤ} (k m : ℕ) → Within b k → nat_abs x ≤ m → Shifted b v x c → Within c (k + m)
shifted_within {b} {c} {v} {x} k m w h s u l =
    let l' : u < length b = omega (arith, s.size) in
    omega (arith, ap nat_abs (s.moved u l'), size_add (get_or b u (pos 0)) (only v x u), only_size v x u, w u l')

-- a flow brings its amount to its head and the negation to its tail
pub brought : {b c d : List ℤ} {h t : ℕ} {x y : ℤ} (f : Flow) → h ≡ f.on.head → t ≡ f.on.tail → x ≡ f.amount → y ≡ neg_ℤ f.amount
    → nat_abs f.amount ≤ amount_size → Shifted b h x c → Shifted c t y d → Brought f b d
brought {b} {c} {d} {h} {t} {x} {y} f at_head at_tail is neg small s1 s2 = record {
  size = s2.size ∙ s1.size;
  moved = λ u l.
      let l' : u < length c = omega (arith, s1.size) in
      s2.moved u l' ∙ ap (λ (z : ℤ). z +ℤ only t y u) (s1.moved u l)
      ∙ +ℤ_assoc (get_or b u (pos 0)) (only h x u) (only t y u)
      ∙ ap (λ (z : ℤ). get_or b u (pos 0) +ℤ z) (parts u);
  small = small;
}
  where
    parts : (u : ℕ) → only h x u +ℤ only t y u ≡ inflow u f
    parts u = rw (at_head, at_tail, is, neg, only_neg f.on.tail f.amount u)

-- what a flow brings is no larger than its amount twice
inflow_size : (u : ℕ) (f : Flow) → nat_abs (inflow u f) ≤ 2 * nat_abs f.amount
inflow_size u f =
    let out : ℤ = only f.on.tail f.amount u in
    omega (
      arith,
      size_add (only f.on.head f.amount u) (neg_ℤ out),
      size_neg out,
      only_size f.on.head f.amount u,
      only_size f.on.tail f.amount u,
    )

-- the sizes after a flow
pub brought_within : {b c : List ℤ} {f : Flow} (k : ℕ) → Within b k → Brought f b c → Within c (k + 2 * amount_size)
brought_within {b} {c} {f} k w s u l =
    let l' : u < length b = omega (arith, s.size) in
    omega (arith, ap nat_abs (s.moved u l'), size_add (get_or b u (pos 0)) (inflow u f), inflow_size u f, s.small, w u l')

-- what i flows bring is counted
pub record Counted (a : List ℕ) (y : List ℤ) (n : ℕ) (old new : List ℤ) (i : ℕ) : Type 0 where
  pub turns : i ≤ n
  pub balanced : Balanced a y i old new
  pub small : Within new (i * (2 * amount_size))

-- a number of size 0
zero_size : (z : ℤ) → nat_abs z ≤ 0 → z ≡ pos 0
zero_size (pos zero) h = refl
zero_size (pos (suc k)) h = absurd (omega arith)
zero_size (negsuc k) h = absurd (omega arith)

-- before the first flow
pub count_begin : (a : List ℕ) (y : List ℤ) (n : ℕ) (old : List ℤ) → Within old 0 → Counted a y n old old 0
count_begin a y n old w = record {
  turns = omega arith;
  balanced = record { size = refl; sums = λ u l. zero_size (get_or old u (pos 0)) (w u l) ∙ sym (sum_none (inflow u) (flow_at a y)) };
  small = λ u l. omega (arith, w u l);
}

-- one flow more
pub count_next : {a : List ℕ} {y old b c : List ℤ} {n i : ℕ} → Counted a y n old b i → i < n → Brought (flow_at a y i) b c
    → Counted a y n old c (i + 1)
count_next {a} {y} {old} {b} {c} {n} {i} p l s = record {
  turns = omega arith;
  balanced = record {
    size = s.size ∙ p.balanced.size;
    sums = λ u k.
        let l' : u < length b = omega (arith, p.balanced.size) in
        s.moved u l' ∙ ap (λ (z : ℤ). z +ℤ inflow u (flow_at a y i)) (p.balanced.sums u k) ∙ sym (sum_next (inflow u) (flow_at a y) i);
  };
  small = λ u k. omega (arith, brought_within (i * (2 * amount_size)) p.small s u k);
}

-- a new array
pub none_yet : (k u : ℕ) → nat_abs (get_or (replicate k (pos 0)) u (pos 0)) ≤ 0
none_yet zero zero = omega arith
none_yet zero (suc u) = omega arith
none_yet (suc k) zero = omega arith
none_yet (suc k) (suc u) = none_yet k u

-- balance at each node, from the array
pub balanced_is : {a : List ℕ} {y old new : List ℤ} {n : ℕ} (nodes : ℕ) → Balanced a y n old new → nodes ≤ length old
    → below nodes (λ v. eqZ (get_or new v (pos 0)) (pos 0)) ≡ balanced nodes (upto n (flow_at a y))
balanced_is {a} {y} {old} {new} {n} nodes b h =
    below_ext (λ v. eqZ (get_or new v (pos 0)) (pos 0)) (λ v. eqZ (sum (inflow v) (upto n (flow_at a y))) (pos 0)) nodes
    (λ v l. ap (λ (z : ℤ). eqZ z (pos 0)) (b.sums v (omega arith)))
