-- What is packed reads back as the same arcs: each number by cases, the list by induction.
use Rattle.std.specs.Prelude.{ℕ, zero, suc, ◌+◌, ◌-◌, ◌*◌, ◌<◌, ◌≡◌, refl, ◌&&◌, List, [], ◌∷◌, ◌++◌, T, ltb, ℤ, pos, negsuc, nat_abs, ◌-ℤ◌, length, get_or}
use Rattle.std.proofs.Common.{◌∙◌, ap, ap₂, arith, ne_eqb, ltb→lt}
use Rattle.std.proofs.Math.Path.{fun_ext}
use Rattle.network.specs.Sums.{all, upto}
use Rattle.network.specs.Network.{Limit, unlimited, limit, Arc}
use Rattle.network.specs.Packed.{tail_at, head_at, kink_at, low_at, high_at, stride, kink_zero, flow_zero, low_none}
use Rattle.network.specs.Packed.{high_none, raised, low_number, high_number, packs, inside, storable, low_of, high_of}
use Rattle.network.specs.Packed.{arc_of, arc_at, arcs_to}
use Rattle.network.specs.laws.IntegerParts.{parts_eq, less_parts}
use Rattle.network.specs.Integers.{down, up}
use Rattle.network.specs.laws.Tests.{and_left, and_right}
use Rattle.network.specs.laws.Indexed.{upto_first}

-- arcs put together
pub packs_append : (xs ys : List Arc) → packs (xs ++ ys) ≡ packs xs ++ packs ys
unfolding packs
packs_append [] ys = refl
packs_append (x ∷ xs) ys =
    ap (λ (l : List ℕ). x.tail ∷ x.head ∷ raised kink_zero x.kink ∷ low_number x.low ∷ high_number x.high ∷ l)
    (packs_append xs ys)

-- how many numbers
pub packs_length : (xs : List Arc) → length (packs xs) ≡ stride * length xs
unfolding packs
packs_length [] = refl
packs_length (x ∷ xs) = omega (arith, packs_length xs)

-- a number that is raised, lowered again
raised_back : (k : ℕ) (z : ℤ) → nat_abs z < k → pos (raised k z) -ℤ pos k ≡ z
unfolding up down
raised_back k (pos n) h =
    parts_eq (pos (k + n) -ℤ pos k) (pos n)
    (omega (arith, less_parts (k + n) k))
raised_back k (negsuc n) h =
    parts_eq (pos (k - suc n) -ℤ pos k) (negsuc n)
    (omega (arith, less_parts (k - suc n) k))

-- a raised number is not 0, and below twice what was added
pub raised_in : (k : ℕ) (z : ℤ) → nat_abs z < k → (0 < raised k z) × (raised k z < 2 * k)
raised_in k (pos n) h = (omega arith, omega arith)
raised_in k (negsuc n) h = (omega arith, omega arith)

-- a low limit, read back
low_back : (l : Limit) → T (inside l) → low_of (low_number l) ≡ l
unfolding low_of
low_back unlimited t = refl
low_back (limit x) t =
    let h : nat_abs x < flow_zero = ltb→lt (nat_abs x) flow_zero t in
    rw (ne_eqb (raised flow_zero x) low_none (λ e. omega (arith, raised_in flow_zero x h)), raised_back flow_zero x h)

-- a high limit, read back
high_back : (l : Limit) → T (inside l) → high_of (high_number l) ≡ l
unfolding high_of
high_back unlimited t = refl
high_back (limit x) t =
    let h : nat_abs x < flow_zero = ltb→lt (nat_abs x) flow_zero t in
    rw (ne_eqb (raised flow_zero x) high_none (λ e. omega (arith, raised_in flow_zero x h)), raised_back flow_zero x h)

-- arcs between the same ends with equal kinks and limits
arc_ext : {t h : ℕ} {k k' : ℤ} {l l' u u' : Limit} → k ≡ k' → l ≡ l' → u ≡ u'
    → ◌≡◌ {A = Arc} (record { tail = t; head = h; kink = k; low = l; high = u })
    (record { tail = t; head = h; kink = k'; low = l'; high = u' })
arc_ext e f g = rw (e, f, g)

-- the kink of a storable arc is small
kink_small : (a : Arc) → T (storable a) → nat_abs a.kink < kink_zero
kink_small a t =
    ltb→lt (nat_abs a.kink) kink_zero
    (and_left (ltb (nat_abs a.kink) kink_zero) (inside a.low && inside a.high) t)

-- an arc, read back
arc_back : (a : Arc) → T (storable a)
    → arc_of a.tail a.head (raised kink_zero a.kink) (low_number a.low) (high_number a.high) ≡ a
arc_back a t =
    let s = and_right (ltb (nat_abs a.kink) kink_zero) (inside a.low && inside a.high) t in
    arc_ext (raised_back kink_zero a.kink (kink_small a t))
    (low_back a.low (and_left (inside a.low) (inside a.high) s))
    (high_back a.high (and_right (inside a.low) (inside a.high) s))

-- number k of the next arc stands behind one arc more
next_at : (i k : ℕ) → stride * suc i + k ≡ suc (suc (suc (suc (suc (stride * i + k)))))
next_at i k = omega arith

-- the arc behind the first one
arc_next : (t h k l u : ℕ) (a : List ℕ) (i : ℕ) → arc_at (t ∷ h ∷ k ∷ l ∷ u ∷ a) (suc i) ≡ arc_at a i
arc_next t h k l u a i = rw (next_at i tail_at, next_at i head_at, next_at i kink_at, next_at i low_at, next_at i high_at)

-- packed arcs, whatever stands behind them, read back
pub arcs_back : (xs : List Arc) (rest : List ℕ) → T (all storable xs) → arcs_to (packs xs ++ rest) (length xs) ≡ xs
unfolding packs upto
arcs_back [] rest t = refl
arcs_back (x ∷ xs) rest t =
    upto_first (length xs) (arc_at (packs (x ∷ xs) ++ rest))
    ∙ ap₂ ◌∷◌ (arc_back x (and_left (storable x) (all storable xs) t))
    (ap (λ (f : ℕ → Arc). upto (length xs) f) (fun_ext (arc_next _ _ _ _ _ (packs xs ++ rest)))
    ∙ arcs_back xs rest (and_right (storable x) (all storable xs) t))

-- and their kinks are stored as small numbers
pub kinks_in : (xs : List Arc) (rest : List ℕ) → T (all storable xs) → (i : ℕ) → i < length xs
    → get_or (packs xs ++ rest) (stride * i + kink_at) 0 < 2 * kink_zero
unfolding packs
kinks_in [] rest t i h = absurd (omega arith)
kinks_in (x ∷ xs) rest t zero h = (raised_in kink_zero x.kink (kink_small x (and_left (storable x) (all storable xs) t))).1
kinks_in (x ∷ xs) rest t (suc i) h =
    rw (next_at i kink_at) (kinks_in xs rest (and_right (storable x) (all storable xs) t) i (omega arith))
