-- Edges with the same ends have one first among them, so one list only is what edges carry.
use Rattle.std.specs.Prelude.{ℕ, zero, suc, ◌<◌, ◌≡◌, refl, Bool, List, [], ◌∷◌, T, length}
use Rattle.std.proofs.Common.{sym, ◌∙◌, ap₂, arith}
use Rattle.std.proofs.Math.Decide.{ℕ_discrete}
use Rattle.network.specs.Sums.{all}
use Rattle.network.specs.laws.Tests.{and_both, Listed, listed_here, listed_later}
use Rattle.drawing.specs.Sheet.{Edge}
use Rattle.drawing.specs.Carriers.{At, SameEnds, FirstOf, Among, Greatest, Carries, Carried, AllCarried, Straight}
use Rattle.drawing.specs.Carriers.At.{here, later}

-- what carries a trace is straight if an edge with these ends is (document 02, ticket 4)
pub carries_straight : {es : List Edge} {e t : Edge} → Carries es e t → Among es e (λ j x. Straight x) → Straight t
carries_straight c a z = a.holds (omega (arith, c.kind.most a.index a.edge a.at a.ends))

-- and only then
pub straight_carried : {es : List Edge} {e t : Edge} → Carries es e t → Straight t → Among es e (λ j x. Straight x)
straight_carried c s =
    let a = c.kind.attained in
    record { index = a.index; edge = a.edge; at = a.at; ends = a.ends; holds = λ z. s (sym a.holds ∙ z) }

-- the same ends, the other way round
pub ends_back : {a b : Edge} → SameEnds a b → SameEnds b a
ends_back s = record { upper = sym s.upper; lower = sym s.lower }

-- the same ends as an edge with the same ends
pub ends_on : {a b c : Edge} → SameEnds a b → SameEnds b c → SameEnds a c
ends_on s t = record { upper = s.upper ∙ t.upper; lower = s.lower ∙ t.lower }

-- an edge's own ends
pub ends_own : (e : Edge) → SameEnds e e
ends_own e = record { upper = refl; lower = refl }

-- two edges have the same ends, or they have not
ends_known : (a b : Edge) → Dec (SameEnds a b)
ends_known a b = elim (ℕ_discrete a.upper b.upper) [
  | yes u ↦ elim (ℕ_discrete a.lower b.lower) [
    | yes l ↦ yes (record { upper = u; lower = l })
    | no n ↦ no (λ s. n s.lower)
  ]
  | no n ↦ no (λ s. n s.upper)
]

-- one edge stands at an index
pub at_one : {es : List Edge} {i : ℕ} {a b : Edge} → At es i a → At es i b → a ≡ b
at_one here here = refl
at_one (later a) (later b) = at_one a b

-- an edge that stands at an index is an element
pub at_listed : {es : List Edge} {i : ℕ} {e : Edge} → At es i e → Listed e es
at_listed (here {e = e} {es = es}) = listed_here e es
at_listed (later {x = x} {es = es} a) = listed_later x es (at_listed a)

-- a test that passes at each index passes of all edges
pub all_at : (t : Edge → Bool) (es : List Edge) → ((i : ℕ) (e : Edge) → At es i e → T (t e)) → T (all t es)
all_at t [] f = tt
all_at t (e ∷ es) f = and_both (t e) (all t es) (f 0 e here) (all_at t es (λ i x a. f (suc i) x (later a)))

-- an edge is among those with its ends
abbrev pub itself : {es : List Edge} {i : ℕ} {e : Edge} (P : ℕ → Edge → Type 0) → At es i e → P i e → Among es e P
itself {i = i} {e = e} P a p = record { index = i; edge = e; at = a; ends = ends_own e; holds = p }

-- an edge among others is among one more
pub further : {es : List Edge} {e : Edge} (x : Edge) (P Q : ℕ → Edge → Type 0)
    → ((j : ℕ) (y : Edge) → SameEnds y e → P j y → Q (suc j) y) → Among es e P → Among (x ∷ es) e Q
further x P Q f a = record {
  index = suc a.index;
  edge = a.edge;
  at = later a.at;
  ends = a.ends;
  holds = f a.index a.edge a.ends a.holds;
}

-- no edge stands before the first index
pub first_start : (es : List Edge) (e : Edge) → FirstOf es 0 e
first_start es e j x h = absurd (omega arith)

-- behind an edge with other ends, the first is the first
pub first_next : {es : List Edge} {i : ℕ} {x e : Edge} → (SameEnds x e → ⊥) → FirstOf es i e → FirstOf (x ∷ es) (suc i) e
first_next n f zero y h here s = n s
first_next n f (suc j) y h (later a) s = f j y (omega arith) a s

-- the edges with the ends of an edge have a first one
pub one_carrier : {es : List Edge} {i : ℕ} {e : Edge} → At es i e → Among es e (FirstOf es)
one_carrier {es} {e = e} here = itself (FirstOf es) here (first_start es e)
one_carrier {es = x ∷ es} {e = e} (later a) =
    let rest : Among es e (FirstOf es) = one_carrier a in
    elim (ends_known x e) [
      | yes s ↦ record { index = 0; edge = x; at = here; ends = s; holds = first_start (x ∷ es) x }
      | no n ↦ further x (FirstOf es) (FirstOf (x ∷ es)) (λ j y s. first_next (λ r. n (ends_on r s))) rest
    ]

-- before a first one there is none
earlier : {es : List Edge} {e : Edge} (a b : Among es e (FirstOf es)) → a.index < b.index → ⊥
earlier a b h = b.holds a.index a.edge h a.at (ends_on a.ends (ends_back b.ends))

-- so there is only one
pub carrier_unique : {es : List Edge} {e : Edge} (a b : Among es e (FirstOf es)) → a.index ≡ b.index
carrier_unique a b =
    let before : a.index < b.index → ⊥ = earlier a b in
    let behind : b.index < a.index → ⊥ = earlier b a in
    omega arith

-- an edge is the first with its ends, or it is not
pub first_known : {es : List Edge} {i : ℕ} {e : Edge} → At es i e → Dec (FirstOf es i e)
first_known {es} {i} {e} a =
    let c = one_carrier a in
    elim (ℕ_discrete c.index i) [
      | yes same ↦ yes (λ j x h b s. c.holds j x (omega arith) b (ends_on s (ends_back c.ends)))
      | no n ↦ no (λ f. n (carrier_unique c (itself (FirstOf es) a f)))
    ]

-- the greatest is one number
greatest_one : {es : List Edge} {e : Edge} (f : Edge → ℕ) {m n : ℕ} → Greatest es e f m → Greatest es e f n → m ≡ n
greatest_one f a b =
    let x = a.attained in
    let y = b.attained in
    omega (arith, x.holds, y.holds, a.most y.index y.edge y.at y.ends, b.most x.index x.edge x.at x.ends)

-- edges are equal by their numbers
same_edge : (a b : Edge) → SameEnds a b → a.kind ≡ b.kind → a.weight ≡ b.weight → a ≡ b
same_edge a b s k w = λ i. record { upper = s.upper i; lower = s.lower i; kind = k i; weight = w i }

-- an edge carries one thing
carried_one : {es : List Edge} {i : ℕ} {e a b : Edge} → At es i e → Carried es i e a → Carried es i e b → a ≡ b
carried_one {a = a} {b = b} at c d = elim (first_known at) [
  | yes f ↦
      let x = c.first f in
      let y = d.first f in
      same_edge a b (ends_on x.ends (ends_back y.ends)) (greatest_one (λ x. x.kind) x.kind y.kind)
      (greatest_one (λ x. x.weight) x.weight y.weight)
  | no n ↦
      let x = c.other n in
      let y = d.other n in
      same_edge a b (ends_on x.ends (ends_back y.ends)) (x.kind ∙ sym y.kind) (x.weight ∙ sym y.weight)
]

-- where an edge stands in a list, one stands in every list as long
pub at_length : {xs : List Edge} {i : ℕ} {x : Edge} (ys : List Edge) → length xs ≡ length ys → At xs i x → (y : Edge) × At ys i y
at_length [] l here = absurd (omega arith)
at_length (y ∷ ys) l here = (y, here)
at_length [] l (later a) = absurd (omega arith)
at_length (y ∷ ys) l (later a) = let rest = at_length ys (omega arith) a in (rest.0, later rest.1)

-- lists are equal by their edges
same_list : (xs ys : List Edge) → length xs ≡ length ys → ((i : ℕ) (x y : Edge) → At xs i x → At ys i y → x ≡ y) → xs ≡ ys
same_list [] [] l f = refl
same_list [] (y ∷ ys) l f = absurd (omega arith)
same_list (x ∷ xs) [] l f = absurd (omega arith)
same_list (x ∷ xs) (y ∷ ys) l f =
    ap₂ ◌∷◌ (f 0 x y here here) (same_list xs ys (omega arith) (λ i a b p q. f (suc i) a b (later p) (later q)))

-- only one list is what edges carry
pub carried_unique : {es ts us : List Edge} → AllCarried es ts → AllCarried es us → ts ≡ us
carried_unique {es} {ts} {us} c d =
    same_list ts us (c.size ∙ sym d.size)
    (λ i t u a b. let e = at_length es c.size a in carried_one e.1 (c.each i e.0 t e.1 a) (d.each i e.0 u e.1 b))
