-- What edges carry, in words that `traces` does not share: indices, and ends that are equal.
use Rattle.std.specs.Prelude.{ℕ, zero, suc, ◌≤◌, ◌<◌, ◌≡◌, List, ◌∷◌, length}
use Rattle.drawing.specs.Sheet.{Edge}

-- an edge stands at an index of a list
pub data At : List Edge → ℕ → Edge → Type 0 where
  here : {e : Edge} {es : List Edge} → At (e ∷ es) zero e
  later : {x e : Edge} {es : List Edge} {i : ℕ} → At es i e → At (x ∷ es) (suc i) e

-- two edges have the same ends
pub record SameEnds (a b : Edge) : Type 0 where
  pub upper : a.upper ≡ b.upper
  pub lower : a.lower ≡ b.lower

-- no edge has the ends of e
abbrev pub NoneOf : List Edge → Edge → Type 0
NoneOf es e = (j : ℕ) (x : Edge) → At es j x → SameEnds x e → ⊥

-- no edge before index i has the ends of e
abbrev pub FirstOf : List Edge → ℕ → Edge → Type 0
FirstOf es i e = (j : ℕ) (x : Edge) → j < i → At es j x → SameEnds x e → ⊥

-- some edge has the ends of e, and P holds of its index and of it
pub record Among (es : List Edge) (e : Edge) (P : ℕ → Edge → Type 0) : Type 0 where
  pub index : ℕ
  pub edge : Edge
  pub at : At es index edge
  pub ends : SameEnds edge e
  pub holds : P index edge

-- n is the greatest number that f gives for the edges with the ends of e
pub record Greatest (es : List Edge) (e : Edge) (f : Edge → ℕ) (n : ℕ) : Type 0 where
  pub most : (j : ℕ) (x : Edge) → At es j x → SameEnds x e → f x ≤ n
  pub attained : Among es e (λ j x. f x ≡ n)

-- t carries the trace of e: the greatest kind and the greatest weight of the edges with these ends
pub record Carries (es : List Edge) (e t : Edge) : Type 0 where
  pub ends : SameEnds t e
  pub kind : Greatest es e (λ x. x.kind) t.kind
  pub weight : Greatest es e (λ x. x.weight) t.weight

-- t carries nothing
pub record CarriesNothing (e t : Edge) : Type 0 where
  pub ends : SameEnds t e
  pub kind : t.kind ≡ 0
  pub weight : t.weight ≡ 0

-- t is what edge e, at index i, carries: its trace where it is the first with its ends, and nothing where it is not
pub record Carried (es : List Edge) (i : ℕ) (e t : Edge) : Type 0 where
  pub first : FirstOf es i e → Carries es e t
  pub other : (FirstOf es i e → ⊥) → CarriesNothing e t

-- ts is what the edges es carry, each at its index
pub record AllCarried (es ts : List Edge) : Type 0 where
  pub size : length ts ≡ length es
  pub each : (i : ℕ) (e t : Edge) → At es i e → At ts i t → Carried es i e t

-- no two edges have the same ends
abbrev pub Apart : List Edge → Type 0
Apart es = (i j : ℕ) (a b : Edge) → At es i a → At es j b → SameEnds a b → i ≡ j

-- an edge is straight: its kind is not 0
abbrev pub Straight : Edge → Type 0
Straight e = e.kind ≡ 0 → ⊥
