-- What stands where after the potentials are put into the nodes: each store touches its own number only.
use Prim.Native.Nat.{ℕ, zero, suc, ◌+◌, ◌*◌, ◌/◌, ◌≤◌, ◌<◌}
use mathlib.Core.Path.{◌≡◌, refl, sym, ◌∙◌, ap, ap₂}
use mathlib.Core.List.{List}
use native.Mathlib.Nat.{add-zero}
use native.Mathlib.Numerals.{add-one}
use native.Mathlib.Decide.{ℕ_discrete}
use native.Mathlib.Omega.{arith}
use lib.ListN.{length, take, set, length-take, length-set}
use lib.Seq.{get_or-take, get_or-set_same, get_or-set_other}
use Rattle.network.specs.Net.{at}
use Rattle.network.specs.Nodes.{node_stride, potentials, size}
use Rattle.circulation.specs.laws.Columns.{column_at, column_past}
use Rattle.leftmost.specs.inside.Potentials.{potentials_to}

-- none is put
pub potentials_none : (values nodes : List ℕ) → potentials_to 0 values nodes ≡ nodes
unfolding potentials_to
potentials_none values nodes = refl

-- one more
pub potentials_next : (n : ℕ) (values nodes : List ℕ)
    → potentials_to (n + 1) values nodes ≡ set (potentials_to n values nodes) (node_stride * n) (at values n)
unfolding potentials_to
potentials_next n values nodes = rw (add-one n)

-- so many values of a slice are enough
pub potentials_front : (n k : ℕ) (values nodes : List ℕ) → n ≤ k → potentials_to n (take k values) nodes ≡ potentials_to n values nodes
unfolding potentials_to
potentials_front zero k values nodes h = refl
potentials_front (suc n) k values nodes h =
    ap₂ (λ (l : List ℕ) (x : ℕ). set l (node_stride * n) x) (potentials_front n k values nodes (omega arith))
    (get_or-take k values n 0 (omega arith))

-- the nodes with the first n values, lent as a part
pub potentials_part : (n : ℕ) (values nodes : List ℕ) → n ≤ length values
    → potentials_to (length (take n values)) (take n values) nodes ≡ potentials_to n values nodes
potentials_part n values nodes h =
    let size : length (take n values) ≡ n = omega (arith, length-take n values) in
    ap (λ (k : ℕ). potentials_to k (take n values) nodes) size ∙ potentials_front n n values nodes (omega arith)

-- the length stays
pub potentials_length : (n : ℕ) (values nodes : List ℕ) → length (potentials_to n values nodes) ≡ length nodes
unfolding potentials_to
potentials_length zero values nodes = refl
potentials_length (suc n) values nodes =
    length-set (potentials_to n values nodes) (node_stride * n) (at values n) ∙ potentials_length n values nodes

-- the number that is put for node v
put_at : (n : ℕ) (values nodes : List ℕ) → node_stride * n ≤ length nodes → (v : ℕ) → v < n
    → at (potentials_to n values nodes) (node_stride * v) ≡ at values v
unfolding potentials_to
put_at zero values nodes room v h = absurd (omega arith)
put_at (suc n) values nodes room v h = elim (ℕ_discrete v n) [
  | yes e ↦
      ap (λ (u : ℕ). at (set (potentials_to n values nodes) (node_stride * n) (at values n)) (node_stride * u)) e
      ∙ get_or-set_same (potentials_to n values nodes) (node_stride * n) (at values n) 0 (omega (arith, potentials_length n values nodes))
      ∙ ap (at values) (sym e)
  | no ne ↦
      get_or-set_other (potentials_to n values nodes) (node_stride * n) (node_stride * v) (at values n) 0 (λ e. ne (omega arith))
      ∙ put_at n values nodes (omega arith) v (omega arith)
]

-- nothing else is touched behind the nodes
pub behind_same : (n : ℕ) (values nodes : List ℕ) (i : ℕ) → node_stride * n ≤ i → at (potentials_to n values nodes) i ≡ at nodes i
unfolding potentials_to
behind_same zero values nodes i past = refl
behind_same (suc n) values nodes i past =
    get_or-set_other (potentials_to n values nodes) (node_stride * n) i (at values n) 0 (λ e. omega arith)
    ∙ behind_same n values nodes i (omega arith)

module _ (values nodes : List ℕ) where
  -- the nodes with a value for each
  abbrev pub ready : List ℕ
  ready = potentials_to (size nodes) values nodes

  -- as many nodes
  pub size_same : size ready ≡ size nodes
  size_same = ap (λ (k : ℕ). k / node_stride) (potentials_length (size nodes) values nodes)

  -- the potential of a node
  pub potential_is : (v : ℕ) → v < size nodes → at (potentials ready) v ≡ at values v
  potential_is v l =
      column_at 0 ready v (omega (arith, size_same))
      ∙ ap (at ready) (add-zero (node_stride * v))
      ∙ put_at (size nodes) values nodes (omega arith) v l

  -- behind the nodes
  pub potential_behind : (v : ℕ) → size nodes ≤ v → at (potentials ready) v ≡ 0
  potential_behind v past = column_past 0 ready v (omega (arith, size_same))
