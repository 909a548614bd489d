-- The first nodes that are read off a sheet's numbers are those of its layers, with the count of nodes behind them: layer by layer.
use Rattle.std.specs.Prelude.{ℕ, zero, suc, ◌+◌, ◌≡◌, refl, List, [], ◌∷◌, ◌++◌, map, length, get_or, drop}
use Rattle.std.proofs.Common.{ap, ◌∙◌, length-append}
use Rattle.std.proofs.lemmas.List.{length-map}
use Rattle.sheet.specs.Layout.{layers_at, first_layer_at, nodes_at, next_layer}
use Rattle.drawing.specs.Sheet.{Layer, Sheet, layers_of, first_nodes, sheet_of}
use Rattle.arcs.specs.Loading.{layer_firsts, firsts_size}

-- of k layers from node v on
firsts_of : (k v : ℕ) (s : List ℕ)
    → first_nodes k v s ≡ map (λ (l : Layer). l.first) (layers_of k v s) ++ get_or (first_nodes k v s) k 0 ∷ []
firsts_of zero v s = refl
firsts_of (suc k) v s = ap (λ (l : List ℕ). v ∷ l) (firsts_of k (v + get_or s nodes_at 0) (next_layer s))

-- so many are these layers
layers_length : (k v : ℕ) (s : List ℕ) → length (layers_of k v s) ≡ k
layers_length zero v s = refl
layers_length (suc k) v s = ap suc (layers_length k (v + get_or s nodes_at 0) (next_layer s))

module _ (s : List ℕ) where
  -- of a sheet's numbers
  pub sheet_firsts : first_nodes (get_or s layers_at 0) 0 (drop first_layer_at s) ≡ layer_firsts (sheet_of s)
  unfolding sheet_of
  sheet_firsts = firsts_of (get_or s layers_at 0) 0 (drop first_layer_at s)

  -- how many layers a sheet has
  pub sheet_layers : length (sheet_of s).layers ≡ get_or s layers_at 0
  unfolding sheet_of
  sheet_layers = layers_length (get_or s layers_at 0) 0 (drop first_layer_at s)

-- how many numbers they are
pub firsts_length : (S : Sheet) → length (layer_firsts S) ≡ firsts_size S
firsts_length S =
    length-append (map (λ (l : Layer). l.first) S.layers) (S.nodes ∷ [])
    ∙ ap (λ (n : ℕ). n + 1) (length-map S.layers (λ (l : Layer). l.first))
