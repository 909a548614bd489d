-- Looking for a node, layer after layer: what is left of the layers has it where the whole list has it.
use Prim.Native.Nat.{ℕ, suc, ◌+◌, ◌-◌, ◌*◌, ◌≤◌, ◌<◌}
use mathlib.Core.Path.{◌≡◌, sym, ◌∙◌, ap}
use mathlib.Core.List.{List}
use native.Mathlib.Nat.{add-zero, sub-zero}
use native.Mathlib.Omega.{arith}
use lib.ListN.{get_or, drop}
use lib.Seq.{get_or-drop, drop-drop}
use Rattle.leb128.specs.Limits.{list_limit}
use Rattle.sheet.specs.Layout.{layers_at, first_layer_at, nodes_at, layer_size, next_layer}
use Rattle.sheet.specs.Nodes.{standing, node_among, node_of}
use Rattle.sheet.specs.laws.Nodes.{node_none, node_here, node_past}
use Rattle.std.specs.Prelude.{Some, None}

-- node v is node rest of the layers behind i of n, whose numbers start at an index
pub record SearchLeft (numbers : List ℕ) (v n i at rest : ℕ) : Type 0 where
  pub same : node_among (n - i) (i + 1) (drop at numbers) rest ≡ node_of numbers v
  pub turns : n < list_limit
  pub inside : at ≤ 2 * list_limit * (i + 1)

-- all layers are left at the start
pub search_begin : (numbers : List ℕ) (v : ℕ) {n : ℕ} → (n ≡ get_or numbers layers_at 0) × (n < list_limit)
    → SearchLeft numbers v n 0 first_layer_at v
unfolding node_of
search_begin numbers v e =
    record {
      same = rw (sub-zero, e.0);
      turns = e.1;
      inside = omega arith;
    }

-- at some layer
module _ {numbers : List ℕ} {v n i at rest : ℕ} (search : SearchLeft numbers v n i at rest) where
  -- no layer is left
  pub search_end : n ≤ i → standing None ≡ node_of numbers v
  unfolding standing
  search_end h =
      let none : n - i ≡ 0 = omega arith in
      sym (node_none (i + 1) (drop at numbers) rest) ∙ rw none at search.same

  module _ {count : ℕ} (some : i < n) (e : (count ≡ get_or numbers at 0) × (count < list_limit)) where
    -- one layer and the others
    one_more : n - i ≡ suc (n - (i + 1))
    one_more = omega arith

    -- the count of its nodes
    count_is : get_or (drop at numbers) nodes_at 0 ≡ count
    count_is = get_or-drop at numbers nodes_at 0 ∙ ap (λ (k : ℕ). get_or numbers k 0) (add-zero at) ∙ sym e.0

    -- the node is in this layer
    pub search_here : rest < count → standing (Some (record { layer = i + 1; position = rest + 1 })) ≡ node_of numbers v
    unfolding standing
    search_here h =
        sym (node_here (n - (i + 1)) (i + 1) (drop at numbers) rest (rw count_is h))
        ∙ ap (λ (k : ℕ). node_among k (i + 1) (drop at numbers) rest) (sym one_more)
        ∙ search.same

    -- the node is behind this layer
    pub search_next : {size : ℕ} → size ≡ layer_size count → count ≤ rest → SearchLeft numbers v n (i + 1) (at + size) (rest - count)
    search_next {size} f h =
        let part : next_layer (drop at numbers) ≡ drop (at + size) numbers =
        ap (λ (k : ℕ). drop (layer_size k) (drop at numbers)) count_is
        ∙ drop-drop (layer_size count) at numbers
        ∙ ap (λ (k : ℕ). drop (at + k) numbers) (sym f) in
        let past = node_past (n - (i + 1)) (i + 1) (drop at numbers) rest (rw count_is h) in
        record {
          same =
              sym (ap (λ (s : List ℕ). node_among (n - (i + 1)) (i + 1 + 1) s (rest - count)) part)
              ∙ sym (ap (λ (k : ℕ). node_among (n - (i + 1)) (i + 1 + 1) (next_layer (drop at numbers)) (rest - k)) count_is)
              ∙ sym past
              ∙ ap (λ (k : ℕ). node_among k (i + 1) (drop at numbers) rest) (sym one_more)
              ∙ search.same;
          turns = search.turns;
          inside = omega (arith, search.inside);
        }
