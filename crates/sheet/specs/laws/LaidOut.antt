-- The numbers of a good sheet stand where the layout says: layer after layer, then the count of edges, then the edges,
-- which end the list; and the counts of layers, nodes and edges are within their limits.
use Rattle.std.specs.Prelude.{ℕ, zero, suc, ◌+◌, ◌-◌, ◌*◌, ◌≤◌, min, ◌≡◌, refl, List, [], ◌∷◌, ◌++◌, length, get_or, drop}
use Rattle.std.proofs.Common.{◌∙◌, ap, arith, length-drop, drop-drop, get_or-drop}
use Rattle.leb128.specs.Grammar.{Form, Grammar, Rule, Accepts}
use Rattle.leb128.specs.Grammar.Grammar.{number}
use Rattle.leb128.specs.laws.EachNumber.{within_limits}
use Rattle.leb128.specs.Grammar.Accepts.{nil, one}
use Rattle.sheet.specs.Limits.{max_width, max_layers, max_layer_nodes, max_nodes, max_edges}
use Rattle.sheet.specs.Layout.{width_at, layers_at, nodes_at, separation_stride, layer_size, behind_layers, nodes_of, edges_at, edge_stride, edge_count, Limited, LaidOut}
use Rattle.sheet.specs.Grammar.{separation, separations, layers, edge, edges, sheet}

-- the first number meets its rule, and what follows it is accepted
pub record Opened (rule : Rule) (next : ℕ → Grammar) (s : List ℕ) : Type 0 where
  pub meets : rule (get_or s 0 0) ≡ 0
  pub rest : Accepts (next (get_or s 0 0)) (drop 1 s)
  pub there : length s ≡ 1 + length (drop 1 s)

-- accepted numbers, opened
pub opened : {form : Form} {rule : Rule} {next : ℕ → Grammar} {s : List ℕ} → Accepts (number form rule next) s
    → Opened rule next s
opened (one ok rest) = record { meets = ok; rest = rest; there = omega arith }

-- k numbers are there, and what follows them is accepted
pub record Behind (k : ℕ) (next : Grammar) (s : List ℕ) : Type 0 where
  pub there : k ≤ length s
  pub rest : Accepts next (drop k s)

-- what follows n pairs
pub behind_pairs : (n : ℕ) {next : Grammar} {s : List ℕ} → Accepts (separations n next) s → Behind (separation_stride * n) next s
unfolding separations separation
behind_pairs zero a = record { there = omega arith; rest = a }
behind_pairs (suc n) {s = s} a =
    let minimum = opened a in
    let maximum = opened minimum.rest in
    let others = behind_pairs n maximum.rest in
    let all : separation_stride * suc n ≡ 1 + (1 + separation_stride * n) = omega arith in
    record {
      there = omega (arith, minimum.there, maximum.there, others.there);
      rest =
          rw (all, ← drop-drop (1 + separation_stride * n) 1 s, ← drop-drop (separation_stride * n) 1 (drop 1 s))
          others.rest;
    }

-- what follows a layer's count and its pairs
pub behind_layer : {next : Grammar} (s : List ℕ) → 1 ≤ length s
    → Accepts (separations (get_or s nodes_at 0 - 1) next) (drop 1 s) → Behind (layer_size (get_or s nodes_at 0)) next s
behind_layer s h a =
    let n : ℕ = get_or s nodes_at 0 - 1 in
    let pairs = behind_pairs n a in
    record { there = omega (arith, pairs.there, length-drop 1 s); rest = rw (drop-drop (separation_stride * n) 1 s) at pairs.rest }

-- n layers are followed by what the grammar says, and have at most room nodes
record Laid (n room : ℕ) (next : List ℕ → Grammar) (s : List ℕ) : Type 0 where
  pub limited : Limited n s
  pub counts : List ℕ
  pub rest : Accepts (next counts) (behind_layers n s)
  pub few : nodes_of n s ≤ room

-- the layers of accepted numbers
laid : (n room : ℕ) (counts : List ℕ) {next : List ℕ → Grammar} {s : List ℕ} → Accepts (layers n room counts next) s
    → Laid n room next s
unfolding layers
laid zero room counts a = record { limited = tt; counts = counts; rest = a; few = omega arith }
laid (suc n) room counts {s = s} a =
    let o = opened a in
    let nodes : ℕ = get_or s 0 0 in
    let limits = within_limits 1 (min max_layer_nodes room) nodes o.meets in
    let others = laid n (room - nodes) (counts ++ nodes ∷ []) (behind_layer s (omega (arith, o.there)) o.rest).rest in
    record {
      limited = (limits.0, omega (arith, limits.1), others.limited);
      counts = others.counts;
      rest = others.rest;
      few = omega (arith, limits, others.few);
    }

-- n edges end the list
edges_end : (n : ℕ) (counts : List ℕ) {s : List ℕ} → Accepts (edges n counts) s → length s ≡ edge_stride * n
unfolding edges edge
edges_end zero counts nil = refl
edges_end (suc n) counts a =
    let layer = opened a in
    let upper = opened layer.rest in
    let lower = opened upper.rest in
    let kind = opened lower.rest in
    omega (arith, layer.there, upper.there, lower.there, kind.there, edges_end n counts kind.rest)

-- a good sheet's numbers are laid out so
pub laid_out : (numbers : List ℕ) → Accepts sheet numbers → LaidOut numbers
unfolding sheet
laid_out numbers a =
    let width = opened a in
    let count = opened width.rest in
    let n : ℕ = get_or (drop 1 numbers) 0 0 in
    let is-n : n ≡ get_or numbers layers_at 0 = get_or-drop 1 numbers 0 0 in
    let l = rw (drop-drop 1 1 numbers, is-n) at (laid n max_nodes [] count.rest) in
    let total = opened l.rest in
    record {
      width = (within_limits 0 max_width (get_or numbers width_at 0) width.meets).1;
      layer_count = rw (← is-n) (within_limits 1 max_layers n count.meets);
      layers = l.limited;
      nodes = l.few;
      edges = (within_limits 0 max_edges (edge_count numbers) total.meets).1;
      size = total.there ∙ ap (λ (k : ℕ). edges_at + k) (edges_end (edge_count numbers) l.counts total.rest);
    }
