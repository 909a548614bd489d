-- A walk that ends well is a list of numbers that the grammar accepts and that stands in the source, one behind the other.
use Rattle.std.specs.Prelude.{ℕ, ◌≤◌, ◌≡◌, refl, List, [], ◌∷◌, length}
use Rattle.std.proofs.Common.{arith}
use Rattle.leb128.specs.Grammar.{Form, Grammar, Rule, Accepts}
use Rattle.leb128.specs.Grammar.Accepts.{nil, one}
use Rattle.leb128.specs.Grammar.Grammar.{done, number}
use Rattle.leb128.specs.Source.{Item, Source}
use Rattle.leb128.specs.Source.Item.{value}
use Rattle.leb128.specs.Walk.{checked, led, followed, walk}
use Rattle.leb128.specs.Walk.Walk.{whole}
use Rattle.leb128.specs.laws.StepCases.{checked_good, checked_value, led_whole}
use Rattle.leb128.specs.laws.EachNumber.{Each}
use Rattle.leb128.specs.laws.EachNumber.Each.{end, each}

-- accepted numbers that stand in the source, from one position to another
pub data Chain (source : Source) : Grammar → ℕ → List ℕ → ℕ → Type 0 where
  none : {at : ℕ} → Chain source done at [] at
  more : {form : Form} {rule : Rule} {next : ℕ → Grammar} {at after last n : ℕ} {ns : List ℕ} → rule n ≡ 0
      → source form at ≡ value n after → Chain source (next n) after ns last
      → Chain source (number form rule next) at (n ∷ ns) last

-- a whole walk's numbers stand in the source
pub walk_chain : (grammar : Grammar) (source : Source) (at last : ℕ) (ns : List ℕ)
    → walk grammar source at ≡ whole last ns → Chain source grammar at ns last
unfolding walk followed
walk_chain done source at last ns e =
    let is_last : last ≡ at = cc in
    let are : ns ≡ [] = cc in
    rw (is_last, are) none
walk_chain (number form rule next) source at last ns e =
    go (λ n. walk_chain (next n) source) (checked rule at (source form at)) refl e
  where
    go : ((n after last : ℕ) (ns : List ℕ) → walk (next n) source after ≡ whole last ns → Chain source (next n) after ns last)
        → (item : Item) → checked rule at (source form at) ≡ item
        → followed item (λ n after. walk (next n) source after) ≡ whole last ns
        → Chain source (number form rule next) at ns last
    go again (value n after) i e =
        let c = checked_value rule at n after (source form at) i in
        let w = led_whole n (walk (next n) source after) last ns e in
        rw w.2 (more c.1 c.0 (again n after last w.0 w.1))
    go again (Item.refused r) i e = let z : ◌≡◌ {A = ℕ} 0 1 = cc in absurd (omega arith)

-- the other way round
pub chain_walk : {source : Source} {grammar : Grammar} {at last : ℕ} {ns : List ℕ} → Chain source grammar at ns last
    → walk grammar source at ≡ whole last ns
unfolding walk followed led
chain_walk none = refl
chain_walk (more {form} {rule} {next} {at} {after} {last} {n} {ns} ok i chain) =
    rw (i, checked_good rule at n after ok, chain_walk chain)

-- numbers that stand in a source by a grammar are accepted by it
pub chain_accepts : {source : Source} {grammar : Grammar} {at last : ℕ} {ns : List ℕ} → Chain source grammar at ns last
    → Accepts grammar ns
chain_accepts none = nil
chain_accepts (more ok i chain) = one ok (chain_accepts chain)

-- an accepted list is no longer than the grammar's bound
pub most_numbers : {P : Form → Rule → Type 0} {m : ℕ} {grammar : Grammar} {ns : List ℕ} → Each P m grammar
    → Accepts grammar ns → length ns ≤ m
most_numbers end nil = omega arith
most_numbers (each p s) (one {n = n} ok rest) = omega (arith, most_numbers (s n ok) rest)
