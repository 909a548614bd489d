-- A network models candidates that are its feasible natural potentials, with totals that differ from their measures by a
-- constant: what is least, and leftmost among the least, in the network is so among the candidates. Where all feasible
-- potentials are natural numbers, the converse holds.
use Rattle.std.specs.Prelude.{ℕ, ◌≤◌, ◌≡◌, List, map, ℤ, pos, ◌+ℤ◌, ◌≤ℤ◌}
use Rattle.std.proofs.Common.{sym, ◌∙◌, ap, subst, subst₂, arith, leb→le, le→leb}
use Rattle.std.proofs.Math.ListN.{get_or-map}
use Rattle.network.specs.Integers.{up, down}
use Rattle.network.specs.Least.{LeastOf, LeftmostOf}
use Rattle.network.specs.Network.{Network, Feasible, integers, potential, total, Least, LeftmostLeast}
use Rattle.network.specs.laws.IntegerParts.{le_parts, parts_le, parts_eq, sum_parts}
use Rattle.network.specs.laws.Integers.{+ℤ_mono, ≤ℤ_of_eq}

-- the order of natural numbers is that of the integers
nat_le : {a b : ℕ} → pos a ≤ℤ pos b → a ≤ b
nat_le {a} {b} h = leb→le a b h.le

-- and the other way round
le_nat : {a b : ℕ} → a ≤ b → pos a ≤ℤ pos b
le_nat {a} {b} h = record { le = le→leb a b h }

-- a number that is added to both sides of an order
cancel_le : (a b k : ℤ) → (a +ℤ k) ≤ℤ (b +ℤ k) → a ≤ℤ b
cancel_le a b k h = parts_le a b (omega (arith, sum_parts a k, sum_parts b k, le_parts h))

-- a number that is added to both sides of an equation
cancel : (a b k : ℤ) → a +ℤ k ≡ b +ℤ k → a ≡ b
cancel a b k e = parts_eq a b (omega (arith, sum_parts a k, sum_parts b k, ap up e, ap down e))

module _ (Candidate : List ℕ → Type 0) (measure : List ℕ → ℕ) where
  -- the candidates are the feasible natural potentials of N, and their measure is its total and k
  pub record Models (N : Network) (k : ℤ) : Type 0 where
    pub feasible : (q : List ℕ) → Candidate q → Feasible N (integers q)
    pub candidate : (q : List ℕ) → Feasible N (integers q) → Candidate q
    pub totals : (q : List ℕ) → Candidate q → pos (measure q) ≡ total N (integers q) +ℤ k

  module _ {N : Network} {k : ℤ} (m : Models N k) where
    -- what is least in the network is least among the candidates
    pub models_least : (p : List ℕ) → Least N (integers p) → LeastOf Candidate measure p
    models_least p h =
        let c : Candidate p = m.candidate p h.feasible in
        record {
          candidate = c;
          least = λ q d. nat_le (subst₂ ◌≤ℤ◌ (sym (m.totals p c)) (sym (m.totals q d))
              (+ℤ_mono {a = total N (integers p)} {b = total N (integers q)} {c = k} {d = k} (h.least (integers q) (m.feasible q d))
              (≤ℤ_of_eq (λ i. k))));
        }

    -- candidates of equal measure have equal totals
    pub same_totals : (p q : List ℕ) → Candidate p → Candidate q → measure q ≡ measure p → total N (integers q) ≡ total N (integers p)
    same_totals p q c d e =
        cancel (total N (integers q)) (total N (integers p)) k (sym (m.totals q d) ∙ ap pos e ∙ m.totals p c)

    -- what is leftmost among the least in the network is so among the candidates
    pub models_leftmost : (p : List ℕ) → LeftmostLeast N (integers p) → LeftmostOf Candidate measure p
    models_leftmost p h =
        let l : LeastOf Candidate measure p = models_least p h.is_least in
        record {
          is_least = l;
          leftmost = λ q d e v. nat_le (subst₂ ◌≤ℤ◌ (get_or-map pos p v 0) (get_or-map pos q v 0)
              (h.leftmost (integers q) (m.feasible q d) (same_totals p q l.candidate d e) v));
        }

    -- every feasible potentials are natural numbers
    module _ (natural : (q : List ℤ) → Feasible N q → integers (map up q) ≡ q) where
      -- feasible potentials as natural numbers are a candidate
      candidate_of : (q : List ℤ) → Feasible N q → Candidate (map up q)
      candidate_of q d = m.candidate (map up q) (subst (Feasible N) (sym (natural q d)) d)

      -- what is least among the candidates is least in the network
      pub least_models : (p : List ℕ) → LeastOf Candidate measure p → Least N (integers p)
      least_models p h = record {
        feasible = m.feasible p h.candidate;
        least = λ q d. subst (λ (r : List ℤ). total N (integers p) ≤ℤ total N r) (natural q d)
            (cancel_le (total N (integers p)) (total N (integers (map up q))) k
            (subst₂ ◌≤ℤ◌ (m.totals p h.candidate) (m.totals (map up q) (candidate_of q d))
            (le_nat (h.least (map up q) (candidate_of q d)))));
      }

      -- what is leftmost among the least candidates is so in the network
      pub leftmost_models : (p : List ℕ) → LeftmostOf Candidate measure p → LeftmostLeast N (integers p)
      leftmost_models p h = record {
        is_least = least_models p h.is_least;
        leftmost = λ q d e v. subst (λ (r : List ℤ). potential (integers p) v ≤ℤ potential r v) (natural q d)
            (subst₂ ◌≤ℤ◌ (sym (get_or-map pos p v 0)) (sym (get_or-map pos (map up q) v 0))
            (le_nat (h.leftmost (map up q) (candidate_of q d) (same_measure q d e) v)));
      }
        where
          -- potentials of equal total have equal measures
          same_measure : (q : List ℤ) (d : Feasible N q) → total N q ≡ total N (integers p) → measure (map up q) ≡ measure p
          same_measure q d e =
              let same : pos (measure (map up q)) ≡ pos (measure p) =
              m.totals (map up q) (candidate_of q d) ∙ ap (λ (r : List ℤ). total N r +ℤ k) (natural q d)
              ∙ ap (λ (z : ℤ). z +ℤ k) e ∙ sym (m.totals p h.is_least.candidate) in cc
