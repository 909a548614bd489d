-- The contract fixes the answer and every number that is lent but the flows: two ends of the same input have the same
-- finding, and nodes and room are equal.
use Rattle.std.specs.Prelude.{ℕ, ◌≡◌, refl, List}
use Rattle.std.proofs.Common.{sym, ◌∙◌}
use Rattle.network.specs.Net.{Net}
use Rattle.circulation.proofs.laws.Determined.{solved_nodes}
use Rattle.leftmost.specs.Solutions.{Finding, Means}
use Rattle.leftmost.specs.Solutions.Finding.{solved, none, malformed}

module _ (N : Net) (x₀ nodes₀ room₀ x nodes room y other rest : List ℕ) where
  -- the findings are the same
  pub one_finding : (r s : Finding) → Means N x₀ nodes₀ room₀ x nodes room r → Means N x₀ nodes₀ room₀ y other rest s → r ≡ s
  one_finding solved solved m k = refl
  one_finding solved none m k = absurd (k.1 m.1)
  one_finding solved malformed m k = absurd (k.0 m.0)
  one_finding none solved m k = absurd (m.1 k.1)
  one_finding none none m k = refl
  one_finding none malformed m k = absurd (k.0 m.0)
  one_finding malformed solved m k = absurd (m.0 k.0)
  one_finding malformed none m k = absurd (m.0 k.0)
  one_finding malformed malformed m k = refl

  -- nodes and room are the same
  pub one_end : (r : Finding) → Means N x₀ nodes₀ room₀ x nodes room r → Means N x₀ nodes₀ room₀ y other rest r
      → (nodes ≡ other) × (room ≡ rest)
  one_end solved m k = (
    solved_nodes N x₀ nodes₀ x nodes y other m.3.in_nodes k.3.in_nodes m.4 k.4,
    m.3.in_room ∙ sym k.3.in_room,
  )
  one_end none m k = (m.3 ∙ sym k.3, m.4 ∙ sym k.4)
  one_end malformed m k = (m.2 ∙ sym k.2, m.3 ∙ sym k.3)
