-- After a search from the ground that reached every node the potentials are the leftmost of least cost: every node is supported by
-- the arc over which it was reached, in the order of reaching.
use Rattle.network.specs.Net.{at, Net}
use Rattle.network.specs.Nodes.{potentials, orders, parents, residuals, size}
use Rattle.circulation.specs.inside.Steps.{Flooded}
use Rattle.circulation.specs.inside.Finish.{Settled}
use Rattle.circulation.specs.inside.Optimal.{Support}
use Rattle.circulation.specs.laws.Columns.{column_length}
use Rattle.circulation.proofs.laws.Optimal.{settled_solution}
use Rattle.circulation.specs.inside.Slackness.{Balanced}
use Rattle.network.specs.WellFormed.{WellFormed}
use Rattle.circulation.specs.inside.Search.{Tree, Link}
use Rattle.circulation.specs.Solutions.{Solution}
use mathlib.Core.Path.{◌≡◌, subst, ◌∙◌}
use mathlib.Core.Logic.{inl, inr, ⊎_elim}
use mathlib.Core.List.{List}
use Prim.Native.Nat.{ℕ, ◌-◌}
use native.Mathlib.Omega.{arith}

-- the arc over which a node was reached supports it
link_support : {N : Net} {p x order residual : ℕ → ℕ} {v i : ℕ} → Link N p x order residual v i → Support N p x order v
link_support {N} {p} {x} {order} {residual} {v} {i} link = record {
  arc = i;
  arc_in = link.arc_in;
  by = record {
    tight = link.tight;
    ends =
        ⊎_elim
        (λ c. inl (c.0, c.2, omega (arith, c.3, link.some)))
        (λ c. inr (c.0, c.2, omega (arith, c.3, link.some)))
        link.ends;
  };
}

-- what the last search leaves, once the potentials are relative to ground's
pub flooded_solution : (N : Net) (n : ℕ) (x nodes new : List ℕ) → WellFormed N n → size nodes ≡ n → Balanced N n (at x)
    → Flooded N n x nodes → Settled nodes new → Solution N n (at x) (at (potentials new))
flooded_solution N n x nodes new wf size_is bal f settled =
    settled_solution x nodes new wf f.grown.ready.limited size_is
    (record {
      slack = f.grown.slack;
      balanced = bal;
      supported =
          λ v l. link_support (tree.links v (omega arith) (f.whole v (omega arith)) (λ e. omega arith));
    })
    settled
  where
    tree : Tree N n (n - 1) (at (potentials nodes)) (at x) (at (orders nodes)) (at (parents nodes)) (at (residuals nodes))
    tree = subst (λ (k : ℕ). Tree N k (n - 1) (at (potentials nodes)) (at x) (at (orders nodes)) (at (parents nodes))
        (at (residuals nodes)))
        (column_length 0 nodes ∙ size_is) f.grown.tree
