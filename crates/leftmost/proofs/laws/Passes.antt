-- What the parts of the test show together: a guess that passes is optimal, can be stored relative to ground, and is then a
-- solution.
use Prim.Native.Nat.{ℕ}
use mathlib.Core.Path.{◌≡◌}
use lib.ListN.{length, replicate}
use mathlib.Core.List.{List}
use Rattle.network.specs.Net.{Net}
use Rattle.network.specs.WellFormed.{WellFormed}
use Rattle.network.specs.Nodes.{node_stride, size}
use Rattle.circulation.specs.Input.{Limited}
use Rattle.circulation.specs.inside.Finish.{Settled, Zeroed}
use Rattle.circulation.proofs.laws.Optimal.{settled_solution}
use Rattle.leftmost.specs.inside.Optimal.{Passes, Left}

module _ {N : Net} {n : ℕ} {x : List ℕ} (nodes : List ℕ) (size_is : size nodes ≡ n) (wf : WellFormed N n) (p : Passes N n x nodes) where
  -- and is then a solution
  pub passes_left : (new room : List ℕ) → Limited N → Settled nodes new → Zeroed node_stride new → room ≡ replicate (length room) 0
      → Left N n x new room
  passes_left new room limited settled zeroed zeros = record {
    solution = settled_solution x nodes new wf limited size_is p.optimal settled;
    others = zeroed;
    room_zero = zeros;
  }
