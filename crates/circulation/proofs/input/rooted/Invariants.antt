-- `circulation::input::rooted` meets its contract: the nodes before v hang.
use Rattle.network.specs.Net.{net}
use Rattle.circulation.specs.Input.{Hangs}
use Prim.Native.Nat.{ℕ, ◌<◌, ◌-◌}
use Rattle.circulation.proofs.input.rooted.Given as goal

abbrev pub invariant-loop-v : goal.invariant-loop-v
invariant-loop-v l = (k : ℕ) → k < l.v → Hangs (net l.arcs l.m) (l.n - 1) k
