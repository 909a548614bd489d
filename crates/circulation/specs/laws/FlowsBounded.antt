-- Flows that are allowed are bounded: by the high limit, or by the number that stands for none.
use Rattle.network.specs.Net.{Net, arcs, high}
use Rattle.network.specs.Packed.{high_none}
use Rattle.circulation.specs.Input.{Limited}
use Rattle.circulation.specs.inside.Slackness.{Slack}
use Rattle.std.specs.Prelude.{◌≡◌, ℕ, ◌≤◌, ◌<◌}
use Rattle.std.proofs.Math.Decide.{ℕ_discrete}
use Rattle.std.proofs.Common.{arith}

-- flows are at most 2 ^ 29
pub x_top : {N : Net} {p x : ℕ → ℕ} → Limited N → Slack N p x → (i : ℕ) → i < arcs N → x i ≤ high_none
x_top {N} {p} {x} limited s i l = go (ℕ_discrete (high N i) high_none)
  where
    go : Dec (high N i ≡ high_none) → x i ≤ high_none
    go (yes e) = omega (arith, (s.within i l).1)
    go (no ne) = omega (arith, (s.within i l).1, (limited.each i l).high_in.soft ne)
