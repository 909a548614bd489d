-- `circulation::raise::raise` meets its contract: by whether the node is reached.
use Rattle.circulation.specs.inside.Search.{lift}
use Rattle.network.specs.Nodes.{potentials, orders}
use Rattle.circulation.specs.inside.Stores.{Stored}
use Rattle.network.specs.Net.{at}
use Rattle.circulation.proofs.laws.Columns.{stored_same}
use Rattle.circulation.proofs.laws.Moves.{lift_in, lift_out}
use mathlib.Core.Path.{ap, sym, subst, ◌∙◌}
use Prim.Native.Nat.{ℕ, ◌+◌}
use native.Mathlib.Omega.{arith}
use Rattle.circulation.proofs.raise.raise.Goals as goal

pub returns-then-get-eq0 : goal.returns-then-get-eq0
returns-then-get-eq0 c =
    stored_same 0 c.args.v
    (lift (at (orders c.args.nodes.now) c.args.v)
    (at (potentials c.args.nodes.now) c.args.v) c.args.d)
    c.args.nodes.now
    (lift_out (at (orders c.args.nodes.now) c.args.v)
    (at (potentials c.args.nodes.now) c.args.v) c.args.d
    (omega (arith, c.get.ensures, c.if-get-eq0.true)))

pub returns : goal.returns
returns c =
    subst (λ (a : ℕ). Stored 0 c.args.v a c.args.nodes.now c.put.new.nodes)
    (ap (λ (b : ℕ). b + c.args.d) c.get-p.ensures
    ∙ sym
    (lift_in (at (orders c.args.nodes.now) c.args.v)
    (at (potentials c.args.nodes.now) c.args.v) c.args.d
    (omega (arith, c.get.ensures, c.if-get-eq0.false))))
    c.put.ensures
