-- What the tests show: potentials that pass are feasible, and those that flows certify are least.
use Rattle.std.specs.Prelude.{Bool, ◌&&◌, List, T, eqb, ℤ, length}
use Rattle.std.proofs.Common.{eqb→eq}
use Rattle.network.specs.Integers.{eqZ}
use Rattle.network.specs.Sums.{all}
use Rattle.network.specs.Network.{Network, Feasible, Least, legal, is_feasible, total}
use Rattle.network.specs.Flows.{rules, bound, certifies}
use Rattle.network.specs.laws.Integers.{eqZ→eq}
use Rattle.network.specs.laws.Tests.{and_left, and_right}
use Rattle.network.proofs.laws.Duality.{equal_least}

-- potentials that pass the test are feasible
pub feasible_is : (N : Network) (p : List ℤ) → T (is_feasible N p) → Feasible N p
unfolding is_feasible
feasible_is N p t = record {
  size = eqb→eq (length p) N.nodes (and_left (eqb (length p) N.nodes) (all (legal p) N.arcs) t);
  legals = and_right (eqb (length p) N.nodes) (all (legal p) N.arcs) t;
}

-- potentials that flows certify are least
pub certified_least : (N : Network) (p y : List ℤ) → T (certifies N p y) → Least N p
unfolding certifies
certified_least N p y t =
    let equal : Bool = eqZ (total N p) (bound N y) in
    let rest : T (rules N y && equal) = and_right (is_feasible N p) (rules N y && equal) t in
    equal_least N y p (and_left (rules N y) equal rest) (feasible_is N p (and_left (is_feasible N p) (rules N y && equal) t))
    (eqZ→eq (total N p) (bound N y) (and_right (rules N y) equal rest))
