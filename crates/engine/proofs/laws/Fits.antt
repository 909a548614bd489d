-- The solver takes a sheet's packed arcs: their numbers are within the limits, and every node hangs on ground.
use Prim.Native.Nat.{ℕ, zero, suc, ◌+◌, ◌-◌, ◌*◌, ◌≤◌, ◌<◌}
use mathlib.Core.Path.{◌≡◌, sym, ◌∙◌, ap, subst}
use mathlib.Core.Bool.{Bool}
use mathlib.Core.List.{List}
use native.Mathlib.Decide.{ℕ_discrete}
use native.Mathlib.Omega.{arith}
use borrow.Author.Tests.{ne_eqb}
use lib.Dec.{T, ltb→lt, leb→le}
use lib.IntN.{ℤ, pos, negsuc, ◌-ℤ◌}
use lib.ListN.{length, take, replicate}
use Rattle.std.proofs.lemmas.List.{length-take-le, length-replicate}
use Rattle.sheet.specs.Limits.{max_weight}
use Rattle.network.specs.Sums.{all}
use Rattle.network.specs.Network.{limit, Arc, Network, Feasible, integers}
use Rattle.network.specs.Packed.{stride, kink_at, low_at, high_at, kink_zero, flow_zero, low_none, high_none, low_of, high_of}
use Rattle.network.specs.Packed.{arc_at, network_of}
use Rattle.network.specs.Net.{at, net, meant}
use Rattle.network.specs.WellFormed.{WellFormed}
use Rattle.network.specs.Integers.{down, up}
use Rattle.network.specs.laws.Sizes.{size_parts}
use Rattle.network.specs.laws.Indexed.{upto_all}
use Rattle.network.specs.laws.IntegerParts.{less_parts}
use Rattle.network.specs.laws.Hanging.{Hangs}
use Rattle.drawing.proofs.laws.Hanging.{sheet_hangs}
use Rattle.drawing.specs.Sheet.{sheet_of}
use Rattle.drawing.specs.Drawing.{Drawing}
use Rattle.drawing.specs.Arcs.{network}
use Rattle.drawing.proofs.laws.SameDrawings.{drawing_feasible}
use Rattle.drawing.proofs.laws.ArcLimits.{low_near, high_near, near, Near, near_parts, network_near}
use Rattle.arcs.specs.declared.Counts.{Counts}
use Rattle.arcs.specs.Held.{Holds}
use Rattle.arcs.specs.laws.HeldArcs.{proper, size_is, arcs_there, network_is}
use Rattle.circulation.specs.Input.{LowIn, HighIn, Limited}
use Rattle.leftmost.specs.Solutions.{Taken}
use Rattle.leftmost.specs.laws.Hanging.{hangs_rooted}

-- the front of zeros
pub front_zeros : (n m : ℕ) → n ≤ m → length {A = ℕ} (take n (replicate m 0)) ≡ n
front_zeros n m h = length-take-le n (replicate m 0) (omega (arith, length-replicate {A = ℕ} m 0))

-- a number that is no limit, or stands for a near one
low_number : (l : ℕ) → T (low_near (low_of l)) → LowIn l
unfolding low_of up down
low_number l t = go (ℕ_discrete l low_none)
  where
    stored : (z : ℤ) → up z + flow_zero ≡ down z + l → T (low_near (limit z)) → LowIn l
    stored (pos zero) e t = record { top = omega arith; soft = λ f. omega arith }
    stored (pos (suc n)) e t = absurd t
    stored (negsuc n) e t = record { top = omega arith; soft = λ f. omega (arith, ltb→lt n max_weight t) }

    go : Dec (l ≡ low_none) → LowIn l
    go (yes e) = record { top = omega arith; soft = λ f. absurd (f e) }
    go (no ne) = stored (pos l -ℤ pos flow_zero) (less_parts l flow_zero) (rw (ne_eqb l low_none ne) at t)

-- the same of a high limit
high_number : (l : ℕ) → T (high_near (high_of l)) → HighIn l
unfolding high_of up down
high_number l t = go (ℕ_discrete l high_none)
  where
    stored : (z : ℤ) → up z + flow_zero ≡ down z + l → T (high_near (limit z)) → HighIn l
    stored (pos n) e t = record { bottom = omega arith; soft = λ f. omega (arith, leb→le n max_weight t) }
    stored (negsuc n) e t = absurd t

    go : Dec (l ≡ high_none) → HighIn l
    go (yes e) = record { bottom = omega arith; soft = λ f. absurd (f e) }
    go (no ne) = stored (pos l -ℤ pos flow_zero) (less_parts l flow_zero) (rw (ne_eqb l high_none ne) at t)

-- the network that the solver reads is the sheet's
pub meant_is : {f a : List ℕ} {c : Counts} (h : Holds f a c)
    → meant (net a c.arcs) (c.nodes + 1) ≡ network (sheet_of h.numbers)
meant_is {a = a} {c} h = ap (λ (k : ℕ). network_of a k c.arcs) less_one ∙ network_is h
  where
    less_one : c.nodes + 1 - 1 ≡ c.nodes
    less_one = omega arith

-- so a drawing is feasible there
pub meant_feasible : {f a : List ℕ} {c : Counts} (h : Holds f a c) (q : List ℕ) → Drawing (sheet_of h.numbers) q
    → Feasible (meant (net a c.arcs) (c.nodes + 1)) (integers q)
meant_feasible h q d =
    subst (λ (N : Network). Feasible N (integers q)) (sym (meant_is h)) (drawing_feasible (sheet_of h.numbers) q d)

module _ {f a : List ℕ} {c : Counts} (h : Holds f a c) where
  -- few nodes
  pub nodes_few : c.nodes ≤ 256
  nodes_few = omega (arith, h.nodes_are, (proper h).nodes)

  -- few arcs
  pub arcs_few : c.arcs ≤ 1024
  arcs_few = omega (arith, size_is h, (proper h).few, (proper h).nodes)

  -- each node has two arcs
  pub twice_nodes : 2 * c.nodes ≤ c.arcs
  twice_nodes = omega (arith, size_is h, h.nodes_are)

  -- a test that all arcs of the sheet pass
  all_held : (t : Network → Arc → Bool) → T (all (t (network (sheet_of h.numbers))) (network (sheet_of h.numbers)).arcs)
      → (i : ℕ) → i < c.arcs → T (t (network_of a c.nodes c.arcs) (arc_at a i))
  all_held t x =
      upto_all (t (network_of a c.nodes c.arcs)) c.arcs (arc_at a)
      (subst (λ (N : Network). T (all (t N) N.arcs)) (sym (network_is h)) x)

  -- each arc is within the limits
  near_at : (i : ℕ) → i < c.arcs → Near (c.nodes + 1) (arc_at a i)
  unfolding network
  near_at i l =
      near_parts (c.nodes + 1) (arc_at a i)
      (all_held (λ N. near (N.nodes + 1)) (network_near h.numbers (proper h)) i l)

  -- the kink of an arc
  kink_in : (i : ℕ) → i < c.arcs → (1 ≤ at a (stride * i + kink_at)) × (at a (stride * i + kink_at) < 2 * kink_zero)
  kink_in i l = (
    omega (
      arith,
      (near_at i l).kink,
      size_parts (pos (at a (stride * i + kink_at)) -ℤ pos kink_zero),
      less_parts (at a (stride * i + kink_at)) kink_zero,
    ),
    omega (
      arith,
      (near_at i l).kink,
      size_parts (pos (at a (stride * i + kink_at)) -ℤ pos kink_zero),
      less_parts (at a (stride * i + kink_at)) kink_zero,
    ),
  )

  -- the packed arcs are well formed
  well_formed : WellFormed (net a c.arcs) (c.nodes + 1)
  well_formed = record {
    room = arcs_there h;
    some = omega arith;
    nodes = omega (arith, nodes_few);
    few = omega (arith, arcs_few);
    arc_in =
        λ i l. record {
          tail_in = (near_at i l).tail;
          head_in = (near_at i l).head;
          kink_low = (kink_in i l).0;
          kink_high = omega (arith, (kink_in i l).1);
        };
  }

  -- their limits are small
  limited : Limited (net a c.arcs)
  limited = record {
    each =
        λ i l. record {
          low_in = low_number (at a (stride * i + low_at)) (near_at i l).low;
          high_in = high_number (at a (stride * i + high_at)) (near_at i l).high;
        };
  }

  -- every node hangs on ground
  hangs : Hangs (meant (net a c.arcs) (c.nodes + 1))
  hangs = subst Hangs (sym (meant_is h)) (sheet_hangs h.numbers)

  -- so the arcs are taken, where there is a number of room for each node
  pub taken : (room : ℕ) → c.nodes + 1 ≤ room → Taken (net a c.arcs) (c.nodes + 1) room
  taken room enough =
      record {
        arcs_in =
            record {
              wf = well_formed;
              limited = limited;
              rooted = hangs_rooted (net a c.arcs) (c.nodes + 1) hangs (λ i l. (near_at i l).head);
            };
        room_in = enough;
      }
