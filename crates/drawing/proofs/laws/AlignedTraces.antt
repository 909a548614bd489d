-- What edges carry is straight in given coordinates exactly where the edges are: a trace is as straight as the edges with its ends.
use Rattle.std.specs.Prelude.{ℕ, zero, suc, ◌≤◌, ◌≡◌, List, T}
use Rattle.std.proofs.Common.{sym, arith}
use Rattle.network.specs.Sums.{all}
use Rattle.network.specs.laws.Tests.{test_ext}
use Rattle.drawing.specs.Sheet.{Edge}
use Rattle.drawing.specs.Traces.{traces}
use Rattle.drawing.specs.Drawing.{coordinate, aligned, edge_aligned}
use Rattle.drawing.specs.laws.Traces.{traces_length}
use Rattle.drawing.specs.Carriers.{SameEnds}
use Rattle.drawing.specs.laws.Carriers.{ends_on, ends_back, at_listed, all_at, at_length, one_carrier}
use Rattle.drawing.proofs.laws.CarriedTraces.{traces_are, traces_all}

-- ends that are equal where a kind asks it are where a smaller one does
aligned_less : (a b u v : ℕ) → a ≤ b → T (aligned b u v) → T (aligned a u v)
aligned_less zero b u v h t = tt
aligned_less (suc a) zero u v h t = absurd (omega arith)
aligned_less (suc a) (suc b) u v h t = t

module _ (p : List ℕ) where
  -- an edge is straight where one with the same ends and a greater kind is
  aligned_as : (a b : Edge) → SameEnds a b → a.kind ≤ b.kind → T (edge_aligned p b) → T (edge_aligned p a)
  aligned_as a b s h t =
      rw (s.upper, s.lower) (aligned_less a.kind b.kind (coordinate p b.upper) (coordinate p b.lower) h t)

  -- what edges carry is straight exactly where the edges are
  pub aligned_traces : (es : List Edge) → all (edge_aligned p) (traces es) ≡ all (edge_aligned p) es
  aligned_traces es =
      test_ext (all (edge_aligned p) (traces es)) (all (edge_aligned p) es)
      (λ t. all_at (edge_aligned p) es
      (λ i e a.
      let first = one_carrier a in
      let x = at_length (traces es) (sym (traces_length es)) first.at in
      let carries = ((traces_are es).each first.index first.edge x.0 first.at x.1).first first.holds in
      aligned_as e x.0 (ends_back (ends_on carries.ends first.ends))
      (carries.kind.most i e a (ends_back first.ends)) ((at_listed x.1).passes (edge_aligned p) t)))
      (λ t. traces_all (edge_aligned p) es
      (λ i e x a carries.
      let some = carries.kind.attained in
      aligned_as x some.edge (ends_on carries.ends (ends_back some.ends)) (omega (arith, some.holds))
      ((at_listed some.at).passes (edge_aligned p) t))
      (λ i e x a nothing. rw nothing.kind tt))
