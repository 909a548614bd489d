-- Least total means the same for drawings and for source 004's assignments: each is one of the other, up to a shift,
-- with the same total.
use Rattle.std.specs.Prelude.{List, ℕ, ℤ}
use Rattle.network.specs.Network.{integers}
use Rattle.drawing.specs.Sheet.{Sheet}
use Rattle.drawing.specs.Proper.{Proper}
use Rattle.drawing.specs.Drawing.{LeastDrawing}
use Rattle.drawing.specs.Assignment.{LeastAssignment, shifted}
use Rattle.drawing.proofs.laws.Shift.{shifted_drawing, shifted_total, drawing_assignment, drawing_length}

module _ (S : Sheet) (proper : Proper S) where
  -- a least drawing is a least assignment
  pub drawing_least_assignment : (p : List ℕ) → LeastDrawing S p → LeastAssignment S (integers p)
  drawing_least_assignment p m = record {
    assignment = drawing_assignment S p m.candidate;
    least = λ z a. rw (drawing_length S p, ← shifted_total S proper z a) (m.least (shifted z) (shifted_drawing S proper z a));
  }

  -- a least assignment, shifted to 0, is a least drawing
  pub assignment_least_drawing : (x : List ℤ) → LeastAssignment S x → LeastDrawing S (shifted x)
  assignment_least_drawing x l = record {
    candidate = shifted_drawing S proper x l.assignment;
    least =
        λ q d. rw (shifted_total S proper x l.assignment, ← drawing_length S q)
        (l.least (integers q) (drawing_assignment S q d));
  }
