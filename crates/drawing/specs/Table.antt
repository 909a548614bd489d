-- The marked sheets of document 01, "Sheets on either side of each edge", as one table, from their bytes to the outcome, with
-- more of document 02, ticket 4.
use Rattle.std.specs.Prelude.{ℕ, List, [], ◌∷◌, ℤ, pos, negsuc, replicate}
use Rattle.drawing.specs.Rows.{Outcome, Row}
use Rattle.drawing.specs.Rows.Outcome.{drawn, undrawable, rejected}

-- the first sheet
abbrev pub first : List ℕ
first = 0x53 ∷ 0x50 ∷ 0x31 ∷ 5 ∷ 2 ∷ 2 ∷ 1 ∷ 0 ∷ 1 ∷ 2 ∷ 1 ∷ 1 ∷ 1 ∷ 0 ∷ 1 ∷ 2 ∷ 1 ∷ 0 ∷ []

-- the stair, by its width and the kind of its second edge
abbrev pub stair : ℕ → ℕ → List ℕ
stair width kind = 0x53 ∷ 0x50 ∷ 0x31 ∷ width ∷ 3 ∷ 2 ∷ 1 ∷ 0 ∷ 2 ∷ 1 ∷ 0 ∷ 2 ∷ 1 ∷ 0 ∷ 2 ∷ 1 ∷ 2 ∷ 1 ∷ 0 ∷ 2 ∷ 2 ∷ 1 ∷ kind ∷ []

-- straight edges that cross, at the greatest width allowed
abbrev pub crossed_edges : List ℕ
crossed_edges = 0x53 ∷ 0x50 ∷ 0x31 ∷ 0xff ∷ 0x1f ∷ 2 ∷ 2 ∷ 1 ∷ 0 ∷ 2 ∷ 1 ∷ 0 ∷ 2 ∷ 1 ∷ 1 ∷ 2 ∷ 1 ∷ 1 ∷ 2 ∷ 1 ∷ 1 ∷ []

-- two over three, by the upper maximum separation
abbrev pub wide : ℕ → List ℕ
wide maximum = 0x53 ∷ 0x50 ∷ 0x31 ∷ 2 ∷ 2 ∷ 2 ∷ 1 ∷ maximum ∷ 3 ∷ 1 ∷ 0 ∷ 1 ∷ 0 ∷ 2 ∷ 1 ∷ 1 ∷ 1 ∷ 0 ∷ 1 ∷ 2 ∷ 3 ∷ 0 ∷ []

-- one node over three, by the kind of the last of its two parallel edges
abbrev pub over : ℕ → List ℕ
over kind = 0x53 ∷ 0x50 ∷ 0x31 ∷ 2 ∷ 2 ∷ 1 ∷ 3 ∷ 1 ∷ 0 ∷ 1 ∷ 0 ∷ 3 ∷ 1 ∷ 1 ∷ 1 ∷ 0 ∷ 1 ∷ 1 ∷ 3 ∷ 0 ∷ 1 ∷ 1 ∷ 3 ∷ kind ∷ []

-- the same with another edge between the parallel ones
abbrev pub over_between : List ℕ
over_between = 0x53 ∷ 0x50 ∷ 0x31 ∷ 2 ∷ 2 ∷ 1 ∷ 3 ∷ 1 ∷ 0 ∷ 1 ∷ 0 ∷ 3 ∷ 1 ∷ 1 ∷ 3 ∷ 0 ∷ 1 ∷ 1 ∷ 1 ∷ 0 ∷ 1 ∷ 1 ∷ 3 ∷ 0 ∷ []

-- one node
abbrev pub lone : List ℕ
lone = 0x53 ∷ 0x50 ∷ 0x31 ∷ 0 ∷ 1 ∷ 1 ∷ 0 ∷ []

-- a row of the table
abbrev pub row : List ℕ → Outcome → Row
row bytes o = record { bytes = bytes; outcome = o }

-- a multiplier of 0
abbrev pub +0 : ℤ
+0 = pos 0

-- a multiplier of 1
abbrev pub +1 : ℤ
+1 = pos 1

-- a multiplier of 2
abbrev pub +2 : ℤ
+2 = pos 2

-- a multiplier of −1
abbrev pub −1 : ℤ
−1 = negsuc 0

-- n multipliers of 0
abbrev pub zeros : ℕ → List ℤ
zeros n = replicate n (pos 0)

-- the list that shows the totals of the stair at widths 1 and 2
abbrev pub stairs : List ℤ
stairs = −1 ∷ −1 ∷ +1 ∷ +1 ∷ +0 ∷ +0 ∷ +0 ∷ +1 ∷ +0 ∷ +0 ∷ +0 ∷ +1 ∷ +0 ∷ +1 ∷ []

-- the rows of the table
unfoldable pub table : List Row
table =
    row first (drawn 1 (0 ∷ 1 ∷ 0 ∷ []) (+1 ∷ −1 ∷ +0 ∷ +1 ∷ +0 ∷ +0 ∷ +0 ∷ +0 ∷ []))
    ∷ row first (rejected (0 ∷ 1 ∷ 0 ∷ []) (zeros 8))
    ∷ row (stair 0 0) (undrawable (+0 ∷ +0 ∷ +1 ∷ +1 ∷ +0 ∷ +1 ∷ zeros 8))
    ∷ row (stair 1 0) (drawn 2 (0 ∷ 1 ∷ 0 ∷ 1 ∷ 0 ∷ 1 ∷ []) stairs)
    ∷ row (stair 2 0) (drawn 1 (0 ∷ 1 ∷ 0 ∷ 1 ∷ 1 ∷ 2 ∷ []) stairs)
    ∷ row (stair 3 0) (drawn 0 (0 ∷ 1 ∷ 1 ∷ 2 ∷ 2 ∷ 3 ∷ []) (zeros 14))
    ∷ row (stair 1 1) (undrawable (+0 ∷ −1 ∷ +0 ∷ +0 ∷ +0 ∷ +0 ∷ +1 ∷ +1 ∷ +0 ∷ +0 ∷ +0 ∷ +1 ∷ +0 ∷ +1 ∷ []))
    ∷ row (stair 2 1) (drawn 1 (0 ∷ 1 ∷ 0 ∷ 1 ∷ 1 ∷ 2 ∷ []) stairs)
    ∷ row crossed_edges (undrawable (+1 ∷ −1 ∷ +0 ∷ +1 ∷ +0 ∷ +0 ∷ +0 ∷ +1 ∷ +0 ∷ +0 ∷ []))
    ∷ row (wide 1) (drawn 1 (0 ∷ 1 ∷ 0 ∷ 1 ∷ 2 ∷ []) (−1 ∷ +1 ∷ +0 ∷ +0 ∷ +1 ∷ +0 ∷ +0 ∷ +1 ∷ +0 ∷ +1 ∷ +0 ∷ +0 ∷ []))
    ∷ row (wide 0) (drawn 0 (0 ∷ 2 ∷ 0 ∷ 1 ∷ 2 ∷ []) (zeros 12))
    ∷ row (over 0) (drawn 2 (0 ∷ 0 ∷ 1 ∷ 2 ∷ []) (−1 ∷ +1 ∷ +0 ∷ +0 ∷ +0 ∷ +0 ∷ +1 ∷ +0 ∷ +1 ∷ +0 ∷ +0 ∷ []))
    ∷ row over_between (drawn 2 (0 ∷ 0 ∷ 1 ∷ 2 ∷ []) (+1 ∷ −1 ∷ +0 ∷ +0 ∷ +0 ∷ +0 ∷ +1 ∷ +0 ∷ +1 ∷ +0 ∷ +0 ∷ []))
    ∷ row (over 1) (drawn 2 (2 ∷ 0 ∷ 1 ∷ 2 ∷ []) (−1 ∷ +2 ∷ +0 ∷ +0 ∷ +1 ∷ +1 ∷ +2 ∷ +0 ∷ +2 ∷ +0 ∷ +0 ∷ []))
    ∷ row (over 1) (rejected (2 ∷ 0 ∷ 1 ∷ 2 ∷ []) (−1 ∷ +0 ∷ +2 ∷ +0 ∷ +1 ∷ +1 ∷ +2 ∷ +0 ∷ +2 ∷ +0 ∷ +0 ∷ []))
    ∷ row lone (drawn 0 (0 ∷ []) (zeros 2))
    ∷ []
