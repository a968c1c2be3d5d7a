-- What a request for rows does to its cursor (01, "Rows", and refusals 11, 12, 13 and 15).
use Rattle.std.specs.Prelude.{Bool, false, not, List, [], ◌∷◌, ◌++◌, map, ℕ, ◌+◌, ◌-◌, ltb, eqb, length, take, drop}
use Rattle.lists.specs.Below.{both}
use Rattle.catalogue.specs.Plain.{Row, row_in}
use Rattle.table.specs.Seat.{Cursor, moved}
use Rattle.fetch.specs.declared.Request.{Request}
use Rattle.page.specs.Rows.{blocks, returned}
use Rattle.page.specs.Page.{page_bytes, status_for}

-- the rows that have these numbers
abbrev pub numbered : List Row → List ℕ → List Row
numbered rows numbers = map (row_in rows) numbers

-- "rows remaining": those of the selection that the position has not passed; "the reply's row j is the selected row at the old
-- position plus j"
abbrev pub remaining : List Row → Cursor → List Row
remaining rows c = numbered rows (drop c.position c.selection)

-- 11 "rows asked before any bindings"
abbrev pub unbound : Cursor → Bool
unbound c = eqb (length c.columns) 0

-- 12 "row width differs from theirs"; the bindings themselves were judged when they were set
abbrev pub width_differs : Cursor → Request → Bool
width_differs c q = not (eqb q.width c.width)

-- "Not served (13): eType other than 1, nonzero chapter, skip or _fBwdFetch"
abbrev pub not_served : Request → Bool
not_served q = not (both (eqb q.seek 1) (both (eqb q.chapter 0) (both (eqb q.skip 0) (eqb q.backward 0))))

-- 15 "a row is asked for and remains, but the first doesn't fit": R + W and its blocks are above B
abbrev pub first_unfit : Cursor → Request → List Row → Bool
first_unfit c q [] = false
first_unfit c q (r ∷ rows) = both (ltb 0 q.asked) (ltb q.size (q.from + (c.width + blocks c.columns r)))

-- the causes after 10, in order: those that need no row, and all
abbrev pub early_causes : Cursor → Request → List (ℕ × Bool)
early_causes c q = (11, unbound c) ∷ (12, width_differs c q) ∷ (13, not_served q) ∷ []

abbrev pub fetch_causes : List Row → Cursor → Request → List (ℕ × Bool)
fetch_causes rows c q = early_causes c q ++ ((15, first_unfit c q (remaining rows c)) ∷ [])

-- "Returned: the least of rows asked, rows remaining, and the greatest K that fits"
abbrev pub sent : List Row → Cursor → Request → ℕ
sent rows c q = returned c.width c.columns q.asked (q.size - q.from) (remaining rows c)

-- the rows sent, and how many then remain
abbrev pub rows_sent : List Row → Cursor → Request → List Row
rows_sent rows c q = take (sent rows c q) (remaining rows c)

abbrev pub then_left : List Row → Cursor → Request → ℕ
then_left rows c q = length c.selection - (c.position + sent rows c q)

-- the reply's B bytes, and "the position moves by it"
abbrev pub fetch_reply : List Row → Cursor → Request → List ℕ
fetch_reply rows c q =
    page_bytes q.size q.from c.width q.base (status_for (then_left rows c q)) c.columns (rows_sent rows c q)

abbrev pub fetched : List Row → Cursor → Request → Cursor
fetched rows c q = moved c (c.position + sent rows c q)
