-- The judgement of a whole table (01, the paragraph under the refusal table), refusal 2 and the second half of refusal 3.
use Rattle.std.specs.Prelude.{Bool, true, List, ℕ, ◌+◌, ◌-◌, ◌*◌, leb, ltb, eqb, length, get_or, take, drop, Option, None, Some}
use Rattle.lists.specs.Below.{pick, both, every_below}
use Rattle.bindings.specs.Column.{column_words, columns_of}
use Rattle.lists.specs.Every.{every}
use Rattle.bindings.specs.Fit.{fit}
use Rattle.bindings.specs.declared.Column.{Column}
use Rattle.table.specs.Layout.{seats, table_size, cursor_size, connected_at, first_at, second_at, open_at, position_at, count_at, columns_at, width_at, records_at, records_size, rows_at, rows_size, seat_part}
use Rattle.lists.specs.Parts.{part}
use Rattle.table.specs.Seat.{Cursor, Seat, seat_of}

-- "a word not in use .. isn't zero"
abbrev pub all_zero : List ℕ → Bool
all_zero words = every_below (length words) (λ i. eqb (get_or words i 0) 0)

-- "its row numbers rise strictly": each but the last is below the next
abbrev pub rising : List ℕ → Bool
rising rows = every_below (length rows - 1) (λ i. ltb (get_or rows i 0) (get_or rows (i + 1) 0))

-- a flag of a column is 0 or 1, and under an unset flag its offset and size, here added up, are words not in use
abbrev pub flagged : ℕ → ℕ → Bool
flagged used rest = pick (eqb used 0) (eqb rest 0) (eqb used 1)

abbrev pub tidy : Column → Bool
tidy c =
    both (flagged c.value.used (c.value.offset + c.value.size))
    (both (flagged c.status.used c.status.offset) (flagged c.length.used c.length.offset))

-- no bindings: the row width and the records are not in use. Else "its bindings (if any) pass 12"
abbrev pub bound_well : ℕ → ℕ → List ℕ → Bool
bound_well n width records =
    both (fit width (columns_of n records)) (both (every tidy (columns_of n records)) (all_zero (drop (column_words * n) records)))

abbrev pub bindings_well : List ℕ → Bool
bindings_well b =
    pick (eqb (get_or b columns_at 0) 0)
    (all_zero (part b width_at (records_size + 1)))
    (bound_well (get_or b columns_at 0) (get_or b width_at 0) (part b records_at records_size))

-- "its row numbers rise strictly", and the words past them are not in use
abbrev pub selection_well : ℕ → List ℕ → Bool
selection_well count rows = both (rising (take count rows)) (all_zero (drop count rows))

-- "every open cursor's position is at most its selection's length, its row numbers rise strictly, its bindings (if any) pass 12"
abbrev pub open_well : List ℕ → Bool
open_well b =
    both (leb (get_or b position_at 0) (get_or b count_at 0))
    (both (leb (get_or b count_at 0) rows_size)
    (both (bindings_well b) (selection_well (get_or b count_at 0) (drop rows_at b))))

-- a flag that is 0 leaves the words not in use; any other number than 0 and 1 is out of range
abbrev pub by_flag : ℕ → Bool → Bool → Bool
by_flag flag unset set = pick (eqb flag 0) unset (both (eqb flag 1) set)

unfoldable pub cursor_well : List ℕ → Bool
cursor_well b = by_flag (get_or b open_at 0) (all_zero b) (open_well b)

-- a cursor is open only where "its seat is connected": the words of an unconnected seat are not in use
unfoldable pub seat_well : List ℕ → Bool
seat_well b =
    by_flag (get_or b connected_at 0) (all_zero b) (both (cursor_well (part b first_at cursor_size)) (cursor_well (part b second_at cursor_size)))

-- "if its length .. is out of range", and all seats
unfoldable pub table_well : List ℕ → Bool
table_well t = both (eqb (length t) table_size) (every_below seats (λ seat. seat_well (seat_part t seat)))

-- refusal 3: "an open cursor's row number not below its row count", of every open cursor of every seat
abbrev pub cursor_below : ℕ → Option Cursor → Bool
cursor_below rows None = true
cursor_below rows (Some c) = every (λ row. ltb row rows) c.selection

abbrev pub seat_below : ℕ → Option Seat → Bool
seat_below rows None = true
seat_below rows (Some s) = both (cursor_below rows s.first) (cursor_below rows s.second)

unfoldable pub table_below : ℕ → List ℕ → Bool
table_below rows t = every_below seats (λ seat. seat_below rows (seat_of (seat_part t seat)))
