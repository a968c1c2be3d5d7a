-- Which of a seat's cursors are open, and how many.
use Rattle.std.specs.Prelude.{Bool, true, false, ℕ, ◌+◌, Option, None, Some}
use Rattle.table.specs.Seat.{Cursor, Seat}

-- whether there is a cursor under a handle
abbrev pub is_open : Option Cursor → Bool
is_open None = false
is_open (Some c) = true

abbrev pub open_count : Option Cursor → ℕ
open_count None = 0
open_count (Some c) = 1

-- "the seat's count of cursors still open"
abbrev pub still_open : Seat → ℕ
still_open s = open_count s.first + open_count s.second
