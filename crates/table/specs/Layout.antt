-- The places of the session table's words (docs/TABLE.md), each named once.
use Rattle.std.specs.Prelude.{List, ℕ, ◌*◌, eqb}
use Rattle.lists.specs.Below.{pick}
use Rattle.lists.specs.Parts.{part}

-- "8 seats (0 to 7)": so many words for each, one after the other
abbrev pub seats : ℕ
seats = 8

abbrev pub seat_size : ℕ
seat_size = 2150

abbrev pub table_size : ℕ
table_size = 17200

abbrev pub seat_at : ℕ → ℕ
seat_at seat = seat_size * seat

-- in a seat's words: connected, client version, and the words of its "2 cursors .., handles 1 and 2"
abbrev pub connected_at : ℕ
connected_at = 0

abbrev pub version_at : ℕ
version_at = 1

abbrev pub cursor_size : ℕ
cursor_size = 1074

abbrev pub first_at : ℕ
first_at = 2

abbrev pub second_at : ℕ
second_at = 1076

-- a handle's cursor: 1, else 2 (a handle is judged before)
abbrev pub cursor_place : ℕ → ℕ
cursor_place handle = pick (eqb handle 1) first_at second_at

-- in a cursor's words: open, position, count of selected rows, count of bound columns, row width, the records of the columns,
-- the row numbers
abbrev pub open_at : ℕ
open_at = 0

abbrev pub position_at : ℕ
position_at = 1

abbrev pub count_at : ℕ
count_at = 2

abbrev pub columns_at : ℕ
columns_at = 3

abbrev pub width_at : ℕ
width_at = 4

abbrev pub records_at : ℕ
records_at = 5

abbrev pub records_size : ℕ
records_size = 45

abbrev pub rows_at : ℕ
rows_at = 50

abbrev pub rows_size : ℕ
rows_size = 1024

-- a seat's words in the table
abbrev pub seat_part : List ℕ → ℕ → List ℕ
seat_part t seat = part t (seat_at seat) seat_size
