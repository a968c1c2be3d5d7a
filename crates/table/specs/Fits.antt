-- What a cursor and a seat must be for their words to pass refusal 2, in plain terms.
use Rattle.std.specs.Prelude.{◌≡◌, true, [], ◌⊎◌, ◌≤◌, length, Option, None, Some}
use Rattle.lists.specs.Every.{every}
use Rattle.bindings.specs.Fit.{fit}
use Rattle.table.specs.Layout.{rows_size}
use Rattle.table.specs.Seat.{Cursor, Seat}
use Rattle.table.specs.Well.{tidy}
use Rattle.lists.specs.Rising.{Rises}

-- "every open cursor's position is at most its selection's length, its row numbers rise strictly, its bindings (if any) pass 12";
-- a count is in range, and flags are 0 or 1 with zeros under a flag of 0 (`tidy`)
pub record CursorFits (c : Cursor) : Type 0 where
  pub position : c.position ≤ length c.selection
  pub rows : length c.selection ≤ rows_size
  pub rising : Rises c.selection
  pub bound : ((c.columns ≡ []) × (c.width ≡ 0)) ⊎ (fit c.width c.columns ≡ true)
  pub tidied : every tidy c.columns ≡ true

-- a cursor, if there is one
abbrev pub CursorOk : Option Cursor → Type 0
CursorOk None = Unit {0}
CursorOk (Some c) = CursorFits c

-- a seat, if it is connected, by its two cursors
abbrev pub SeatOk : Option Seat → Type 0
SeatOk None = Unit {0}
SeatOk (Some s) = CursorOk s.first × CursorOk s.second
