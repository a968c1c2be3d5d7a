-- What a seat and a cursor are, and the words that hold them (01: "Sessions live in a lent table of 32-bit words, row numbers
-- of each selection included").
use Rattle.std.specs.Prelude.{List, [], ◌∷◌, ◌++◌, ℕ, ◌-◌, eqb, length, get_or, take, drop, Option, None, Some}
use Rattle.lists.specs.Below.{pick}
use Rattle.bindings.specs.Column.{columns_of, words_of}
use Rattle.bindings.specs.declared.Column.{Column}
use Rattle.table.specs.Layout.{seat_size, cursor_size, connected_at, version_at, first_at, second_at, open_at, position_at, count_at, columns_at, width_at, records_at, records_size, rows_at, rows_size}
use Rattle.lists.specs.Parts.{part, zeros}

-- an open cursor: how many rows it has carried, the row numbers it selects, and its bindings (no columns: none yet)
pub record Cursor : Type 0 where
  pub position : ℕ
  pub selection : List ℕ
  pub width : ℕ
  pub columns : List Column

-- a connected seat: its client version and its cursors, handles 1 and 2
pub record Seat : Type 0 where
  pub version : ℕ
  pub first : Option Cursor
  pub second : Option Cursor

-- the words of a cursor; "a word not in use (closed cursor, .. past a list's end)" is zero
abbrev pub cursor_words : Option Cursor → List ℕ
cursor_words None = zeros cursor_size
cursor_words (Some c) =
    1 ∷ c.position ∷ length c.selection ∷ length c.columns ∷ c.width
    ∷ (words_of c.columns ++ (c.selection ++ zeros (rows_size - length c.selection)))

-- the words of a seat; those of an unconnected one are zero
abbrev pub seat_words : Option Seat → List ℕ
seat_words None = zeros seat_size
seat_words (Some s) = 1 ∷ s.version ∷ (cursor_words s.first ++ cursor_words s.second)

-- the cursor and the seat that words hold
abbrev pub cursor_held : List ℕ → Cursor
cursor_held b =
    record {
      position = get_or b position_at 0;
      selection = take (get_or b count_at 0) (drop rows_at b);
      width = get_or b width_at 0;
      columns = columns_of (get_or b columns_at 0) (part b records_at records_size);
    }

abbrev pub cursor_of : List ℕ → Option Cursor
cursor_of b = pick (eqb (get_or b open_at 0) 0) None (Some (cursor_held b))

abbrev pub seat_in : List ℕ → Seat
seat_in b =
    record {
      version = get_or b version_at 0;
      first = cursor_of (part b first_at cursor_size);
      second = cursor_of (part b second_at cursor_size);
    }

abbrev pub seat_of : List ℕ → Option Seat
seat_of b = pick (eqb (get_or b connected_at 0) 0) None (Some (seat_in b))

-- a seat as connecting leaves it, and a cursor as opening leaves it: "with position 0 and no bindings"
abbrev pub fresh : ℕ → Seat
fresh version = record { version = version; first = None; second = None }

abbrev pub opened : List ℕ → Cursor
opened selection = record { position = 0; selection = selection; width = 0; columns = [] }

-- "Accepted bindings replace the old; the position stays"
abbrev pub rebound : Cursor → ℕ → List Column → Cursor
rebound c width columns = record { position = c.position; selection = c.selection; width = width; columns = columns }

-- "the position moves"
abbrev pub moved : Cursor → ℕ → Cursor
moved c position = record { position = position; selection = c.selection; width = c.width; columns = c.columns }

-- the cursor of a handle: 1 or 2
abbrev pub cursor_in : Seat → ℕ → Option Cursor
cursor_in s handle = pick (eqb handle 1) s.first (pick (eqb handle 2) s.second None)

-- a seat with another cursor under a handle: 1, else 2 (a handle is judged before)
abbrev pub with_cursor : Seat → ℕ → Option Cursor → Seat
with_cursor s handle c =
    pick (eqb handle 1)
    (record { version = s.version; first = c; second = s.second })
    (record { version = s.version; first = s.first; second = c })
