-- What opening a query does to its seat (01: "opening takes the lowest free handle, with position 0 and no bindings").
use Rattle.std.specs.Prelude.{Bool, true, false, not, List, [], ◌∷◌, ℕ, eqb, Option, None, Some, Result, Ok, Err}
use Rattle.lists.specs.Below.{pick}
use Rattle.catalogue.specs.Plain.{Row}
use Rattle.tree.specs.Reader.{restriction, is_tree}
use Rattle.tree.specs.Select.{selected_by}
use Rattle.table.specs.Seat.{Seat, with_cursor, opened}
use Rattle.table.specs.Open.{is_open}
use Rattle.table.specs.declared.Handle.{Handle}
use Rattle.refusal.specs.declared.Refusal.{Refusal}

-- "the lowest free handle"; 0 where "both handles of the seat [are] open"
abbrev pub free_handle : Seat → ℕ
free_handle s = pick (is_open s.first) (pick (is_open s.second) 0 2) 1

-- "opening also the handle (0 if refused)"
abbrev pub handle_in : Result Handle Refusal → ℕ
handle_in (Ok handle) = handle.0
handle_in (Err r) = 0

-- 7 "anything else on an unconnected one", 14 "both handles of the seat open", 16 "restriction malformed or over a limit"
abbrev pub open_causes : Option Seat → List ℕ → List (ℕ × Bool)
open_causes None tree = (7, true) ∷ []
open_causes (Some s) tree = (7, false) ∷ (14, eqb (free_handle s) 0) ∷ (16, not (is_tree (restriction tree))) ∷ []

-- the seat with a cursor on the rows that the tree selects
abbrev pub opened_on : Seat → List ℕ → Option (List Row) → Seat
opened_on s tree rows = with_cursor s (free_handle s) (Some (opened (selected_by (restriction tree) rows)))
