-- What is judged of a seat before a query is opened on it.
use Rattle.std.specs.Prelude.{◌≡◌, List, ℕ, Option, None, Some, Result}
use Rattle.table.specs.Seat.{Seat}
use Rattle.refusal.specs.Refusal.{first_cause}
use Rattle.refusal.specs.declared.Refusal.{Refusal}
use Rattle.refusal.specs.Numbers.{number_of}
use Rattle.table.specs.declared.Handle.{Handle}
use Rattle.query.specs.Open.{free_handle, handle_in, open_causes}

-- the handle that is opened: 0 on an unconnected seat
abbrev pub handle_for : Option Seat → ℕ
handle_for None = 0
handle_for (Some s) = free_handle s

-- the first of refusals 7, 14 and 16; where none applies, the lowest free handle, else 0
pub record Judged (held : Option Seat) (tree : List ℕ) (r : Result Handle Refusal) : Type 0 where
  pub refused : number_of r ≡ first_cause (open_causes held tree)
  pub given : number_of r ≡ 0 → handle_in r ≡ handle_for held
  pub none_given : (number_of r ≡ 0 → ⊥) → handle_in r ≡ 0
