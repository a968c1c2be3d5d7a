-- `table_handle::open_count` meets its contract: one for each cursor that is open. Assumes nothing.
use mathlib.Core.Path.{sym}
use Rattle.table.specs.Seat.{seat_in}
use Rattle.table.proofs.Handles.{count_two}
use Rattle.table_handle.proofs.open_count.Goals as goal

pub returns : goal.returns
returns c = sym (count_two (seat_in c.args.seat.now) c.is_open-first.result c.is_open-second.result c.is_open-first.ensures c.is_open-second.ensures)
